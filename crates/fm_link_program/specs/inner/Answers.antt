-- What a program looks up, copied out of what the linker looks up by.
use Rattle.std.specs.Prelude.{◌≡◌, ◌-◌, length, map, reverse, unwrap_or}
use Rattle.fm_link_supers.specs.declared.hierarchy.Hierarchy.{Hierarchy}
use Rattle.fm_link_members.specs.declared.lookups.Methods.{Methods}
use Rattle.fm_link_supers.specs.inner.ListTables.{lists}
use Rattle.fm_link_records.specs.inner.Own.{AreOwnTables}
use Rattle.fm_link_program.specs.declared.answers.Answers.{Answers}
use Rattle.fm_link_program.specs.inner.MemberLists.{flags_in}

-- the lists and the tables are those of the linker; a display is a chain from its end on
pub record AreAnswers (h : Hierarchy) (m : Methods) (a : Answers) : Type 0 where
  pub displays : a.displays.items ≡ map reverse (lists h.chains.items)
  pub interfaces : a.interfaces.items ≡ lists h.interfaces.items
  pub signatures : a.signatures.items ≡ m.signatures.of_members.items
  pub nodes : a.selected.nodes.items ≡ m.selectable.layers.nodes.items
  pub levels : a.selected.levels ≡ m.selectable.layers.levels
  pub tops : a.tops.items ≡ m.selectable.tops.items
  pub one_each : length a.own.items ≡ length m.members.first.items - 1
  pub own : AreOwnTables m.members.first.items m.signatures.of_members.items (flags_in m.members.rows.items) a.own.items
  pub object : a.object ≡ unwrap_or h.object 0
