use Rattle.std.proofs.Common.{◌≡◌, ℕ, length, filter}
use Rattle.std.specs.List.{filter_map, range_with_len}
use Rattle.fm_world.specs.Lookups.{select}
use Rattle.fm_world.specs.Members.{methods_of}
use Rattle.fm_world.specs.Programs.{Program, takes_class}
use Rattle.fm_base.specs.declared.kinds.TypeRef.{TypeRef}
use Rattle.fm_world.specs.inner.Marks.{AreMarked}
use Rattle.std.proofs.Common.{List, Bool}
use Rattle.fm_world.proofs.program.Program.found_targets.Given as goal

-- what is selected for the classes so far is marked
pub record MarksSelected (p : Program) (named : TypeRef) (method : ℕ) (marks : List Bool) (class : ℕ) : Type 0 where
  pub each : length marks ≡ length (methods_of p.outline.classes)
  pub are : AreMarked marks (filter_map (λ k. select p.outline.classes k method) (filter (takes_class p named) (range_with_len 0 class)))

abbrev pub invariant-loop-class : goal.invariant-loop-class
invariant-loop-class l = MarksSelected l.self l.named l.m.0 l.marks.items l.class
