use Rattle.std.proofs.Common.{sym, ◌∙◌, ap, ◌+◌, ◌<◌, ◌++◌, ℕ, length, drop, get_or, subst}
use Rattle.std.specs.Global.{Vec}
use Rattle.std.specs.List.{filter_map}
use Rattle.fm_link_names.specs.inner.ClassNumbering.{number_in}
use Rattle.fm_link_supers.proofs.TableSteps.{filter_map_none, filter_map_some, read_is}
use Rattle.fm_link_supers.specs.inner.NamedParents.{class_listed_in}
use Rattle.fm_link_supers.proofs.parent_tables.listed_by_file.Goals as goal
use Rattle.fm_link_supers.proofs.parent_tables.listed_by_file.Goals.{in-Some+in_ok-push, in_default}

pub loop-index-preserved : goal.loop-index-preserved
loop-index-preserved c =
    let find = class_listed_in (number_in c.args.numbers.now.numbers) c.args.by_text.now c.args.file.now in
    let indices = c.args.file.now.class.now.interfaces in
    let same = c.as_slice-index-items.ensures in
    let i = c.loop-index.index-index in
    let within : i < length indices = subst (λ xs. i < length xs) same c.loop-index-test.true in
    let here = get_or indices i 0 in
    let found = c.class_listed.ensures ∙ ap (λ xs. find (get_or xs i 0)) same in
    let is = read_is indices i 0 within in
    elim c.match-class_listed.branch [
      | in-Some+in_ok-push w ↦
          filter_map_some find indices i here c.loop-index.interfaces.items c.match-class_listed.interfaces.items (filter_map find indices) w.in-Some.interface within is
          (sym found ∙ w.in-Some.is) (ap (λ (v : Vec ℕ). v.items) w.interfaces-is ∙ w.in_ok-push.ensures.items) c.loop-index.invariant
      | in_default w ↦
          ap (λ (v : Vec ℕ). v.items ++ filter_map find (drop (i + 1) indices)) w.interfaces-is
          ∙ filter_map_none find indices i here c.loop-index.interfaces.items (filter_map find indices) within is (sym found ∙ w.in_default.is) c.loop-index.invariant
    ]
