use Rattle.std.proofs.Common.{refl, sym, ◌∙◌, ap, ◌+◌, ◌++◌, [], ℕ, drop, get_or, List}
use Rattle.std.proofs.lemmas.List.{drop_all}
use Rattle.std.specs.Borrow.{Bor}
use Rattle.std.specs.Global.{Vec}
use Rattle.std.specs.List.{filter_map}
use Rattle.fm_link_names.specs.inner.ClassNumbering.{number_in}
use Rattle.fm_link_supers.proofs.NamedParentLemmas.{filter_map_same}
use Rattle.fm_link_supers.proofs.TableSteps.{filter_map_none, filter_map_some, none_left, read_is}
use Rattle.fm_link_supers.proofs.parent_tables.listed_by_built_in.Goals as goal
use Rattle.fm_link_supers.proofs.parent_tables.listed_by_built_in.Goals.{in-Some+in_ok-push, in_default}

pub loop-name-preserved : goal.loop-name-preserved
loop-name-preserved c =
    let find = λ (i : Bor (List ℕ)). number_in c.args.numbers.now.numbers i.now in
    let names = c.args.class.now.interfaces.now in
    let i = c.loop-name.name-index in
    let here = get_or names i (record { ref_ptr = (0, 0); now = [] }) in
    let is = read_is names i (record { ref_ptr = (0, 0); now = [] }) c.loop-name-test.true in
    let found = c.number.ensures ∙ ap (number_in c.args.numbers.now.numbers) c.as_bytes.ensures.value in
    elim c.match-number.branch [
      | in-Some+in_ok-push w ↦
          filter_map_some find names i here c.loop-name.interfaces.items c.match-number.interfaces.items (filter_map find names) w.in-Some.interface c.loop-name-test.true is
          (sym found ∙ w.in-Some.is) (ap (λ (v : Vec ℕ). v.items) w.interfaces-is ∙ w.in_ok-push.ensures.items) c.loop-name.invariant
      | in_default w ↦
          ap (λ (v : Vec ℕ). v.items ++ filter_map find (drop (i + 1) names)) w.interfaces-is
          ∙ filter_map_none find names i here c.loop-name.interfaces.items (filter_map find names) c.loop-name-test.true is (sym found ∙ w.in_default.is) c.loop-name.invariant
    ]

pub returns : goal.returns
returns c =
    let find = λ (i : Bor (List ℕ)). number_in c.args.numbers.now.numbers i.now in
    let names = c.args.class.now.interfaces.now in
    none_left c.loop-name.interfaces.items (filter_map find (drop c.loop-name.name-index names)) (filter_map find names)
    (ap (filter_map find) (drop_all c.loop-name.name-index names c.loop-name-test.false)) c.loop-name.invariant
    ∙ filter_map_same find (number_in c.args.numbers.now.numbers) (λ (i : Bor (List ℕ)). i.now) (λ i. refl) names
