use Rattle.std.proofs.Common.{◌≡◌, refl, sym, ◌∙◌, ap, subst, ℕ, suc, ◌≤◌, not, Bool, true, false, List, length, map}
use Rattle.std.specs.Cmp.{booleans_Decides}
use Rattle.std.specs.List.{list_any}
use Rattle.std.proofs.lemmas.Bool.{false≢true}
use Rattle.std.proofs.lemmas.Slice.Eq.{slice_eq-Decides}
use Rattle.fm_link_supers.proofs.InterfaceLemmas.{deeper_stays, IsDeeper, round_done}
use Rattle.fm_link_supers.proofs.OnceEach.{any_once, once_count, settled_once}
use Rattle.fm_link_supers.proofs.PassedLemmas.{stays_passed}
use Rattle.fm_link_supers.specs.inner.InterfaceRounds.{AreFoundTo, is_set, HavePassed, ListsOnce, settled_to}
use Rattle.fm_link_supers.specs.inner.ListTables.{lists}
use Rattle.fm_world.specs.Chains.{listed_interfaces}
use Rattle.fm_world.specs.inner.Tables.{numbers_below}
use Rattle.fm_world.specs.declared.declarations.DeclaredClass.{DeclaredClass}
use Rattle.fm_link_supers.proofs.interfaces.Superinterfaces.go_deeper.Goals as goal

-- the round as the lemmas see it
before : (classes : List DeclaredClass) (round : ℕ) (c : goal.After-drop-self) → AreFoundTo classes round c.args.self.now
    → IsDeeper classes round c.args.self.now.leads_into_cycle.items (lists c.args.self.now.above.items)
before classes round c is = record { marks_are = is.goes_on; above_is = is.above }

-- what was passed, by the marks that were read
read : (c : goal.After-drop-self) → HavePassed c.args.self.now.leads_into_cycle.items (lists c.args.listed.now) c.args.passed.now.items
    → HavePassed c.as_slice.result.now (lists c.args.listed.now) c.args.passed.now.items
read c have = subst (λ m. HavePassed m (lists c.args.listed.now) c.args.passed.now.items) (sym c.as_slice.ensures.value) have

after : (classes : List DeclaredClass) (round : ℕ) (c : goal.After-drop-self) → ListsOnce classes c.args.listed.now → round ≤ length classes
    → AreFoundTo classes round c.args.self.now
    → HavePassed c.args.self.now.leads_into_cycle.items (lists c.args.listed.now) c.args.passed.now.items → IsDeeper classes (suc round) c.in_ok-deeper.deeper.items (lists c.settle.new.above.items)
after classes round c same few is have =
    let listed = lists c.args.listed.now in
    let count = length c.args.listed.now in
    let marks = c.args.self.now.leads_into_cycle.items in
    let deeper = c.in_ok-deeper.deeper.items in
    let above = lists c.args.self.now.above.items in
    let all = map (listed_interfaces classes) (numbers_below (length classes)) in
    round_done classes round count all marks deeper above (lists c.settle.new.above.items) refl (once_count classes c.args.listed.now same) few
    (before classes round c is) (c.in_ok-deeper.ensures.deeper (read c have) ∙ ap (λ m. map (list_any (is_set m)) listed) c.as_slice.ensures.value
    ∙ ap (map (list_any (is_set marks))) same ∙ any_once (is_set marks) all)
    (c.in_ok-settle.ensures ∙ ap (λ m. settled_to listed m c.as_slice-3.result.now above count) c.as_slice-2.ensures.value
    ∙ ap (λ m. settled_to listed marks m above count) c.as_slice-3.ensures.value
    ∙ ap (λ ls. settled_to ls marks deeper above count) same ∙ settled_once all marks deeper above count)

pub returns-clause-deeper : goal.returns-clause-deeper
returns-clause-deeper c classes round same few is have =
    let done = after classes round c same few is have in record { goes_on = done.marks_are; above = done.above_is }

pub returns-clause-passes : goal.returns-clause-passes
returns-clause-passes c classes round same few is have =
    let marks = c.args.self.now.leads_into_cycle.items in
    let listed = lists c.args.listed.now in
    let passed = c.one_deeper.new.passed.items in
    stays_passed classes round marks c.in_ok-deeper.deeper.items listed passed is.goes_on (after classes round c same few is have).marks_are
    (subst (λ m. HavePassed m listed passed) c.as_slice.ensures.value (c.in_ok-deeper.ensures.passes (read c have)))

-- no mark has changed
equal : (xs ys : List Bool) (r p : Bool) → r ≡ not p → r ≡ false → (true ≡ p → xs ≡ ys) → xs ≡ ys
equal xs ys r true e h same = same refl
equal xs ys r false e h same = absurd (false≢true (sym h ∙ e))

pub returns-clause-ends : goal.returns-clause-ends
returns-clause-ends c classes round later same few is have none h =
    let done = after classes round c same few is have in
    let unchanged = equal c.as_slice-4.result.now c.as_slice-5.result.now c.ne-goes_on.result _ c.ne-goes_on.ensures none
    (λ e. (slice_eq-Decides booleans_Decides c.as_slice-4.result.now c.as_slice-5.result.now true e).0 refl) in
    let stays = deeper_stays classes round later c.args.self.now.leads_into_cycle.items c.in_ok-deeper.deeper.items (lists c.args.self.now.above.items) (lists c.settle.new.above.items) h
    (before classes round c is) done (sym c.as_slice-4.ensures.value ∙ unchanged ∙ c.as_slice-5.ensures.value) in
    record { goes_on = stays.marks_are; above = stays.above_is }
