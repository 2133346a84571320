use Rattle.std.proofs.Common.{◌≡◌, ◌∙◌, sym, arith, ap, subst, List, ℕ, Option, Contains, length}
use Rattle.std.specs.List.{filter_map}
use Rattle.std.specs.Global.{Vec}
use Rattle.fm_rapid.proofs.Elements.{with_one-listed}
use Rattle.fm_rapid.proofs.WalkSteps.{called_step, Goes-none, marks_in, selected_for_needed}
use Rattle.fm_flow.specs.inner.LiveWalks.{list_of}
use Rattle.fm_rapid.specs.inner.Walks.{sets_of, IsCalled}
use Rattle.fm_summ.specs.inner.Callers.{lists_of}
use Rattle.fm_world.specs.Lookups.{select}
use Rattle.fm_rapid.proofs.walk.Walk.list_call.Goals as goal

pub is_listed-requires : goal.is_listed-requires
is_listed-requires c = let size = c.requires.walk.lengths.called in omega (arith, c.requires.named, size)

pub returns-then-is_listed-clause-goes : goal.returns-then-is_listed-clause-goes
returns-then-is_listed-clause-goes c = Goes-none c.args.program.now (sets_of c.args.self.now) c.requires.walk

pub returns-then-is_listed-clause-listed : goal.returns-then-is_listed-clause-listed
returns-then-is_listed-clause-listed c = c.is_listed.ensures c.if-is_listed.true

pub list_at-below-requires : goal.list_at-below-requires
list_at-below-requires c =
    let size = c.requires.walk.lengths.below in
    let same = ap (λ (lists : List (Vec ℕ)). length (lists_of lists)) c.as_slice.ensures.value in
    omega (arith, c.requires.named, size, same)

pub selected_for-requires-clause-classes : goal.selected_for-requires-clause-classes
selected_for-requires-clause-classes c = λ k found.
    let listed : c.list_at-below.result.now ≡ list_of (lists_of c.args.self.now.below.items) c.args.named.0 =
    c.list_at-below.ensures ∙ ap (λ (lists : List (Vec ℕ)). list_of (lists_of lists) c.args.named.0) c.as_slice.ensures.value in
    (c.requires.walk.below c.args.named.0 k (subst (λ (xs : List ℕ). Contains xs k) listed found)).inside

pub mark-requires : goal.mark-requires
mark-requires c =
    let p = c.args.program.now in
    let w = sets_of c.args.self.now in
    let called : IsCalled p c.args.named.0 c.args.method.0 = record { inside = c.requires.method; needed = c.requires.needed } in
    let find : ℕ → Option ℕ = λ class. select p.outline.classes class c.args.method.0 in
    let listed : c.list_at-below.result.now ≡ list_of (lists_of c.args.self.now.below.items) c.args.named.0 =
    c.list_at-below.ensures ∙ ap (λ (lists : List (Vec ℕ)). list_of (lists_of lists) c.args.named.0) c.as_slice.ensures.value in
    let is = c.as_slice-2.ensures.value ∙ c.in_ok-listed.ensures ∙ ap (filter_map find) listed in
    marks_in p w (filter_map find (list_of w.below c.args.named.0)) c.as_slice-2.result.now c.requires.walk
    (selected_for_needed p w c.args.named.0 c.args.method.0 c.requires.walk called) is

pub push_at-requires : goal.push_at-requires
push_at-requires c = let size = c.requires.walk.lengths.called in omega (arith, c.requires.named, size)

pub returns-clause-goes : goal.returns-clause-goes
returns-clause-goes c =
    let p = c.args.program.now in
    let called : IsCalled p c.args.named.0 c.args.method.0 = record { inside = c.requires.method; needed = c.requires.needed } in
    let find : ℕ → Option ℕ = λ class. select p.outline.classes class c.args.method.0 in
    let listed : c.list_at-below.result.now ≡ list_of (lists_of c.args.self.now.below.items) c.args.named.0 =
    c.list_at-below.ensures ∙ ap (λ (lists : List (Vec ℕ)). list_of (lists_of lists) c.args.named.0) c.as_slice.ensures.value in
    let is = c.as_slice-2.ensures.value ∙ c.in_ok-listed.ensures ∙ ap (filter_map find) listed in
    called_step p (sets_of c.args.self.now) c.args.named.0 c.args.method.0 c.as_slice-2.result.now c.mark.new.reached c.mark.new.waiting.items
    (lists_of c.push_at.new.lists.items) c.requires.walk c.requires.named called is c.in_ok-mark.ensures c.in_ok-push_at.ensures

pub returns-clause-listed : goal.returns-clause-listed
returns-clause-listed c =
    let size = c.requires.walk.lengths.called in
    subst (λ (lists : List (List ℕ)). Contains (list_of lists c.args.named.0) c.args.method.0) (sym c.in_ok-push_at.ensures)
    (with_one-listed (lists_of c.args.self.now.called.items) c.args.named.0 c.args.method.0 (omega (arith, c.requires.named, size)))

pub list_at-called-requires : goal.list_at-called-requires
list_at-called-requires c =
    let size = c.requires.walk.lengths.called in
    let same = ap (λ (lists : List (Vec ℕ)). length (lists_of lists)) c.as_slice-3.ensures.value in
    omega (arith, c.requires.named, size, same)
