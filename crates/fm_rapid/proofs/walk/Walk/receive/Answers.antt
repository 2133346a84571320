use Rattle.std.proofs.Common.{◌≡◌, ◌∙◌, sym, arith, ap, subst, List, ℕ, Contains, length}
use Rattle.std.specs.List.{filter_map}
use Rattle.std.specs.Global.{Vec}
use Rattle.fm_rapid.proofs.Elements.{with_one-listed}
use Rattle.fm_rapid.proofs.WalkSteps.{marks_in, received_step, selected_needed}
use Rattle.fm_flow.specs.inner.LiveWalks.{list_of}
use Rattle.fm_rapid.specs.inner.Walks.{sets_of, IsBelow}
use Rattle.fm_summ.specs.inner.Callers.{lists_of}
use Rattle.fm_world.specs.Lookups.{select}
use Rattle.fm_rapid.proofs.walk.Walk.receive.Goals as goal

pub list_at-requires : goal.list_at-requires
list_at-requires c =
    let size = c.requires.walk.lengths.called in
    let same = ap (λ (lists : List (Vec ℕ)). length (lists_of lists)) c.as_slice.ensures.value in
    omega (arith, c.requires.named, size, same)

pub selected_by-requires-clause-methods : goal.selected_by-requires-clause-methods
selected_by-requires-clause-methods c = λ k found.
    let listed : c.list_at.result.now ≡ list_of (lists_of c.args.self.now.called.items) c.args.named =
    c.list_at.ensures ∙ ap (λ (lists : List (Vec ℕ)). list_of (lists_of lists) c.args.named) c.as_slice.ensures.value in
    (c.requires.walk.called c.args.named k (subst (λ (xs : List ℕ). Contains xs k) listed found)).inside

pub mark-requires : goal.mark-requires
mark-requires c =
    let p = c.args.program.now in
    let w = sets_of c.args.self.now in
    let below : IsBelow p c.args.self.now.made c.args.named c.args.class.0 = record { inside = c.requires.class; is_made = c.requires.made; receives = c.requires.receives } in
    let listed : c.list_at.result.now ≡ list_of (lists_of c.args.self.now.called.items) c.args.named =
    c.list_at.ensures ∙ ap (λ (lists : List (Vec ℕ)). list_of (lists_of lists) c.args.named) c.as_slice.ensures.value in
    let is = c.as_slice-2.ensures.value ∙ c.in_ok-listed.ensures ∙ ap (filter_map (select p.outline.classes c.args.class.0)) listed in
    marks_in p w (filter_map (select p.outline.classes c.args.class.0) (list_of w.called c.args.named)) c.as_slice-2.result.now c.requires.walk
    (selected_needed p w c.args.named c.args.class.0 c.requires.walk below) is

pub push_at-requires : goal.push_at-requires
push_at-requires c = let size = c.requires.walk.lengths.below in omega (arith, c.requires.named, size)

pub returns-clause-goes : goal.returns-clause-goes
returns-clause-goes c =
    let p = c.args.program.now in
    let below : IsBelow p c.args.self.now.made c.args.named c.args.class.0 = record { inside = c.requires.class; is_made = c.requires.made; receives = c.requires.receives } in
    let listed : c.list_at.result.now ≡ list_of (lists_of c.args.self.now.called.items) c.args.named =
    c.list_at.ensures ∙ ap (λ (lists : List (Vec ℕ)). list_of (lists_of lists) c.args.named) c.as_slice.ensures.value in
    let is = c.as_slice-2.ensures.value ∙ c.in_ok-listed.ensures ∙ ap (filter_map (select p.outline.classes c.args.class.0)) listed in
    received_step p (sets_of c.args.self.now) c.args.named c.args.class.0 c.as_slice-2.result.now c.mark.new.reached c.mark.new.waiting.items
    (lists_of c.push_at.new.lists.items) c.requires.walk c.requires.named below is c.in_ok-mark.ensures c.in_ok-push_at.ensures

pub returns-clause-listed : goal.returns-clause-listed
returns-clause-listed c =
    let size = c.requires.walk.lengths.below in
    subst (λ (lists : List (List ℕ)). Contains (list_of lists c.args.named) c.args.class.0) (sym c.in_ok-push_at.ensures)
    (with_one-listed (lists_of c.args.self.now.below.items) c.args.named c.args.class.0 (omega (arith, c.requires.named, size)))
