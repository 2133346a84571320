use Rattle.std.proofs.Common.{◌≡◌, ◌∙◌, ◌+◌, ◌++◌, ◌∷◌, [], List, ℕ, length, get_or, refl, take, unwrap_or, ap, sym, subst, arith, length-take-le}
use Rattle.std.proofs.lemmas.List.{length-map, take_all, take_more}
use Rattle.fm_place.proofs.GroupLemmas.{classes_push, groups_more}
use Rattle.fm_place.specs.inner.PlanRows.{classes_of, number_in, IsGroupsOf}
use Rattle.fm_place.proofs.groups.Groups.of.Goals as goal

pub loop-holder-preserved : goal.loop-holder-preserved
loop-holder-preserved c =
    let held = c.args.held.now in
    let i = c.loop-holder.holder in
    let pair = get_or held i (0, 0) in
    let before = number_in c.loop-holder.numbers in
    let after = number_in c.add_class.new.numbers in
    let old = classes_of (take i held) in
    let count : length old ≡ i = length-map (take i held) (λ (p : ℕ × ℕ). p.1) ∙ length-take-le i held (omega (arith, c.loop-holder-test.true)) in
    let is : c.in_ok-group.group ≡ unwrap_or (before pair.1) (length old) =
    c.in_ok-group.ensures.number ∙ ap (unwrap_or (before pair.1)) (sym count) in
    let more : classes_of (take (i + 1) held) ≡ old ++ pair.1 ∷ [] =
    ap classes_of (take_more held i (0, 0) c.loop-holder-test.true) ∙ classes_push (take i held) pair in
    subst (λ (list : List ℕ). IsGroupsOf list after c.push.new.self.items) (sym more)
    (subst (λ (list : List ℕ). IsGroupsOf (old ++ pair.1 ∷ []) after list) (sym c.in_ok-push.ensures.items)
    (groups_more old c.loop-holder.of_holders.items before after pair.1 c.in_ok-group.group c.loop-holder.invariant is c.in_ok-group.ensures.updates))

pub returns : goal.returns
returns c =
    let groups : IsGroupsOf (classes_of c.args.held.now) (number_in c.loop-holder.numbers) c.loop-holder.of_holders.items =
    subst (λ (list : List (ℕ × ℕ)). IsGroupsOf (classes_of list) (number_in c.loop-holder.numbers) c.loop-holder.of_holders.items)
    (take_all c.loop-holder.holder c.args.held.now c.loop-holder-test.false) c.loop-holder.invariant in
    (record { few = c.requires; numbered = groups }, refl)
