use Rattle.std.proofs.Common.{◌≡◌, ◌≢◌, ◌<◌, ◌≤◌, ◌∙◌, sym, ap, subst, ⊎_elim, ℕ, Contains, length, arith}
use Rattle.std.proofs.lemmas.Bool.{cases_eq, cases_lt}
use Rattle.std.proofs.lemmas.List.{get_or_past}
use Rattle.fm_types.specs.States.{local_at}
use Rattle.fm_types.specs.declared.slots.Slot.TheVariants as slot
use Rattle.fm_check_walk.proofs.risen.differing_places.Goals as goal

pub loop-index-preserved : goal.loop-index-preserved
loop-index-preserved c = λ k below without.
    let index = c.loop-index.index in
    let slots = c.args.slots.now in
    let others = c.args.others.now in
    let placed = c.in_ok-push_if_other.ensures in
    ⊎_elim
    (λ (here : k ≡ index).
    let never : Contains c.push_if_other.new.places.items index → ⊥ = λ found.
    without (subst (λ (n : ℕ). Contains c.push_if_other.new.places.items n) (sym here) found) in
    ap (λ n. local_at slots n) here ∙ sym c.slot.ensures ∙ placed.placed never ∙ c.slot-in-loop-index.ensures ∙ ap (λ n. local_at others n) (sym here))
    (λ (apart : k ≢ index). c.loop-index.invariant k (omega arith) (λ found. without (placed.still k found)))
    (cases_eq k index)

pub returns : goal.returns
returns c = λ k without.
    let slots = c.args.slots.now in
    let others = c.args.others.now in
    ⊎_elim
    (λ (inside : k < length slots). c.loop-index.invariant k (omega (arith, inside, c.len-index-end.ensures)) without)
    (λ (past : length slots ≤ k).
    get_or_past slots k slot.Top past ∙ sym (get_or_past others k slot.Top (omega (arith, past, c.requires.level))))
    (cases_lt k (length slots))
