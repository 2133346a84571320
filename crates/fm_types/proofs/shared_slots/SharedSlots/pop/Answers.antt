use Rattle.std.proofs.Common.{◌≡◌, ◌∙◌, ◌-◌, ap, sym, subst, suc, ℕ, List, [], ◌∷◌, ◌++◌, take, arith}
use Rattle.std.proofs.Math.Seq.{take-suc}
use Rattle.fm_types.specs.States.{local_at}
use Rattle.fm_types.specs.declared.slots.Slot.{Slot}
use Rattle.fm_types.specs.declared.slots.Slot.TheVariants as slot
use Rattle.fm_types.specs.inner.Pieces.{AreEven, in_one}
use Rattle.fm_types.proofs.shared_slots.SharedSlots.pop.Goals as goal

pub returns-then-count-eq0-clause-none : goal.returns-then-count-eq0-clause-none
returns-then-count-eq0-clause-none c = λ none.
    sym c.self.view_is ∙ ap (λ (n : ℕ). take n (in_one c.self.inside.pieces.items)) c.if-count-eq0.true

pub slot_of-slot-requires : goal.slot_of-slot-requires
slot_of-slot-requires c = subst (λ (ps : List (List Slot)). AreEven ps) (sym c.as_slice.ensures.value) c.self.invariant.0

pub returns-clause-some : goal.returns-clause-some
returns-clause-some c =
    let xs = in_one c.self.inside.pieces.items in
    let last = c.self.inside.len - 1 in
    let more : c.self.inside.len ≡ suc last = omega (arith, c.if-count-eq0.false) in
    let same : c.slot_of-slot.result ≡ local_at xs last =
    c.slot_of-slot.ensures ∙ ap (λ (ps : List (List Slot)). local_at (in_one ps) last) c.as_slice.ensures.value in
    sym c.self.view_is ∙ ap (λ (n : ℕ). take n xs) more ∙ take-suc xs last slot.Top (omega (arith, more, c.self.invariant.1))
    ∙ ap (λ (s : Slot). take last xs ++ s ∷ []) (sym same)
