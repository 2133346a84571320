use Rattle.std.proofs.Common.{◌∙◌, sym, ap, subst, List, [], ◌∷◌, ◌++◌, arith}
use Rattle.fm_check_walk.proofs.PutLemmas.{PutsLocals-none, PutsLocals-one}
use Rattle.fm_check_walk.specs.declared.risen.Rise.{Rise}
use Rattle.fm_check_walk.specs.inner.Risen.{IsThisLocal, PutsLocals}
use Rattle.fm_types.specs.Typings.{type_state}
use Rattle.fm_types.specs.declared.known_state.SlotPlace.TheVariants as place
use Rattle.fm_types.specs.declared.slots.Slot.{Slot}
use Rattle.fm_check_walk.proofs.risen.push_local.Goals as goal

pub returns-then-local-most : goal.returns-then-local-most
returns-then-local-most c =
    PutsLocals-none (IsThisLocal c.args.local c.args.count) (λ k. ⊥) (type_state c.args.state.now) c.args.rises.now.items
    (λ k passes. let same = passes.same in let below = passes.below in omega (arith, same, below, c.if-local-most.true, c.from-most.ensures))

pub returns : goal.returns
returns c =
    let s = type_state c.args.state.now in
    let old = c.args.rises.now.items in
    let rise : Slot → Rise = λ x. record { place = place.Local c.args.local; slot = x } in
    let Puts : List Rise → Type 0 = λ new. PutsLocals (IsThisLocal c.args.local c.args.count) (λ k. ⊥) s old new in
    subst Puts (sym (c.in_ok-push.ensures.items ∙ ap (λ (x : Slot). old ++ rise x ∷ []) c.slot-slot.ensures)) (PutsLocals-one c.args.local c.args.count s old)
