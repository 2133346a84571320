use Rattle.std.proofs.Common.{◌≡◌, ◌∙◌, ◌<◌, sym, ap, subst, List, [], ◌∷◌, ◌++◌, length, take, drop, arith}
use Rattle.std.specs.List.{All}
use Rattle.std.proofs.lemmas.List.{append_assoc, take-append-drop, length-take-le}
use Rattle.std.proofs.lemmas.List.Elements.{All-append, All-cons}
use Rattle.fm_types.proofs.PieceLemmas.{AreEven-made, in_one-push}
use Rattle.fm_types.specs.declared.slots.Slot.{Slot}
use Rattle.fm_types.specs.inner.Pieces.{AreEven, in_one}
use Rattle.fm_types.proofs.shared_slots.cut.Invariants.{IsCut}
use Rattle.fm_types.proofs.shared_slots.cut.Goals as goal

-- one piece more is cut off
more : (slots piece others rest : List Slot) (pieces : List (List Slot)) → IsCut slots pieces rest → 32 < length rest → piece ≡ take 32 rest → others ≡ drop 32 rest
    → IsCut slots (pieces ++ piece ∷ []) others
more slots piece others rest pieces cut long first later = record {
  whole = All-append (λ (p : List Slot). length p ≡ 32) pieces (piece ∷ []) cut.whole one;
  same = ap (λ (xs : List Slot). xs ++ others) (in_one-push pieces piece) ∙ append_assoc (in_one pieces) piece others
      ∙ ap (λ (xs : List Slot). in_one pieces ++ xs) (again ∙ take-append-drop 32 rest) ∙ cut.same;
} where
  size : length piece ≡ 32
  size = ap length first ∙ length-take-le 32 rest (omega (arith, long))

  again : piece ++ others ≡ take 32 rest ++ drop 32 rest
  again = ap (λ (xs : List Slot). xs ++ others) first ∙ ap (λ (xs : List Slot). take 32 rest ++ xs) later

  one : All (λ (p : List Slot). length p ≡ 32) (piece ∷ [])
  one = All-cons (λ (p : List Slot). length p ≡ 32) piece [] size (λ k d inside. absurd (omega (arith, inside)))

pub loop-rest-smaller : goal.loop-rest-smaller
loop-rest-smaller c = omega (arith, c.split_at.ensures.back_len)

pub loop-rest-preserved : goal.loop-rest-preserved
loop-rest-preserved c =
    subst (λ (ps : List (List Slot)). IsCut c.args.slots.now ps c.split_at.result.1.now) (sym c.in_ok-push.ensures.items)
    (more c.args.slots.now c.in_ok-piece_of.field-0 c.split_at.result.1.now c.loop-rest.rest.now c.loop-rest.pieces.items c.loop-rest.invariant
    c.loop-rest-test.true (c.in_ok-piece_of.ensures ∙ c.split_at.ensures.front) c.split_at.ensures.back)

pub returns-clause-even : goal.returns-clause-even
returns-clause-even c =
    let pieces = c.loop-rest.pieces.items in
    let last = c.in_ok-piece_of-2.field-0 in
    let is : last ≡ c.loop-rest.rest.now = c.in_ok-piece_of-2.ensures in
    let size = ap length is in
    let all = c.loop-rest-test.false in
    subst (λ (ps : List (List Slot)). AreEven ps) (sym c.in_ok-push-2.ensures.items)
    (AreEven-made pieces last c.loop-rest.invariant.whole (omega (arith, size, all)))

pub returns-clause-slots : goal.returns-clause-slots
returns-clause-slots c =
    let pieces = c.loop-rest.pieces.items in
    let last = c.in_ok-piece_of-2.field-0 in
    ap in_one c.in_ok-push-2.ensures.items ∙ in_one-push pieces last ∙ ap (λ (xs : List Slot). in_one pieces ++ xs) c.in_ok-piece_of-2.ensures
    ∙ c.loop-rest.invariant.same
