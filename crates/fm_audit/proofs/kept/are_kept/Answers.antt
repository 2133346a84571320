use Rattle.std.proofs.Common.{◌≡◌, ◌-◌, ◌∙◌, ◌↔◌, sym, ap, subst, refl, length, drop, ◌+◌, List, ℕ}
use Rattle.std.proofs.lemmas.Bool.{false≢true}
use Rattle.fm_code.specs.declared.code_array.Item.{Item}
use Rattle.fm_audit.proofs.KeptLemmas.{following, kept_end, kept_more, kept_read, kept_stops, read_kept}
use Rattle.fm_audit.specs.Reading.{after_frees, after_nulls, after_taken, kept_count, taken}
use Rattle.fm_audit.specs.SafeParts.{AreKeptFrom, IsKept}
use Rattle.fm_audit.proofs.kept.are_kept.Goals as goal

pub loop-item-init : goal.loop-item-init
loop-item-init c =
    subst (λ (l : List Item). AreKeptFrom c.args.free c.args.first c.in_ok-anchors.anchors.items (length c.args.new.now) c.args.old.now (after_nulls c.args.first c.args.new.now)
    ↔ AreKeptFrom c.args.free c.args.first c.in_ok-anchors.anchors.items (length c.args.new.now) c.args.old.now l)
    (sym c.after_nulls-rest.ensures) (λ kept. kept, λ kept. kept)

pub loop-item-preserved : goal.loop-item-preserved
loop-item-preserved c =
    let free = c.args.free in
    let first = c.args.first in
    let old = c.args.old.now in
    let new = c.args.new.now in
    let anchors = c.in_ok-anchors.anchors.items in
    let rest = c.loop-item.rest.now in
    let item = c.item-item.result in
    let here_is = c.after_frees-here.ensures in
    let number_is = c.number_of-number.ensures.is ∙ ap (λ (l : List Item). length new - length l) here_is in
    let kept : IsKept anchors (length new - length (after_frees free first rest)) item (after_frees free first rest) =
    subst (λ (q : List ℕ × (ℕ × List Item)). IsKept q.0 q.1.0 item q.1.1) (λ k. (c.as_slice.ensures.value k, (number_is k, here_is k)))
    (c.in_ok-kept.ensures.is.0 c.if-not-kept.false) in
    let after : c.after_taken-rest.result.now ≡ following free first item rest =
    c.after_taken-rest.ensures
    ∙ ap (λ (l : List Item). after_taken (taken first l) l) (c.after_kept.ensures ∙ ap (λ (l : List Item). drop (kept_count item l) l) here_is) in
    subst (λ (l : List Item). AreKeptFrom free first anchors (length new) old (after_nulls first new)
    ↔ AreKeptFrom free first anchors (length new) (drop (c.loop-item.item-index + 1) old) l) (sym after)
    (kept_more free first anchors old new c.loop-item.item-index item rest c.loop-item-test.true c.item-item.is c.loop-item.invariant kept)

pub returns-then-not-kept : goal.returns-then-not-kept
returns-then-not-kept c =
    let free = c.args.free in
    let first = c.args.first in
    let old = c.args.old.now in
    let new = c.args.new.now in
    let anchors = c.in_ok-anchors.anchors.items in
    let rest = c.loop-item.rest.now in
    let item = c.item-item.result in
    let here_is = c.after_frees-here.ensures in
    let number_is = c.number_of-number.ensures.is ∙ ap (λ (l : List Item). length new - length l) here_is in
    let never : IsKept anchors (length new - length (after_frees free first rest)) item (after_frees free first rest) → ⊥ = λ here.
    false≢true (sym c.if-not-kept.true ∙ c.in_ok-kept.ensures.is.1
    (subst (λ (q : List ℕ × (ℕ × List Item)). IsKept q.0 q.1.0 item q.1.1) (λ k. (sym c.as_slice.ensures.value k, (sym number_is k, sym here_is k))) here)) in
    λ few. (
      λ is. absurd (false≢true is),
      λ kept. absurd (kept_stops free first anchors old new c.loop-item.item-index item rest c.loop-item-test.true c.item-item.is c.loop-item.invariant never
          (kept_read free first anchors old new c.in_ok-anchors.ensures kept)),
    )

pub returns : goal.returns
returns c =
    let free = c.args.free in
    let first = c.args.first in
    let old = c.args.old.now in
    let new = c.args.new.now in
    let anchors = c.in_ok-anchors.anchors.items in
    λ few. (
      λ is. read_kept free first anchors old new c.in_ok-anchors.ensures
          (kept_end free first anchors old new c.loop-item.item-index c.loop-item.rest.now c.loop-item-test.false c.loop-item.invariant),
      λ kept. refl,
    )
