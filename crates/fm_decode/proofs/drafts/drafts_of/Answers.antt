use Rattle.std.proofs.Common.{◌≡◌, ℕ, ◌+◌, ◌++◌, ◌∷◌, [], length, List, sym, ap, subst, arith, drop, length-drop}
use Rattle.std.proofs.lemmas.Result.{err_from_is_err_and}
use Rattle.fm_code.specs.declared.code_array.Item.{Item}
use Rattle.fm_decode.proofs.GivesLemmas.{is_memory}
use Rattle.fm_decode.proofs.DraftsLemmas.{IsReadUpTo, read_nothing, read_more, read_all, read_only, read_next, front_size}
use Rattle.fm_decode.proofs.drafts.drafts_of.Goals as goal

pub returns-in_err-item-clause-read : goal.returns-in_err-item-clause-read
returns-in_err-item-clause-read c = λ items are.
    let next = read_next c.args.code.now c.loop-at.drafts.items c.loop-at.at c.loop-at-test.true c.loop-at.invariant.read items are in
    let p = err_from_is_err_and c.from_residual.result c.from_residual.ensures.1 in
    rw (p.1, p.2) (is_memory {T = Item} c.in_err-item.field-0.0 (λ e. c.in_err-item.ensures.malformed e next.0 next.1))

pub loop-at-init : goal.loop-at-init
loop-at-init c = record {
  within = omega arith;
  read = subst (λ (items : List Item). IsReadUpTo c.args.code.now items 0) (sym c.new-drafts.ensures.items) (read_nothing c.args.code.now);
}

pub loop-at-smaller : goal.loop-at-smaller
loop-at-smaller c =
    let front = front_size c.loop-at.at (drop c.loop-at.at c.args.code.now) c.in_ok-item.item c.in_ok-item.ensures.found in
    let size : length c.as_slice.result.now ≡ length c.in_ok-item.item.bytes = ap length c.as_slice.ensures in
    omega (arith, front.some, front.within, length-drop c.loop-at.at c.args.code.now)

pub loop-at-preserved : goal.loop-at-preserved
loop-at-preserved c =
    let at = c.loop-at.at in
    let front = front_size at (drop at c.args.code.now) c.in_ok-item.item c.in_ok-item.ensures.found in
    let size : length c.as_slice.result.now ≡ length c.in_ok-item.item.bytes = ap length c.as_slice.ensures in
    let items = c.loop-at.drafts.items ++ c.in_ok-item.item ∷ [] in
    let more = read_more c.args.code.now c.loop-at.drafts.items at c.in_ok-item.item c.loop-at.invariant.read c.in_ok-item.ensures.found in
    let further = subst (λ (n : ℕ). IsReadUpTo c.args.code.now items (at + n)) (sym size) more in
    record {
      within = omega (arith, front.some, front.within, length-drop at c.args.code.now);
      read = subst (λ (all : List Item). IsReadUpTo c.args.code.now all (at + length c.as_slice.result.now)) (sym c.in_ok-push.ensures.items) further;
    }

pub returns-clause-found : goal.returns-clause-found
returns-clause-found c = read_all c.args.code.now c.loop-at.drafts.items c.loop-at.at c.loop-at-test.false c.loop-at.invariant.read

pub returns-clause-read : goal.returns-clause-read
returns-clause-read c = read_only c.args.code.now c.loop-at.drafts.items c.loop-at.at c.loop-at-test.false c.loop-at.invariant.read
