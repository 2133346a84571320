use Rattle.std.proofs.Common.{rules, ◌≡◌, false, pos, ◌+◌, ◌-◌, get_or, arith, sym}
use Rattle.std.specs.Prelude.{int_lt}
use Rattle.std.proofs.lemmas.List.{get_or_default}
use Rattle.fm_decode.proofs.SwitchesLoops.{rising-true, rising-false}
use Rattle.fm_decode.proofs.switches.are_rising.Goals as goal

pub returns-then-keys-next : goal.returns-then-keys-next
returns-then-keys-next c =
    let keys = c.args.keys.now in
    let k = c.loop-next.next in
    let below : int_lt (get_or keys (k - 1) (pos 0)) (get_or keys k (pos 0)) ≡ false = search rules in
    let same : k - 1 + 1 ≡ k = omega arith in
    rising-false keys (k - 1) (omega arith)
    (λ d. rw (same, get_or_default keys (k - 1) d (pos 0) (omega arith), get_or_default keys k d (pos 0) (omega arith)) (sym below))

pub returns : goal.returns
returns c = rising-true c.args.keys.now (λ k d within. c.loop-next.invariant k d (omega arith))
