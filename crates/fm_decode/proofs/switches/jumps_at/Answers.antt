use Rattle.std.proofs.Common.{◌≡◌, Some, rules, ℕ, List, ◌-◌, ◌+◌, sym, ap, ◌∙◌}
use Rattle.std.proofs.lemmas.Result.{err_from_is_err_and}
use Rattle.fm_decode.specs.inner.Gives.{Fails}
use Rattle.fm_decode.specs.inner.Switches.{take_number, target_at, jumps_at}
use Rattle.fm_decode.proofs.GivesLemmas.{fails_from}
use Rattle.fm_decode.proofs.SwitchesLoops.{behind, jumps_at-more, jumps_at-no_number, jumps_at-no_target, jumps_at-end}
use Rattle.fm_decode.proofs.switches.jumps_at.Goals as goal

pub returns-in_err-jump : goal.returns-in_err-jump
returns-in_err-jump c =
    let p = err_from_is_err_and c.from_residual-in_err-jump.result c.from_residual-in_err-jump.ensures.1 in
    rw (p.1, p.2)
    (fails_from c.in_err-jump.field-0.0 (take_number c.loop.rest.now) (jumps_at c.args.at c.args.count c.args.bytes.now)
    (λ none. jumps_at-no_number c.args.at c.args.count c.loop.counter _ c.loop.targets.items c.loop.rest.now c.loop-test.true c.loop.invariant none)
    c.in_err-jump.ensures)

pub returns-in_err-target_at : goal.returns-in_err-target_at
returns-in_err-target_at c =
    let p = err_from_is_err_and c.from_residual-in_err-target_at.result c.from_residual-in_err-target_at.ensures.1 in
    let number : take_number c.loop.rest.now ≡ Some (c.in_ok-jump.jump, c.in_ok-jump.after.now) = search rules in
    let failed : Fails c.in_err-target_at.field-0.0 (target_at c.args.at c.in_ok-jump.jump) = search rules in
    rw (p.1, p.2)
    (fails_from c.in_err-target_at.field-0.0 (target_at c.args.at c.in_ok-jump.jump) (jumps_at c.args.at c.args.count c.args.bytes.now)
    (λ none. jumps_at-no_target c.args.at c.args.count c.loop.counter _ c.loop.targets.items c.loop.rest.now c.in_ok-jump.jump c.in_ok-jump.after.now
    c.loop-test.true c.loop.invariant number none)
    failed)

pub loop-preserved : goal.loop-preserved
loop-preserved c =
    let number : take_number c.loop.rest.now ≡ Some (c.in_ok-jump.jump, c.in_ok-jump.after.now) = search rules in
    let found : target_at c.args.at c.in_ok-jump.jump ≡ Some c.in_ok-target_at.field-0 = search rules in
    let more = jumps_at-more c.args.at c.args.count c.loop.counter _ c.loop.targets.items c.loop.rest.now c.in_ok-jump.jump c.in_ok-jump.after.now c.in_ok-target_at.field-0
    c.loop-test.true c.loop.invariant number found in
    more ∙ ap (λ (front : List ℕ). behind front (jumps_at c.args.at (c.args.count - (c.loop.counter + 1)) c.in_ok-jump.after.now)) (sym c.in_ok-push.ensures.items)

pub returns : goal.returns
returns c = jumps_at-end c.args.at c.args.count c.loop.counter _ c.loop.targets.items c.loop.rest.now c.loop-test.false c.loop.invariant
