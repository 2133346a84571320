use Rattle.std.proofs.Common.{◌≡◌, Some, rules, ◌++◌, ◌∷◌, []}
use Rattle.std.proofs.lemmas.Result.{err_from_is_err_and}
use Rattle.fm_decode.specs.inner.Gives.{Fails}
use Rattle.fm_decode.specs.inner.Switches.{take_number, target_at, pairs_at}
use Rattle.fm_decode.proofs.GivesLemmas.{fails_from}
use Rattle.fm_decode.proofs.SwitchesLoops.{pairs_at-more, pairs_at-no_key, pairs_at-no_jump, pairs_at-no_target, pairs_at-end}
use Rattle.fm_decode.proofs.switches.pairs_at.Goals as goal

pub returns-in_err-key : goal.returns-in_err-key
returns-in_err-key c =
    let p = err_from_is_err_and c.from_residual-in_err-key.result c.from_residual-in_err-key.ensures.1 in
    rw (p.1, p.2)
    (fails_from c.in_err-key.field-0.0 (take_number c.loop.rest.now) (pairs_at c.args.at c.args.count c.args.bytes.now)
    (λ none. pairs_at-no_key c.args.at c.args.count c.loop.counter _ c.loop.keys.items c.loop.targets.items c.loop.rest.now c.loop-test.true c.loop.invariant none)
    c.in_err-key.ensures)

pub returns-in_err-jump : goal.returns-in_err-jump
returns-in_err-jump c =
    let p = err_from_is_err_and c.from_residual-in_err-jump.result c.from_residual-in_err-jump.ensures.1 in
    let first : take_number c.loop.rest.now ≡ Some (c.in_ok-key.key, c.in_ok-key.after.now) = search rules in
    rw (p.1, p.2)
    (fails_from c.in_err-jump.field-0.0 (take_number c.in_ok-key.after.now) (pairs_at c.args.at c.args.count c.args.bytes.now)
    (λ none. pairs_at-no_jump c.args.at c.args.count c.loop.counter _ c.loop.keys.items c.loop.targets.items c.loop.rest.now c.in_ok-key.key c.in_ok-key.after.now
    c.loop-test.true c.loop.invariant first none)
    c.in_err-jump.ensures)

pub returns-in_err-target_at : goal.returns-in_err-target_at
returns-in_err-target_at c =
    let p = err_from_is_err_and c.from_residual-in_err-target_at.result c.from_residual-in_err-target_at.ensures.1 in
    let first : take_number c.loop.rest.now ≡ Some (c.in_ok-key.key, c.in_ok-key.after.now) = search rules in
    let second : take_number c.in_ok-key.after.now ≡ Some (c.in_ok-jump.jump, c.in_ok-jump.after.now) = search rules in
    let failed : Fails c.in_err-target_at.field-0.0 (target_at c.args.at c.in_ok-jump.jump) = search rules in
    rw (p.1, p.2)
    (fails_from c.in_err-target_at.field-0.0 (target_at c.args.at c.in_ok-jump.jump) (pairs_at c.args.at c.args.count c.args.bytes.now)
    (λ none. pairs_at-no_target c.args.at c.args.count c.loop.counter _ c.loop.keys.items c.loop.targets.items c.loop.rest.now c.in_ok-key.key c.in_ok-key.after.now
    c.in_ok-jump.jump c.in_ok-jump.after.now c.loop-test.true c.loop.invariant first second none)
    failed)

pub loop-preserved : goal.loop-preserved
loop-preserved c =
    let first : take_number c.loop.rest.now ≡ Some (c.in_ok-key.key, c.in_ok-key.after.now) = search rules in
    let second : take_number c.in_ok-key.after.now ≡ Some (c.in_ok-jump.jump, c.in_ok-jump.after.now) = search rules in
    let found : target_at c.args.at c.in_ok-jump.jump ≡ Some c.in_ok-target_at.field-0 = search rules in
    let more = pairs_at-more c.args.at c.args.count c.loop.counter _ c.loop.keys.items c.loop.targets.items c.loop.rest.now c.in_ok-key.key c.in_ok-key.after.now
    c.in_ok-jump.jump c.in_ok-jump.after.now c.in_ok-target_at.field-0 c.loop-test.true c.loop.invariant first second found in
    let keys : c.push.new.self.items ≡ c.loop.keys.items ++ c.in_ok-key.key ∷ [] = search rules in
    let targets : c.push-in-loop.new.self.items ≡ c.loop.targets.items ++ c.in_ok-target_at.field-0 ∷ [] = search rules in
    rw (keys, targets) more

pub returns : goal.returns
returns c = pairs_at-end c.args.at c.args.count c.loop.counter _ c.loop.keys.items c.loop.targets.items c.loop.rest.now c.loop-test.false c.loop.invariant
