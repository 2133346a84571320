use Rattle.std.proofs.Common.{◌≡◌, ◌∙◌, false, rules, subst, true}
use Rattle.fm_frames.proofs.OpeningArguments.{arguments-begin, arguments-ended, arguments-next}
use Rattle.fm_frames.proofs.opens.open_arguments.Goals as goal
use Rattle.fm_frames.specs.inner.Opening.{OpensArgument}

pub loop-place-init : goal.loop-place-init
loop-place-init g c = arguments-begin c.args.program.now g.M.Memory.choose c.args.arguments.0 c.args.args.now c.args.machine.now c.requires.wide

pub loop-place-preserved : goal.loop-place-preserved
loop-place-preserved g c =
    let goes : c.in_ok-open_argument.field-0 ≡ true = search rules in
    arguments-next c.args.program.now g.M.Memory.choose c.args.arguments.0 c.args.args.now c.loop-place.place c.as_slice.result.now _ c.args.machine.now
    c.loop-place.machine c.open_argument.new.self c.loop-place-test.true (c.as_slice.ensures ∙ c.index-args-place.is) c.loop-place.invariant
    (subst
    (OpensArgument c.args.program.now g.M.Memory.choose c.loop-place.machine c.open_argument.new.self c.args.arguments.0 c.loop-place.place c.as_slice.result.now)
    goes c.in_ok-open_argument.ensures.told)
    c.in_ok-open_argument.ensures.grows c.in_ok-open_argument.ensures.wide

pub returns-then-not-branch-clause-told : goal.returns-then-not-branch-clause-told
returns-then-not-branch-clause-told g c =
    let ended : c.in_ok-open_argument.field-0 ≡ false = search rules in
    arguments-ended c.args.program.now g.M.Memory.choose c.args.arguments.0 c.args.args.now c.loop-place.place c.as_slice.result.now _ c.args.machine.now
    c.loop-place.machine c.open_argument.new.self c.loop-place-test.true (c.as_slice.ensures ∙ c.index-args-place.is) c.loop-place.invariant
    (subst
    (OpensArgument c.args.program.now g.M.Memory.choose c.loop-place.machine c.open_argument.new.self c.args.arguments.0 c.loop-place.place c.as_slice.result.now)
    ended c.in_ok-open_argument.ensures.told)
