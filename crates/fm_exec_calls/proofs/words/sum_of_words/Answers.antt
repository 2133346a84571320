use Rattle.std.proofs.Common.{◌+◌, ◌≤◌, map, drop, length, subst, arith}
use Rattle.fm_exec_calls.proofs.StartWords.{all-at, counting-end, counting-from, counting-next, IsCounting, left-at, none-left}
use Rattle.fm_exec_calls.proofs.words.sum_of_words.Goals as goal
use Rattle.fm_exec_calls.specs.inner.Actions.{Suits}
use Rattle.fm_frames.specs.inner.StartActions.{action_of}

pub loop-action-init : goal.loop-action-init
loop-action-init g c =
    counting-from c.args.program.now.outline c.args.machine.now.areas c.args.own c.args.counted.now (map action_of c.args.actions.now) c.requires.none c.requires.many
    (omega (arith, c.ranges.own.fits))

pub literal_words-needed-requires-clause-text : goal.literal_words-needed-requires-clause-text
literal_words-needed-requires-clause-text g c =
    all-at (Suits c.args.program.now (length c.args.machine.now.areas.literals)) action_of c.args.actions.now c.loop-action.action-index _ c.requires.texts
    c.loop-action-test.true

pub loop-action-preserved : goal.loop-action-preserved
loop-action-preserved g c =
    let o = c.args.program.now.outline in
    let x = c.args.machine.now.areas in
    counting-next o x c.args.own c.loop-action.words c.literal_words-needed.result c.saturating_add-words.result c.loop-action.counted
    c.literal_words-needed.new.counted (map action_of c.args.actions.now) (map action_of (drop (c.loop-action.action-index + 1) c.args.actions.now)) _
    (subst (IsCounting o x c.args.own c.loop-action.words c.loop-action.counted (map action_of c.args.actions.now))
    (left-at action_of c.args.actions.now c.loop-action.action-index _ c.loop-action-test.true) c.loop-action.invariant)
    c.literal_words-needed.ensures.value c.literal_words-needed.ensures.more c.literal_words-needed.ensures.same c.saturating_add-words.ensures

pub returns : goal.returns
returns g c =
    let o = c.args.program.now.outline in
    let x = c.args.machine.now.areas in
    let over : length c.args.actions.now ≤ c.loop-action.action-index = omega (arith, c.loop-action-test.false) in
    counting-end o x c.args.own c.loop-action.words c.loop-action.counted (map action_of c.args.actions.now)
    (subst (IsCounting o x c.args.own c.loop-action.words c.loop-action.counted (map action_of c.args.actions.now))
    (none-left action_of c.args.actions.now c.loop-action.action-index over) c.loop-action.invariant)
