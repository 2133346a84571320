use Rattle.std.proofs.Common.{◌-◌, length, refl, arith}
use Rattle.fm_frames.proofs.Shuffling.{all-pushed, more-pushed, none-pushed}
use Rattle.fm_frames.proofs.shuffles.push_all.Goals as goal

pub loop-pushed-init : goal.loop-pushed-init
loop-pushed-init c = none-pushed c.args.words.now c.args.frames.now

pub loop-pushed-preserved : goal.loop-pushed-preserved
loop-pushed-preserved c =
    more-pushed c.args.words.now c.loop-pushed.pushed (length c.args.words.now - 1 - c.loop-pushed.pushed) _ _ c.args.frames.now
    c.loop-pushed.frames c.push.new.self (omega arith) refl c.loop-pushed.invariant c.in_ok-push.ensures

pub returns : goal.returns
returns c = all-pushed c.args.words.now c.loop-pushed.pushed c.args.frames.now c.loop-pushed.frames (omega arith) c.loop-pushed.invariant
