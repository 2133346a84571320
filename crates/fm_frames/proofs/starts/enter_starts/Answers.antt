use Rattle.std.proofs.Common.{◌-◌, drop, length, map, refl, arith}
use Rattle.fm_base.specs.declared.ids.ClassId.{ClassId}
use Rattle.fm_frames.proofs.ClassStarts.{frames-all, frames-more, frames-none, frames-some}
use Rattle.fm_frames.proofs.starts.enter_starts.Goals as goal
use Rattle.fm_frames.specs.Starts.{start_methods}

pub loop-entered-init : goal.loop-entered-init
loop-entered-init g c = frames-none c.args.program.now c.args.classes.now c.args.machine.now

pub enter_start-requires-clause-some : goal.enter_start-requires-clause-some
enter_start-requires-clause-some g c =
    frames-some c.args.program.now
    (start_methods c.args.program.now.outline
    (map (λ (d : ClassId). d.0) (drop (length c.args.classes.now - c.loop-entered.entered) c.args.classes.now)))
    c.args.machine.now c.loop-entered.machine c.loop-entered.invariant c.requires.some

pub loop-entered-preserved : goal.loop-entered-preserved
loop-entered-preserved g c =
    frames-more c.args.program.now c.args.classes.now c.loop-entered.entered (length c.args.classes.now - 1 - c.loop-entered.entered) _ _
    c.args.machine.now c.loop-entered.machine c.enter_start.new.self (omega (arith, c.loop-entered-test.true)) refl c.loop-entered.invariant
    c.in_ok-enter_start.ensures

pub returns : goal.returns
returns g c =
    frames-all c.args.program.now c.args.classes.now c.loop-entered.entered c.args.machine.now c.loop-entered.machine (omega arith) c.loop-entered.invariant
