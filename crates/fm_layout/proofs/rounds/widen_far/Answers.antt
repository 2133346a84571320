use Rattle.std.proofs.Common.{arith, refl}
use Rattle.fm_layout.proofs.ChangeLemmas.{FarSoFar-all, FarSoFar-first, FarSoFar-next}
use Rattle.fm_layout.proofs.rounds.widen_far.Goals as goal

pub loop-item-init : goal.loop-item-init
loop-item-init c = record { widened = refl; within = c.requires.within; tracks = c.requires.tracks }

pub widen_one-requires-clause-within : goal.widen_one-requires-clause-within
widen_one-requires-clause-within c =
    FarSoFar-first c.args.rooms.now c.loop-item.rooms c.loop-item.spots c.args.far.now c.loop-item.item-index (omega arith) c.loop-item.invariant

pub widen_one-requires-clause-tracks : goal.widen_one-requires-clause-tracks
widen_one-requires-clause-tracks c = c.loop-item.invariant.tracks

pub loop-item-preserved : goal.loop-item-preserved
loop-item-preserved c =
    FarSoFar-next c.args.rooms.now c.loop-item.rooms c.loop-item.spots c.args.far.now c.loop-item.item-index c.widen_one.new.rooms c.widen_one.new.spots (omega arith)
    c.loop-item.invariant c.widen_one.ensures.widened c.widen_one.ensures.tracks

pub returns-clause-widened : goal.returns-clause-widened
returns-clause-widened c =
    FarSoFar-all c.args.rooms.now c.loop-item.rooms c.loop-item.spots c.args.far.now c.loop-item.item-index (omega arith) c.loop-item.invariant

pub returns-clause-tracks : goal.returns-clause-tracks
returns-clause-tracks c = c.loop-item.invariant.tracks
