use Rattle.std.proofs.Common.{subst}
use Rattle.fm_fast.specs.Flows.{Flows}
use Rattle.fm_frames.specs.NumberRows.{constant_effect}
use Rattle.fm_run.proofs.indexed.number.Goals as goal

pub returns-clause-did : goal.returns-clause-did
returns-clause-did c told =
    subst (λ u. Flows c.args.frames.now c.constant.new.frames (λ p x. constant_effect p.outline u)) c.used-named.ensures (c.constant.ensures.did told)
