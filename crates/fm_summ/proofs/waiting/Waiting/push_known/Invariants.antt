use Rattle.fm_summ.specs.inner.Waits.{IsWaiting}
use Rattle.fm_summ.proofs.waiting.Waiting.push_known.Given as goal

abbrev pub invariant-loop-method : goal.invariant-loop-method
invariant-loop-method l = IsWaiting l.count l.self
