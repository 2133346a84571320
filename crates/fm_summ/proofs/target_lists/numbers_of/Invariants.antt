use Rattle.std.proofs.Common.{◌≡◌, take}
use Rattle.fm_summ.specs.inner.Callers.{numbers_of}
use Rattle.fm_summ.proofs.target_lists.numbers_of.Given as goal

abbrev pub invariant-loop-method : goal.invariant-loop-method
invariant-loop-method l = l.numbers.items ≡ numbers_of (take l.method-index l.methods)
