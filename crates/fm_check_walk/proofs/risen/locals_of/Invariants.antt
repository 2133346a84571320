use Rattle.std.proofs.Common.{◌≡◌, take}
use Rattle.fm_check_walk.specs.inner.Risen.{locals_of}
use Rattle.fm_check_walk.proofs.risen.locals_of.Given as goal

abbrev pub invariant-loop-rise : goal.invariant-loop-rise
invariant-loop-rise l = l.locals.items ≡ locals_of (take l.rise-index l.rises)
