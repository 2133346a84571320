use Rattle.std.proofs.Common.{◌≡◌, take}
use Rattle.fm_link_records.specs.inner.Sizes.{size_along}
use Rattle.fm_link_records.proofs.sizes.size_along.Given as goal

abbrev pub invariant-loop-class : goal.invariant-loop-class
invariant-loop-class l = l.size ≡ size_along l.own (take l.class-index l.chain)
