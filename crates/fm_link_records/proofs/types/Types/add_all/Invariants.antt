use Rattle.std.proofs.Common.{◌≡◌, drop}
use Rattle.fm_link_records.specs.inner.TypeNumbers.{with_types}
use Rattle.fm_link_records.proofs.types.Types.add_all.Given as goal

abbrev pub invariant-loop-one : goal.invariant-loop-one
invariant-loop-one l = with_types l.self.types.keys (drop l.one-index l.named) ≡ with_types l.fn.self.types.keys l.named
