use Rattle.std.proofs.Common.{◌≡◌, ◌++◌, drop}
use Rattle.fm_link_records.specs.inner.Firsts.{firsts_told}
use Rattle.fm_link_records.proofs.firsts.add_firsts_of.Given as goal

abbrev pub invariant-loop-place : goal.invariant-loop-place
invariant-loop-place l =
    l.firsts.items ++ firsts_told l.resolved l.place (drop l.place l.files) ≡ l.fn.firsts.items ++ firsts_told l.resolved 0 l.files
