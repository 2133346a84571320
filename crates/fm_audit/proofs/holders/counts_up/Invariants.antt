use Rattle.std.proofs.Common.{◌≡◌, drop}
use Rattle.fm_audit.specs.inner.Holders.{counts_up}
use Rattle.fm_audit.proofs.holders.counts_up.Given as goal

abbrev pub invariant-loop-place : goal.invariant-loop-place
invariant-loop-place l = counts_up l.place (drop l.place l.numbers) ≡ counts_up 0 l.numbers
