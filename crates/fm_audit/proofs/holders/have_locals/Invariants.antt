use Rattle.std.proofs.Common.{◌≡◌, ℕ, drop}
use Rattle.std.specs.List.{list_all}
use Rattle.fm_audit.specs.inner.Holders.{is_local}
use Rattle.fm_audit.proofs.holders.have_locals.Given as goal

abbrev pub invariant-loop-pair : goal.invariant-loop-pair
invariant-loop-pair l = list_all (λ (p : ℕ × ℕ). is_local l.first p.1) (drop l.pair-index l.pairs) ≡ list_all (λ (p : ℕ × ℕ). is_local l.first p.1) l.pairs
