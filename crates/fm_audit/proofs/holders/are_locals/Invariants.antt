use Rattle.std.proofs.Common.{◌≡◌, drop}
use Rattle.std.specs.List.{list_all}
use Rattle.fm_audit.specs.inner.Holders.{is_local}
use Rattle.fm_audit.proofs.holders.are_locals.Given as goal

abbrev pub invariant-loop-holder : goal.invariant-loop-holder
invariant-loop-holder l = list_all (is_local l.first) (drop l.holder-index l.holders) ≡ list_all (is_local l.first) l.holders
