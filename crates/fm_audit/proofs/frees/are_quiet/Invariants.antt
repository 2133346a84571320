use Rattle.std.proofs.Common.{◌≡◌, drop}
use Rattle.std.specs.List.{list_all}
use Rattle.fm_audit.specs.inner.Frees.{is_quiet}
use Rattle.fm_audit.proofs.frees.are_quiet.Given as goal

abbrev pub invariant-loop-pair : goal.invariant-loop-pair
invariant-loop-pair l = list_all (is_quiet l.classes l.busy l.item) (drop l.pair-index l.pairs) ≡ list_all (is_quiet l.classes l.busy l.item) l.pairs
