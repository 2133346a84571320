use Rattle.std.proofs.Common.{◌≡◌, false, drop, length, replicate}
use Rattle.fm_chain.specs.Planned.{flags_with}
use Rattle.fm_chain.proofs.plans.looped_row.Given as goal

abbrev pub invariant-loop-pair : goal.invariant-loop-pair
invariant-loop-pair l = record {
  size : length l.row ≡ l.holders;
  flags : flags_with l.code l.row (drop l.pair-index l.after) ≡ flags_with l.code (replicate l.holders false) l.after;
}
