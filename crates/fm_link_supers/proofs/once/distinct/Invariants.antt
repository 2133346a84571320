use Rattle.std.proofs.Common.{◌≡◌, ◌<◌, ℕ, false, get_or, length, nat_eq, take}
use Rattle.fm_world.specs.Chains.{distinct, is_among}
use Rattle.fm_link_supers.proofs.once.distinct.Given as goal

abbrev pub invariant-loop-number : goal.invariant-loop-number
invariant-loop-number l = record {
  marks : (q : ℕ) → get_or l.is_taken.items q false ≡ is_among q (take l.number-index l.numbers);
  within : (k : ℕ) → k < length l.numbers → get_or l.numbers k 0 < length l.is_taken.items;
  kept : l.kept.items ≡ distinct nat_eq (take l.number-index l.numbers);
}
