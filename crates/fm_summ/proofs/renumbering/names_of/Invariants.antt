use Rattle.std.proofs.Common.{◌≡◌, ◌∷◌, [], ℕ, take}
use Rattle.std.specs.List.{flat_map}
use Rattle.fm_summ.proofs.renumbering.names_of.Given as goal

abbrev pub invariant-loop-pair : goal.invariant-loop-pair
invariant-loop-pair l =
    l.names.items ≡ flat_map (λ (p : ℕ × ℕ). p.0 ∷ p.1 ∷ []) (take l.pair-index l.pairs)
