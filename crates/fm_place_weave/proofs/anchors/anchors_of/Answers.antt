use Rattle.std.proofs.Common.{ℕ, List, sym, subst}
use Rattle.fm_place_weave.specs.Conditions.{AreFlagged}
use Rattle.fm_place_weave.proofs.anchors.anchors_of.Goals as goal

pub anchors_after-requires-clause-flags : goal.anchors_after-requires-clause-flags
anchors_after-requires-clause-flags c =
    subst (λ (pairs : List (ℕ × ℕ)). AreFlagged c.args.plan.now.looped pairs) (sym c.as_slice-2.ensures.value) c.requires.flags
