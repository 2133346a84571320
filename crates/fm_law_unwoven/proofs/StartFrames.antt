-- The frames that start classes, above others that wait for them.
use Rattle.std.proofs.Common.{◌≡◌, ℕ, List, [], ◌∷◌, ◌++◌, map, Some, inr, true, refl, ap, ◌∙◌, arith}
use Rattle.std.specs.List.{AllByRecursion}
use Rattle.fm_conn.specs.Facts.{Facts}
use Rattle.fm_frames.specs.States.{Frame}
use Rattle.fm_frames.specs.Steps.{is_start, new_frame, start_frames}
use Rattle.fm_law_same_runs.specs.Beside.{Marks}
use Rattle.fm_law_unwoven.proofs.KeptGoes.{not_begun, old_new}
use Rattle.fm_law_unwoven.specs.Kept.{old_frame, StandBelow}
use Rattle.fm_law_unwoven.specs.WovenFrom.{IsWovenFrom}
use Rattle.fm_code.specs.declared.code_array.Code.{Code}
use Rattle.fm_place.specs.Rewriting.{Plans}
use Rattle.fm_world.specs.Programs.{code_at, Outline, Program}

module _ (p q : Program) (facts : Facts) (plans : Plans) (marks : Marks) (from : IsWovenFrom p q facts plans marks) where
  -- they hold those of the first program
  pub old_starts : (methods : List ℕ) (callers below : List Frame) → AllByRecursion (λ m. (c : Code) × (code_at p m ≡ Some c)) methods
      → map (old_frame p marks) below ≡ callers → map (old_frame p marks) (start_frames q methods ++ below) ≡ start_frames p methods ++ callers
  old_starts [] callers below coded are = are
  old_starts (m ∷ methods) callers below coded are =
      let first = old_new p q facts plans marks from m coded.0.0 [] coded.0.1 (omega arith) in
      let rest = old_starts methods callers below coded.1 are in
      (λ t. first t ∷ rest t)

  -- each is at its first item
  pub starts_first : (methods : List ℕ) → AllByRecursion (λ (h : Frame). h.item ≡ 0) (start_frames q methods)
  starts_first [] = tt
  starts_first (m ∷ methods) = (refl, starts_first methods)

  -- each waits for the one above it, and so may those below them
  pub starts_below : (above : Frame) → is_start q.outline above.method ≡ true → (methods : List ℕ) → AllByRecursion (λ m. is_start p.outline m ≡ true) methods
      → (below : List Frame) → ((last : Frame) → is_start q.outline last.method ≡ true → StandBelow p q facts plans marks last below)
      → StandBelow p q facts plans marks above (start_frames q methods ++ below)
  starts_below above start [] all below wait = wait above start
  starts_below above start (m ∷ methods) all below wait =
      let starts = ap (λ (o : Outline). is_start o m) from.outline ∙ all.0 in (
        inr (not_begun p q facts plans marks from above m [] start (omega arith)),
        starts_below (new_frame q m []) starts methods all.1 below wait,
      )
