-- A frame with more locals reads and writes what the frame without them does.
use Rattle.std.proofs.Common.{◌≡◌, ℕ, ◌<◌, ◌≤◌, List, [], ◌∷◌, length, map, take, drop, refl, sym, ap, ◌∙◌, arith}
use Rattle.std.specs.Prelude.{slice_set}
use Rattle.std.specs.List.{AllByRecursion}
use Rattle.std.proofs.Math.Seq.{take-set-lt}
use Rattle.std.proofs.lemmas.List.{drop-set-lt, get_or-set_other, get_or-take, length-set}
use Rattle.fm_frames.specs.Acts.{sum_of, Sources, value_of}
use Rattle.fm_frames.specs.Effects.{LocalPlus, OfLiteral, OfLocal, OfMade, OfOperand, OfPlace, OfStatic, Plain, SameOperands, Source}
use Rattle.fm_frames.specs.States.{Areas, word_at}
use Rattle.fm_frames.specs.Steps.{written}
use Rattle.fm_frames.specs.declared.values.Value.{Value}
use Rattle.fm_frames.specs.declared.values.Value.TheVariants as value
use Rattle.fm_law_unwoven.specs.UnseenCode.{IsWithin}

-- what is written may come from the first locals, and is written into them
abbrev pub WritesWithin : ℕ → List (ℕ × Source) → Type 0
WritesWithin max writes = AllByRecursion (λ (w : ℕ × Source). (w.0 < max) × IsWithin max w.1) writes

module _ (max : ℕ) (locals stack : List Value) (areas : Areas) (made : List ℕ) where
  -- where values come from in the frame, and in the one without further locals
  abbrev pub new_from : Sources
  new_from = record { locals = locals; stack = stack; areas = areas; made = made }

  abbrev pub old_from : Sources
  old_from = record { locals = take max locals; stack = stack; areas = areas; made = made }

  pub same_source : (source : Source) → IsWithin max source → value_of new_from source ≡ value_of old_from source
  same_source (Plain v) within = refl
  same_source (OfOperand n) within = refl
  same_source (OfLocal k) within = sym (get_or-take max locals k value.Top within)
  same_source (LocalPlus k by) within = ap (λ v. sum_of v by) (sym (get_or-take max locals k value.Top within))
  same_source (OfPlace n place kind) within = refl
  same_source (OfStatic slot) within = refl
  same_source (OfMade n) within = refl
  same_source (OfLiteral text) within = refl
  same_source SameOperands within = refl

  pub same_gives : (sources : List Source) → AllByRecursion (IsWithin max) sources → map (value_of new_from) sources ≡ map (value_of old_from) sources
  same_gives [] all = refl
  same_gives (source ∷ sources) all =
      let first = same_source source all.0 in let rest = same_gives sources all.1 in (λ i. first i ∷ rest i)

  pub same_written : (writes : List (ℕ × Source)) (ls : List Value) → WritesWithin max writes
      → take max (written new_from writes ls) ≡ written old_from writes (take max ls)
  same_written [] ls all = refl
  same_written (w ∷ writes) ls all =
      let v = value_of new_from w.1 in
      same_written writes (slice_set ls w.0 v) all.1
      ∙ ap (written old_from writes) (take-set-lt max ls w.0 v all.0.0 ∙ ap (slice_set (take max ls) w.0) (same_source w.1 all.0.1))

  -- locals past the first ones stay
  pub further_stay : (m : ℕ) → max ≤ m → (writes : List (ℕ × Source)) (ls : List Value) → WritesWithin max writes
      → word_at (written new_from writes ls) m ≡ word_at ls m
  further_stay m past [] ls all = refl
  further_stay m past (w ∷ writes) ls all =
      let v = value_of new_from w.1 in
      let below = all.0.0 in
      further_stay m past writes (slice_set ls w.0 v) all.1 ∙ get_or-set_other ls w.0 m v value.Top (λ same. absurd (omega (arith, past, below, same)))

  -- all of them
  pub further_same : (writes : List (ℕ × Source)) (ls : List Value) → WritesWithin max writes → drop max (written new_from writes ls) ≡ drop max ls
  further_same [] ls all = refl
  further_same (w ∷ writes) ls all =
      let v = value_of new_from w.1 in
      further_same writes (slice_set ls w.0 v) all.1 ∙ drop-set-lt max ls w.0 v all.0.0

  pub written_length : (writes : List (ℕ × Source)) (ls : List Value) → length (written new_from writes ls) ≡ length ls
  written_length [] ls = refl
  written_length (w ∷ writes) ls = written_length writes (slice_set ls w.0 (value_of new_from w.1)) ∙ length-set ls w.0 (value_of new_from w.1)
