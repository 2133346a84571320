-- What frees leave in holders.
use Rattle.std.proofs.Common.{◌≡◌, ◌⊎◌, inl, inr, ℕ, Bool, List, [], ◌∷◌, map, slice_set, refl, ◌∙◌, ap, ⊎_elim}
use Rattle.fm_code.specs.declared.code_array.Code.{Code}
use Rattle.fm_frames.specs.States.{null, word_at}
use Rattle.fm_frames.specs.declared.values.Value.{Value}
use Rattle.fm_frames.specs.declared.values.Value.TheVariants as value
use Rattle.fm_law_unwoven.proofs.TodoLocals.{freed_one}
use Rattle.fm_law_unwoven.specs.Doing.{all_locals_after, locals_after}
use Rattle.fm_law_unwoven.specs.Laid.{to_free}
use Rattle.fm_place.specs.Woven.{local_of}
use Rattle.fm_same.proofs.StoreChanges.{set_cases}

module _ (old : Code) (stack : List Value) (looped : ℕ → Bool) where
  -- a holder is null after frees, or has what it had
  pub nulled_or_same : (hs : List ℕ) (locals : List Value) (h : ℕ)
      → (word_at (all_locals_after old stack (map (λ k. to_free (looped k) k) hs) locals) (local_of old h) ≡ null)
      ⊎ (word_at (all_locals_after old stack (map (λ k. to_free (looped k) k) hs) locals) (local_of old h) ≡ word_at locals (local_of old h))
  nulled_or_same [] locals h = inr refl
  nulled_or_same (k ∷ hs) locals h =
      let later : List Value = locals_after old stack (to_free (looped k) k) locals in
      let one : word_at later (local_of old h) ≡ word_at (slice_set locals (local_of old k) null) (local_of old h) =
      ap (λ ls. word_at ls (local_of old h)) (freed_one old stack (looped k) k locals) in
      ⊎_elim (λ none. inl none)
      (λ same. ⊎_elim (λ none. inl (same ∙ one ∙ none)) (λ stays. inr (same ∙ one ∙ stays)) (set_cases locals (local_of old k) null (local_of old h) value.Top))
      (nulled_or_same hs later h)
