-- What is in locals is put after other rises, piece by piece.
use Rattle.std.proofs.Common.{◌≡◌, sym, ◌⊎◌, inl, inr, ⊎_elim, ℕ, ◌+◌, ◌*◌, ◌/◌, ◌<◌, ◌≤◌, List, [], ◌∷◌, ◌++◌, Contains, subst, arith}
use Rattle.std.proofs.lemmas.Bool.{cases_lt}
use Rattle.std.proofs.lemmas.List.Elements.{Contains-append_left, Contains-push, Contains-push_cases}
use Rattle.fm_types.specs.declared.known_state.SlotPlace.TheVariants as place
use Rattle.fm_check_walk.specs.declared.risen.Rise.{Rise}
use Rattle.fm_check_walk.specs.inner.Risen.{IsInPiece, IsThisLocal, PutsLocals, rise_of}
use Rattle.fm_types.specs.States.{TypeState}

-- none was put
pub PutsLocals-none : (P Q : ℕ → Type 0) (s : TypeState) (rises : List Rise) → ((k : ℕ) → P k → Q k) → PutsLocals P Q s rises rises
PutsLocals-none P Q s rises others = record {
  still = λ rise found. found;
  only = λ rise found. inl found;
  there = λ k passes. inr (others k passes);
}

-- one local was put
pub PutsLocals-one : (local count : ℕ) (s : TypeState) (rises : List Rise)
    → PutsLocals (IsThisLocal local count) (λ k. ⊥) s rises (rises ++ rise_of s (place.Local local) ∷ [])
PutsLocals-one local count s rises = record {
  still = λ rise found. Contains-append_left rises (this ∷ []) rise found;
  only = λ rise found.
      ⊎_elim (λ (early : Contains rises rise). inl early) (λ (same : this ≡ rise). inr (local, same)) (Contains-push_cases rises this rise found);
  there = λ k passes.
      inl (subst (λ (n : ℕ). Contains (rises ++ this ∷ []) (rise_of s (place.Local n))) (sym passes.same) (Contains-push rises this));
} where
  this : Rise
  this = rise_of s (place.Local local)

-- some were put, and then others
pub PutsLocals-then : (P R S Q : ℕ → Type 0) (s : TypeState) (a b c : List Rise) → PutsLocals P Q s a b → PutsLocals R Q s b c
    → ((k : ℕ) → S k → P k ⊎ R k) → PutsLocals S Q s a c
PutsLocals-then P R S Q s a b c first second both = record {
  still = λ rise found. second.still rise (first.still rise found);
  only = λ rise found.
      ⊎_elim (λ (early : Contains b rise). first.only rise early)
      (λ (late : (k : ℕ) × (rise_of s (place.Local k) ≡ rise)). inr late)
      (second.only rise found);
  there = λ k passes.
      ⊎_elim
      (λ (early : P k).
      ⊎_elim
      (λ (found : Contains b (rise_of s (place.Local k))). inl (second.still (rise_of s (place.Local k)) found))
      (λ (other : Q k). inr other)
      (first.there k early))
      (λ (late : R k). second.there k late)
      (both k passes);
}

-- fewer pass
pub PutsLocals-fewer : (P S Q : ℕ → Type 0) (s : TypeState) (a b : List Rise) → PutsLocals P Q s a b → ((k : ℕ) → S k → P k) → PutsLocals S Q s a b
PutsLocals-fewer P S Q s a b puts fewer = record {
  still = puts.still;
  only = puts.only;
  there = λ k passes. puts.there k (fewer k passes);
}

-- all of them were put
pub PutsLocals-all : (P Q : ℕ → Type 0) (s : TypeState) (a b : List Rise) → PutsLocals P (λ k. ⊥) s a b → PutsLocals P Q s a b
PutsLocals-all P Q s a b puts = record {
  still = puts.still;
  only = puts.only;
  there = λ k passes.
      ⊎_elim (λ (found : Contains b (rise_of s (place.Local k))). inl found) (λ (never : ⊥). absurd never) (puts.there k passes);
}

-- ---- the locals of a piece

-- the local is one of the first ones of those from one on, and one of a number of locals
pub record IsFrom (first more count k : ℕ) : Type 0 where
  pub after_first : first ≤ k
  pub before_end : k < first + more
  pub below : k < count

pub PutsLocals-more : (first more count : ℕ) (s : TypeState) (a b c : List Rise) → PutsLocals (IsFrom first more count) (λ k. ⊥) s a b
    → PutsLocals (IsThisLocal (first + more) count) (λ k. ⊥) s b c → PutsLocals (IsFrom first (more + 1) count) (λ k. ⊥) s a c
PutsLocals-more first more count s a b c so_far one =
    PutsLocals-then (IsFrom first more count) (IsThisLocal (first + more) count) (IsFrom first (more + 1) count) (λ k. ⊥) s a b c so_far one either where
      either : (k : ℕ) → IsFrom first (more + 1) count k → IsFrom first more count k ⊎ IsThisLocal (first + more) count k
      either k passes =
          ⊎_elim
          (λ (early : k < first + more). inl (record { after_first = passes.after_first; before_end = early; below = passes.below }))
          (λ (late : first + more ≤ k).
          let end = passes.before_end in
          inr (record { same = omega (arith, late, end); below = passes.below }))
          (cases_lt k (first + more))

-- a whole piece
pub PutsLocals-piece : (piece first more count : ℕ) (s : TypeState) (a b : List Rise) → first ≡ piece * 32 → 32 ≤ more
    → PutsLocals (IsFrom first more count) (λ k. ⊥) s a b → PutsLocals (IsInPiece piece count) (λ k. ⊥) s a b
PutsLocals-piece piece first more count s a b is all puts =
    PutsLocals-fewer (IsFrom first more count) (IsInPiece piece count) (λ k. ⊥) s a b puts inside where
      inside : (k : ℕ) → IsInPiece piece count k → IsFrom first more count k
      inside k passes =
          let at : k / 32 ≡ piece = passes.at in
          record { after_first = omega (arith, is, at); before_end = omega (arith, is, all, at); below = passes.below }

-- ---- all pieces

-- the local is in one of the first pieces, and one of a number of locals
pub record IsInPieces (pieces count k : ℕ) : Type 0 where
  pub at : k / 32 < pieces
  pub below : k < count

pub PutsLocals-pieces : (piece count : ℕ) (Q : ℕ → Type 0) (s : TypeState) (a b c : List Rise) → PutsLocals (IsInPieces piece count) Q s a b
    → PutsLocals (IsInPiece piece count) Q s b c → PutsLocals (IsInPieces (piece + 1) count) Q s a c
PutsLocals-pieces piece count Q s a b c so_far one =
    PutsLocals-then (IsInPieces piece count) (IsInPiece piece count) (IsInPieces (piece + 1) count) Q s a b c so_far one either where
      either : (k : ℕ) → IsInPieces (piece + 1) count k → IsInPieces piece count k ⊎ IsInPiece piece count k
      either k passes =
          ⊎_elim
          (λ (early : k / 32 < piece). inl (record { at = early; below = passes.below }))
          (λ (late : piece ≤ k / 32).
          let end = passes.at in
          inr (record { at = omega (arith, late, end); below = passes.below }))
          (cases_lt (k / 32) piece)

pub PutsLocals-every : (pieces piece count : ℕ) (Q : ℕ → Type 0) (s : TypeState) (a b : List Rise) → pieces ≡ count / 32 + 1 → pieces ≤ piece
    → PutsLocals (IsInPieces piece count) Q s a b → PutsLocals (λ k. k < count) Q s a b
PutsLocals-every pieces piece count Q s a b is all puts =
    PutsLocals-fewer (IsInPieces piece count) (λ k. k < count) Q s a b puts inside where
      inside : (k : ℕ) → k < count → IsInPieces piece count k
      inside k below = record { at = omega (arith, is, all, below); below = below }
