-- Two lists, element by element, as a function sees them.
use Rattle.std.proofs.Common.{◌≡◌, refl, sym, ◌∙◌, ap, ℕ, zero, suc, ◌+◌, ◌<◌, ◌≤◌, Bool, true, false, not, List, [], ◌∷◌, length, map, drop, get_or, drop_of_length-le, arith}
use Rattle.std.proofs.lemmas.Bool.{false≢true}
use Rattle.std.proofs.lemmas.List.{length-map}
use Rattle.std.specs.Prelude.{Decides}
use Rattle.fm_base.proofs.ListFacts.{drop_here, same_head}

module _ {X Y : Type 0} (f : X → Y) where
  -- as many
  pub same_count : (old new : List X) → map f new ≡ map f old → length new ≡ length old
  same_count old new same = sym (length-map new f) ∙ ap length same ∙ length-map old f

  drops : (n : ℕ) (xs : List X) → map f (drop n xs) ≡ drop n (map f xs)
  drops zero xs = refl
  drops (suc n) [] = refl
  drops (suc n) (x ∷ xs) = drops n xs

  -- one more is the same
  pub same_more : (old new : List X) (place : ℕ) (a b : X) → place < length old → place < length new → a ≡ get_or old place a → b ≡ get_or new place b
      → f b ≡ f a → map f (drop (place + 1) new) ≡ map f (drop (place + 1) old) → map f (drop place new) ≡ map f (drop place old)
  same_more old new place a b within inside a_is b_is same rest =
      ap (map f) (drop_here new place b inside b_is) ∙ (λ k. same k ∷ rest k) ∙ sym (ap (map f) (drop_here old place a within a_is))

  -- all are: so is each
  pub same_here : (old new : List X) (place : ℕ) (a b : X) → place < length old → place < length new → a ≡ get_or old place a → b ≡ get_or new place b
      → map f new ≡ map f old → f b ≡ f a
  same_here old new place a b within inside a_is b_is all =
      same_head (f b) (f a) (map f (drop (place + 1) new)) (map f (drop (place + 1) old))
      (ap (map f) (sym (drop_here new place b inside b_is)) ∙ drops place new ∙ ap (drop place) all ∙ sym (drops place old)
      ∙ ap (map f) (drop_here old place a within a_is))

  -- none is left
  pub same_all : (old new : List X) (place : ℕ) → length old ≤ place → length new ≡ length old
      → (map f (drop place new) ≡ map f (drop place old) → map f new ≡ map f old) → map f new ≡ map f old
  same_all old new place past count so_far =
      so_far (ap (map f) (drop_of_length-le new (omega (arith, past, count)) ∙ sym (drop_of_length-le old past)))

-- a test that fails
pub fails_so : {P : Type 0} (r : Bool) → r ≡ false → (P → r ≡ true) → P → ⊥
fails_so r fails decides p = false≢true (sym fails ∙ decides p)

-- a test that two values differ
pub never_other : (r p : Bool) → r ≡ not p → r ≡ true → p ≡ true → ⊥
never_other r p is other same = false≢true (sym (is ∙ ap not same) ∙ other)

pub same_unless : {P : Type 0} (r p : Bool) → Decides p P → r ≡ not p → r ≡ false → P
same_unless r true decides is same = decides.0 refl
same_unless r false decides is same = absurd (false≢true (sym same ∙ is))
