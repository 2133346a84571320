-- One class more, in the loops that go over classes and over what is to be done with their methods.
use Rattle.std.proofs.Common.{◌≡◌, refl, sym, ◌∙◌, ap, subst, ℕ, ◌+◌, ◌<◌, List, [], ◌∷◌, ◌++◌, length, drop, get_or, Option, None, arith, append_assoc}
use Rattle.std.specs.Option.{option_map, option_or}
use Rattle.std.proofs.lemmas.List.{length-drop}
use Rattle.fm_base.proofs.ListFacts.{drop_here}
use Rattle.fm_code.specs.declared.class_file.ClassDef.{ClassDef}
use Rattle.fm_rewrite.specs.inner.ByPlans.{classes_by, first_full_by, first_long_by, full_by, long_by, method_count, others, own, pool_by, pools_by, rewritten_by}
use Rattle.fm_chain.specs.declared.entries.ChainPool.{ChainPool}
use Rattle.fm_place_weave.specs.declared.planned.Planned.{Planned}

-- ---- the next class

module _ (classes : List ClassDef) (place : ℕ) (class : ClassDef) (within : place < length classes) (is : class ≡ get_or classes place class) where
  next : drop place classes ≡ class ∷ drop (place + 1) classes
  next = drop_here classes place class within is

  -- what holds of all that are left
  pub left : (P : List ClassDef → Type 0) → P (drop place classes) → P (class ∷ drop (place + 1) classes)
  left P all = subst P next all

  module _ (done : List Planned) (one_each : length done ≡ method_count (drop place classes)) where
    counted : length done ≡ length class.methods + method_count (drop (place + 1) classes)
    counted = one_each ∙ ap method_count next

    pub others_counted : length (others class done) ≡ method_count (drop (place + 1) classes)
    others_counted = let left_over = length-drop (length class.methods) done in omega (arith, left_over, counted)

  module _ (done : List Planned) where
    -- ---- pools

    -- the next pool is that of the next class, and the others are those of later classes
    pub pool_taken : (pool : Option ChainPool) (pools : List (Option ChainPool)) → pool ∷ pools ≡ pools_by done (drop place classes)
        → (pool ≡ pool_by (own class done) class) × (pools ≡ pools_by (others class done) (drop (place + 1) classes))
    pool_taken pool pools is =
        let same : pool ∷ pools ≡ pool_by (own class done) class ∷ pools_by (others class done) (drop (place + 1) classes) =
        is ∙ ap (λ cs. pools_by done cs) next in
        (cc, cc)

    pub pools_more : (front : List (Option ChainPool)) (pool : Option ChainPool) (total : List (Option ChainPool)) → pool ≡ pool_by (own class done) class
        → front ++ pools_by done (drop place classes) ≡ total
        → (front ++ pool ∷ []) ++ pools_by (others class done) (drop (place + 1) classes) ≡ total
    pools_more front pool total pool_is so_far =
        append_assoc front (pool ∷ []) (pools_by (others class done) (drop (place + 1) classes))
        ∙ ap (λ p. front ++ p ∷ pools_by (others class done) (drop (place + 1) classes)) pool_is
        ∙ sym (ap (λ cs. front ++ pools_by done cs) next) ∙ so_far

    pub full_all : (first : ℕ) (total : Option (ℕ × ℕ)) → first_full_by first done (drop place classes) ≡ total
        → option_or (option_map (λ (indices : ℕ). (first, indices)) (full_by (own class done) class))
        (first_full_by (first + 1) (others class done) (drop (place + 1) classes)) ≡ total
    full_all first total so_far = sym (ap (λ cs. first_full_by first done cs) next) ∙ so_far

    pub full_more : (first next_one : ℕ) (total : Option (ℕ × ℕ)) → next_one ≡ first + 1 → full_by (own class done) class ≡ None
        → first_full_by first done (drop place classes) ≡ total
        → first_full_by next_one (others class done) (drop (place + 1) classes) ≡ total
    full_more first next_one total step fits so_far =
        ap (λ n. first_full_by n (others class done) (drop (place + 1) classes)) step
        ∙ sym (ap (λ o. option_or (option_map (λ (indices : ℕ). (first, indices)) o) (first_full_by (first + 1) (others class done) (drop (place + 1) classes))) fits)
        ∙ full_all first total so_far

    -- ---- classes

    pub classes_more : (front : List ClassDef) (made : ClassDef) (total : List ClassDef) → made ≡ rewritten_by (own class done) class
        → front ++ classes_by done (drop place classes) ≡ total
        → (front ++ made ∷ []) ++ classes_by (others class done) (drop (place + 1) classes) ≡ total
    classes_more front made total made_is so_far =
        append_assoc front (made ∷ []) (classes_by (others class done) (drop (place + 1) classes))
        ∙ ap (λ c. front ++ c ∷ classes_by (others class done) (drop (place + 1) classes)) made_is
        ∙ sym (ap (λ cs. front ++ classes_by done cs) next) ∙ so_far

    pub long_all : (first : ℕ) (total : Option (ℕ × ℕ)) → first_long_by first done (drop place classes) ≡ total
        → option_or (long_by first (own class done) class) (first_long_by (first + length class.methods) (others class done) (drop (place + 1) classes)) ≡ total
    long_all first total so_far = sym (ap (λ cs. first_long_by first done cs) next) ∙ so_far

    pub long_more : (first : ℕ) (total : Option (ℕ × ℕ)) → long_by first (own class done) class ≡ None
        → first_long_by first done (drop place classes) ≡ total
        → first_long_by (first + length class.methods) (others class done) (drop (place + 1) classes) ≡ total
    long_more first total fits so_far =
        sym (ap (λ o. option_or o (first_long_by (first + length class.methods) (others class done) (drop (place + 1) classes))) fits)
        ∙ long_all first total so_far

-- ---- classes that are left, by their pools

-- where a pool is left, so is a class
pub pool_left : (classes : List ClassDef) (place : ℕ) (done : List Planned) (pool : Option ChainPool) (pools : List (Option ChainPool))
    → pool ∷ pools ≡ pools_by done (drop place classes) → place < length classes
pool_left classes place done pool pools is = by_left (drop place classes) refl where
  by_left : (left : List ClassDef) → drop place classes ≡ left → place < length classes
  by_left [] none = absurd (let e : pool ∷ pools ≡ [] = is ∙ ap (λ cs. pools_by done cs) none in cc)
  by_left (c ∷ left) some =
      let size = length-drop place classes in
      let more : length (drop place classes) ≡ length (c ∷ left) = ap length some in
      omega (arith, size, more)

-- where none is left, there is no class
pub none_left : (classes : List ClassDef) (place : ℕ) (done : List Planned) → [] ≡ pools_by done (drop place classes) → drop place classes ≡ []
none_left classes place done is = by_left (drop place classes) refl where
  by_left : (left : List ClassDef) → drop place classes ≡ left → drop place classes ≡ []
  by_left [] none = none
  by_left (c ∷ left) some = absurd (let e : [] ≡ pools_by done (c ∷ left) = is ∙ ap (λ cs. pools_by done cs) some in cc)
