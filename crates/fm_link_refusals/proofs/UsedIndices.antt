-- Refusals by the indices that a class uses, as a loop over all indices of its pool goes through them.
use Rattle.std.proofs.Common.{◌≡◌, refl, sym, ◌∙◌, ap, subst, ℕ, ◌+◌, ◌<◌, ◌≤◌, Bool, true, false, cond, List, [], ◌∷◌, ◌++◌, length, drop, map, get_or, zero-add, Option, arith}
use Rattle.std.specs.List.{filter, flat_map, range_with_len}
use Rattle.std.proofs.lemmas.List.FromFn.{get_or-map-range_with_len, get_or-range_with_len, length-map-range_with_len, length-range_with_len}
use Rattle.fm_code.specs.declared.class_file.ClassDef.{ClassDef}
use Rattle.fm_world.specs.Causes.{Refusal}
use Rattle.fm_world.specs.Uses.{is_used, pool_indices, uses_in_order}
use Rattle.fm_link_refusals.specs.Refused.{IsFirst}
use Rattle.fm_link_refusals.proofs.FirstRefusals.{refuses_end, refuses_first, refuses_none}

-- ---- the elements that a filter keeps

pub flat_map-filter : {X A : Type 0} (f : X → List A) (p : X → Bool) (xs : List X) → flat_map f (filter p xs) ≡ flat_map (λ x. cond (p x) (f x) []) xs
flat_map-filter f p [] = refl
flat_map-filter {X} {A} f p (x ∷ xs) = go (p x) ∙ ap (λ r. cond (p x) (f x) [] ++ r) (flat_map-filter f p xs) where
  go : (b : Bool) → flat_map f (cond b (x ∷ filter p xs) (filter p xs)) ≡ cond b (f x) [] ++ flat_map f (filter p xs)
  go true = refl
  go false = refl

pub flat_map-each : {X A : Type 0} (f g : X → List A) (xs : List X) → ((x : X) → f x ≡ g x) → flat_map f xs ≡ flat_map g xs
flat_map-each f g [] same = refl
flat_map-each f g (x ∷ xs) same = ap (λ r. r ++ flat_map f xs) (same x) ∙ ap (λ r. g x ++ r) (flat_map-each f g xs same)

-- where elements that are left out give nothing
pub flat_map-kept : {X A : Type 0} (f : X → List A) (p : X → Bool) (xs : List X) → ((x : X) → p x ≡ false → f x ≡ []) → flat_map f (filter p xs)
    ≡ flat_map f xs
flat_map-kept {X} {A} f p xs none = flat_map-filter f p xs ∙ flat_map-each (λ x. cond (p x) (f x) []) f xs (λ x. go x (p x) refl) where
  go : (x : X) (b : Bool) → p x ≡ b → cond b (f x) [] ≡ f x
  go x true here = refl
  go x false here = sym (none x here)

-- ---- a loop over all indices

-- the indices of a pool, from one on
abbrev pub indices_from : ℕ → ClassDef → List ℕ
indices_from i c = drop i (pool_indices c)

pub index_here : (n i : ℕ) → i < n → i ≡ get_or (range_with_len 0 n) i i
index_here n i within = sym (get_or-range_with_len 0 n i i within ∙ zero-add i)

pub index_none : (f : ℕ → List Refusal) (c : ClassDef) (i : ℕ) (all : List Refusal) → i < length c.pool.entries → f i ≡ [] → all
    ≡ flat_map f (indices_from i c)
    → all ≡ flat_map f (indices_from (i + 1) c)
index_none f c i all within none left =
    let long = length-range_with_len 0 (length c.pool.entries) in
    refuses_none f (pool_indices c) i i all (omega (arith, long)) (index_here (length c.pool.entries) i within) none left

pub index_first : (f : ℕ → List Refusal) (c : ClassDef) (i : ℕ) (all : List Refusal) (o : Option Refusal) → i < length c.pool.entries
    → IsFirst (f i) o
    → all ≡ flat_map f (indices_from i c) → IsFirst all o
index_first f c i all o within first left =
    let long = length-range_with_len 0 (length c.pool.entries) in
    refuses_first f (pool_indices c) i i all o (omega (arith, long)) (index_here (length c.pool.entries) i within) first left

pub index_end : (f : ℕ → List Refusal) (c : ClassDef) (i : ℕ) (all : List Refusal) → length c.pool.entries ≤ i → all ≡ flat_map f (indices_from i c)
    → all ≡ []
index_end f c i all end left =
    let long = length-range_with_len 0 (length c.pool.entries) in
    refuses_end f (pool_indices c) i all (omega (arith, long)) left

-- ---- a table over all indices

pub table_long : {X : Type 0} (f : ℕ → X) (c : ClassDef) (xs : List X) → xs ≡ map f (pool_indices c) → length xs ≡ length c.pool.entries
table_long f c xs is = ap length is ∙ length-map-range_with_len f 0 (length c.pool.entries)

pub table_at : {X : Type 0} (f : ℕ → X) (c : ClassDef) (xs : List X) (i : ℕ) (x d : X) → xs ≡ map f (pool_indices c) → i < length xs → x
    ≡ get_or xs i d → x ≡ f i
table_at f c xs i x d is within here =
    let long = table_long f c xs is in
    here ∙ ap (λ ys. get_or ys i d) is ∙ get_or-map-range_with_len f 0 (length c.pool.entries) i i d (omega (arith, long)) (zero-add i)

-- ---- a loop over the marks of the indices that are used

-- what an index gives, where it is used
abbrev pub if_used : ClassDef → (ℕ → List Refusal) → ℕ → List Refusal
if_used c f index = cond (is_used c index) (f index) []

pub used_all : (f : ℕ → List Refusal) (c : ClassDef) → flat_map f (uses_in_order c) ≡ flat_map (if_used c f) (indices_from 0 c)
used_all f c = flat_map-filter f (is_used c) (pool_indices c)

pub used_none : (f : ℕ → List Refusal) (c : ClassDef) (marks : List Bool) (i : ℕ) (all : List Refusal) → marks ≡ map (is_used c) (pool_indices c)
    → i < length marks
    → cond (get_or marks i false) (f i) [] ≡ [] → all ≡ flat_map (if_used c f) (indices_from i c) → all
    ≡ flat_map (if_used c f) (indices_from (i + 1) c)
used_none f c marks i all are within none left =
    let long = table_long (is_used c) c marks are in
    let here = table_at (is_used c) c marks i (get_or marks i false) false are within refl in
    index_none (if_used c f) c i all (omega (arith, long)) (ap (λ b. cond b (f i) []) (sym here) ∙ none) left

pub used_first : (f : ℕ → List Refusal) (c : ClassDef) (marks : List Bool) (i : ℕ) (all : List Refusal) (o : Option Refusal) → marks
    ≡ map (is_used c) (pool_indices c)
    → i < length marks → IsFirst (cond (get_or marks i false) (f i) []) o → all ≡ flat_map (if_used c f) (indices_from i c) → IsFirst all o
used_first f c marks i all o are within first left =
    let long = table_long (is_used c) c marks are in
    let here = table_at (is_used c) c marks i (get_or marks i false) false are within refl in
    index_first (if_used c f) c i all o (omega (arith, long)) (subst (λ b. IsFirst (cond b (f i) []) o) here first) left

pub used_end : (f : ℕ → List Refusal) (c : ClassDef) (marks : List Bool) (i : ℕ) (all : List Refusal) → marks ≡ map (is_used c) (pool_indices c)
    → length marks ≤ i
    → all ≡ flat_map (if_used c f) (indices_from i c) → all ≡ []
used_end f c marks i all are end left =
    let long = table_long (is_used c) c marks are in
    index_end (if_used c f) c i all (omega (arith, long)) left
