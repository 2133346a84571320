-- Lists that are looked through without what is in them for a second time.
use Rattle.std.proofs.Common.{◌≡◌, refl, sym, ◌∙◌, ap, ℕ, zero, suc, ◌&&◌, ◌||◌, not, Bool, true, false, cond, List, [], ◌∷◌, ◌++◌, nat_eq, filter, length, map, get_or, set, append_assoc}
use Rattle.std.specs.Global.{Vec}
use Rattle.std.specs.List.{flat_map, list_any}
use Rattle.std.proofs.Math.ListN.{get_or-map}
use Rattle.std.proofs.lemmas.Bool.{eqb-true, or_right}
use Rattle.std.proofs.lemmas.List.{append-nil, length-map}
use Rattle.std.proofs.lemmas.List.FromFn.{length-map-range_with_len}
use Rattle.fm_link_supers.proofs.Distinct.{among_distinct, distinct_added, distinct_kept}
use Rattle.fm_link_supers.proofs.Downwards.{among_head, among_left}
use Rattle.fm_link_supers.specs.inner.InterfaceRounds.{above_by, is_set, Lists, ListsOnce, settled_one, settled_to}
use Rattle.fm_link_supers.specs.inner.ListTables.{lists}
use Rattle.fm_world.specs.Chains.{distinct, is_among, listed_interfaces}
use Rattle.fm_world.specs.declared.declarations.DeclaredClass.{DeclaredClass}
use Rattle.fm_world.specs.inner.Tables.{numbers_below}

-- ---- whether one of them passes

any_without : (p : ℕ → Bool) (y : ℕ) → p y ≡ false → (zs : List ℕ) → list_any p (filter (λ z. not (nat_eq y z)) zs) ≡ list_any p zs
any_without p y fails [] = refl
any_without p y fails (z ∷ zs) = by_test (nat_eq y z) refl (any_without p y fails zs) where
  by_test : (b : Bool) → nat_eq y z ≡ b → list_any p (filter (λ w. not (nat_eq y w)) zs) ≡ list_any p zs
      → list_any p (cond (not b) (z ∷ filter (λ w. not (nat_eq y w)) zs) (filter (λ w. not (nat_eq y w)) zs)) ≡ (p z || list_any p zs)
  by_test true e rest = rest ∙ sym (ap (λ b. b || list_any p zs) (ap p (sym (eqb-true y z e)) ∙ fails))
  by_test false e rest = ap (λ b. p z || b) rest

any_distinct : (p : ℕ → Bool) (xs : List ℕ) → list_any p (distinct nat_eq xs) ≡ list_any p xs
any_distinct p [] = refl
any_distinct p (y ∷ ys) = by_test (p y) refl (any_distinct p ys) where
  rest : List ℕ
  rest = filter (λ z. not (nat_eq y z)) (distinct nat_eq ys)

  by_test : (b : Bool) → p y ≡ b → list_any p (distinct nat_eq ys) ≡ list_any p ys → (p y || list_any p rest) ≡ (p y || list_any p ys)
  by_test true e same = ap (λ b. b || list_any p rest) e ∙ sym (ap (λ b. b || list_any p ys) e)
  by_test false e same = ap (λ b. p y || b) (any_without p y e (distinct nat_eq ys) ∙ same)

pub any_once : (p : ℕ → Bool) (table : List (List ℕ)) → map (list_any p) (map (distinct nat_eq) table) ≡ map (list_any p) table
any_once p [] = refl
any_once p (xs ∷ table) =
    ap (λ b. b ∷ map (list_any p) (map (distinct nat_eq) table)) (any_distinct p xs) ∙ ap (λ bs. list_any p xs ∷ bs) (any_once p table)

-- ---- what they lead to, each once

distinct_absorbed : (xs ys : List ℕ) → ((y : ℕ) → is_among y ys ≡ true → is_among y xs ≡ true) → distinct nat_eq (xs ++ ys) ≡ distinct nat_eq xs
distinct_absorbed xs [] within = ap (distinct nat_eq) (append-nil xs)
distinct_absorbed xs (y ∷ ys) within =
    ap (distinct nat_eq) (sym (append_assoc xs (y ∷ []) ys))
    ∙ distinct_absorbed (xs ++ y ∷ []) ys (λ z h. among_left z xs (y ∷ []) (within z (or_right (nat_eq z y) (is_among z ys) h)))
    ∙ distinct_kept xs y (within y (among_head y ys))

distinct_before : (xs ys zs : List ℕ) → distinct nat_eq xs ≡ distinct nat_eq ys → distinct nat_eq (xs ++ zs) ≡ distinct nat_eq (ys ++ zs)
distinct_before xs ys [] same = ap (distinct nat_eq) (append-nil xs) ∙ same ∙ sym (ap (distinct nat_eq) (append-nil ys))
distinct_before xs ys (z ∷ zs) same =
    ap (distinct nat_eq) (sym (append_assoc xs (z ∷ []) zs))
    ∙ distinct_before (xs ++ z ∷ []) (ys ++ z ∷ []) zs (one_more (is_among z xs) refl)
    ∙ ap (distinct nat_eq) (append_assoc ys (z ∷ []) zs) where
      alike : is_among z ys ≡ is_among z xs
      alike = sym (among_distinct z ys) ∙ ap (is_among z) (sym same) ∙ among_distinct z xs

      one_more : (b : Bool) → is_among z xs ≡ b → distinct nat_eq (xs ++ z ∷ []) ≡ distinct nat_eq (ys ++ z ∷ [])
      one_more true e = distinct_kept xs z e ∙ same ∙ sym (distinct_kept ys z (alike ∙ e))
      one_more false e = distinct_added xs z e ∙ ap (λ ws. ws ++ z ∷ []) same ∙ sym (distinct_added ys z (alike ∙ e))

distinct_after : (zs xs ys : List ℕ) → distinct nat_eq xs ≡ distinct nat_eq ys → distinct nat_eq (zs ++ xs) ≡ distinct nat_eq (zs ++ ys)
distinct_after [] xs ys same = same
distinct_after (z ∷ zs) xs ys same = ap (λ ws. z ∷ filter (λ w. not (nat_eq z w)) ws) (distinct_after zs xs ys same)

-- a number whose list is there already may be left out
dropped : (g : ℕ → List ℕ) (x : ℕ) (front zs : List ℕ) → ((y : ℕ) → is_among y (g x) ≡ true → is_among y front ≡ true)
    → distinct nat_eq (front ++ flat_map g (filter (λ z. not (nat_eq x z)) zs)) ≡ distinct nat_eq (front ++ flat_map g zs)
dropped g x front [] within = refl
dropped g x front (z ∷ zs) within =
    by_test (nat_eq x z) refl (dropped g x front zs within)
    (dropped g x (front ++ g z) zs (λ y h. among_left y front (g z) (within y h))) where
      others : List ℕ
      others = filter (λ w. not (nat_eq x w)) zs

      by_test : (b : Bool) → nat_eq x z ≡ b → distinct nat_eq (front ++ flat_map g others) ≡ distinct nat_eq (front ++ flat_map g zs)
          → distinct nat_eq ((front ++ g z) ++ flat_map g others) ≡ distinct nat_eq ((front ++ g z) ++ flat_map g zs)
          → distinct nat_eq (front ++ flat_map g (cond (not b) (z ∷ others) others)) ≡ distinct nat_eq (front ++ (g z ++ flat_map g zs))
      by_test true e here more =
          here
          ∙ sym (distinct_before (front ++ g z) front (flat_map g zs)
          (distinct_absorbed front (g z) (λ y h. within y (ap (λ n. is_among y (g n)) (eqb-true x z e) ∙ h))))
          ∙ ap (distinct nat_eq) (append_assoc front (g z) (flat_map g zs))
      by_test false e here more =
          ap (distinct nat_eq) (sym (append_assoc front (g z) (flat_map g others))) ∙ more
          ∙ ap (distinct nat_eq) (append_assoc front (g z) (flat_map g zs))

pub flat_distinct : (g : ℕ → List ℕ) (xs : List ℕ) → distinct nat_eq (flat_map g (distinct nat_eq xs)) ≡ distinct nat_eq (flat_map g xs)
flat_distinct g [] = refl
flat_distinct g (x ∷ xs) =
    dropped g x (g x) (distinct nat_eq xs) (λ y h. h)
    ∙ distinct_after (g x) (flat_map g (distinct nat_eq xs)) (flat_map g xs) (flat_distinct g xs)

-- ---- tables

pub settled_once : (table : List (List ℕ)) (before after : List Bool) (above : List (List ℕ)) (count : ℕ)
    → settled_to (map (distinct nat_eq) table) before after above count ≡ settled_to table before after above count
settled_once table before after above zero = refl
settled_once table before after above (suc class) =
    ap (λ t. settled_one (get_or (map (distinct nat_eq) table) class []) flag t class) (settled_once table before after above class)
    ∙ ap (λ xs. cond flag (set rest class xs) rest)
    (ap (λ xs. above_by xs rest) (get_or-map (distinct nat_eq) table class []) ∙ flat_distinct (λ i. i ∷ get_or rest i []) (get_or table class [])) where
      flag : Bool
      flag = is_set before class && not (is_set after class)

      rest : List (List ℕ)
      rest = settled_to table before after above class

pub once_count : (classes : List DeclaredClass) (listed : List (Vec ℕ)) → ListsOnce classes listed → length listed ≡ length classes
once_count classes listed same =
    sym (length-map listed (λ (v : Vec ℕ). v.items)) ∙ ap length same
    ∙ length-map (map (listed_interfaces classes) (numbers_below (length classes))) (distinct nat_eq)
    ∙ length-map-range_with_len (listed_interfaces classes) 0 (length classes)

map_lists : (listed : List (Vec ℕ)) → map (λ (list : Vec ℕ). distinct nat_eq list.items) listed ≡ map (distinct nat_eq) (lists listed)
map_lists [] = refl
map_lists (v ∷ listed) = ap (λ xs. distinct nat_eq v.items ∷ xs) (map_lists listed)

pub lists_once : (classes : List DeclaredClass) (listed once read : List (Vec ℕ)) → read ≡ once
    → lists once ≡ map (λ (list : Vec ℕ). distinct nat_eq list.items) listed → Lists classes listed → ListsOnce classes read
lists_once classes listed once read is made same = ap lists is ∙ made ∙ map_lists listed ∙ ap (map (distinct nat_eq)) same
