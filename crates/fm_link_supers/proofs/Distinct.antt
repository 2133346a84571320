-- Numbers once each, in the order in which they first occur.
use Rattle.std.proofs.Common.{◌≡◌, refl, sym, ◌∙◌, ap, ℕ, ◌||◌, ◌<◌, not, Bool, true, false, cond, List, [], ◌∷◌, ◌++◌, nat_eq, filter, length, get_or, set}
use Rattle.std.proofs.lemmas.Bool.{eqb-true, eq-eqb, false≢true}
use Rattle.std.proofs.lemmas.List.{append-nil, get_or-set_other, get_or-set_same}
use Rattle.std.proofs.lemmas.List.Folds.{list_any-append}
use Rattle.std.proofs.lemmas.List.Elements.{filter-append}
use Rattle.fm_base.proofs.TestFacts.{nat_eq-comm}
use Rattle.fm_world.specs.Chains.{distinct, is_among}

-- those that differ from a number, of one number
alone : (y x : ℕ) (b : Bool) → nat_eq x y ≡ b → filter (λ z. not (nat_eq y z)) (x ∷ []) ≡ cond b [] (x ∷ [])
alone y x b e = ap (λ t. cond (not t) (x ∷ []) []) (nat_eq-comm y x ∙ e) ∙ by_value b where
  by_value : (t : Bool) → cond (not t) (x ∷ []) [] ≡ cond t [] (x ∷ [])
  by_value true = refl
  by_value false = refl

-- ---- one number more, after the others

others_with : (y x : ℕ) (zs : List ℕ) (b : Bool) → nat_eq x y ≡ b
    → filter (λ z. not (nat_eq y z)) (zs ++ x ∷ []) ≡ filter (λ z. not (nat_eq y z)) zs ++ cond b [] (x ∷ [])
others_with y x zs b e =
    filter-append (λ z. not (nat_eq y z)) zs (x ∷ []) ∙ ap (λ ws. filter (λ z. not (nat_eq y z)) zs ++ ws) (alone y x b e)

-- the number isn't the first one, or it is
added_head : (y x : ℕ) (ys : List ℕ) → (is_among x ys ≡ false → distinct nat_eq (ys ++ x ∷ []) ≡ distinct nat_eq ys ++ x ∷ [])
    → (b : Bool) → nat_eq x y ≡ b → (b || is_among x ys) ≡ false → distinct nat_eq (y ∷ (ys ++ x ∷ [])) ≡ distinct nat_eq (y ∷ ys) ++ x ∷ []
added_head y x ys more true e d = absurd (false≢true (sym d))
added_head y x ys more false e d =
    ap (λ zs. y ∷ filter (λ z. not (nat_eq y z)) zs) (more d) ∙ ap (λ zs. y ∷ zs) (others_with y x (distinct nat_eq ys) false e)

pub distinct_added : (xs : List ℕ) (x : ℕ) → is_among x xs ≡ false → distinct nat_eq (xs ++ x ∷ []) ≡ distinct nat_eq xs ++ x ∷ []
distinct_added [] x h = refl
distinct_added (y ∷ ys) x h = added_head y x ys (distinct_added ys x) (nat_eq x y) refl h

kept_head : (y x : ℕ) (ys : List ℕ) → (is_among x ys ≡ true → distinct nat_eq (ys ++ x ∷ []) ≡ distinct nat_eq ys)
    → (a : Bool) → is_among x ys ≡ a → (b : Bool) → nat_eq x y ≡ b → (b || a) ≡ true → distinct nat_eq (y ∷ (ys ++ x ∷ [])) ≡ distinct nat_eq (y ∷ ys)
kept_head y x ys same true e b d either = ap (λ zs. y ∷ filter (λ z. not (nat_eq y z)) zs) (same e)
kept_head y x ys same false e true d either =
    ap (λ zs. y ∷ filter (λ z. not (nat_eq y z)) zs) (distinct_added ys x e)
    ∙ ap (λ zs. y ∷ zs) (others_with y x (distinct nat_eq ys) true d ∙ append-nil (filter (λ z. not (nat_eq y z)) (distinct nat_eq ys)))
kept_head y x ys same false e false d either = absurd (false≢true either)

pub distinct_kept : (xs : List ℕ) (x : ℕ) → is_among x xs ≡ true → distinct nat_eq (xs ++ x ∷ []) ≡ distinct nat_eq xs
distinct_kept [] x h = absurd (false≢true h)
distinct_kept (y ∷ ys) x h = kept_head y x ys (distinct_kept ys x) (is_among x ys) refl (nat_eq x y) refl h

-- ---- the numbers are the same

others_head : (x y z : ℕ) (rest zs : List ℕ) → nat_eq x y ≡ false → is_among x rest ≡ is_among x zs → (b : Bool) → nat_eq y z ≡ b
    → is_among x (cond (not b) (z ∷ rest) rest) ≡ is_among x (z ∷ zs)
others_head x y z rest zs differs same true e = same ∙ sym (ap (λ b. b || is_among x zs) (ap (nat_eq x) (sym (eqb-true y z e)) ∙ differs))
others_head x y z rest zs differs same false e = ap (λ b. nat_eq x z || b) same

among_others : (x y : ℕ) → nat_eq x y ≡ false → (zs : List ℕ) → is_among x (filter (λ z. not (nat_eq y z)) zs) ≡ is_among x zs
among_others x y differs [] = refl
among_others x y differs (z ∷ zs) =
    others_head x y z (filter (λ w. not (nat_eq y w)) zs) zs differs (among_others x y differs zs) (nat_eq y z) refl

distinct_head : (x y : ℕ) (ys : List ℕ) → is_among x (distinct nat_eq ys) ≡ is_among x ys → (b : Bool) → nat_eq x y ≡ b
    → is_among x (distinct nat_eq (y ∷ ys)) ≡ is_among x (y ∷ ys)
distinct_head x y ys same true e =
    ap (λ b. b || is_among x (filter (λ w. not (nat_eq y w)) (distinct nat_eq ys))) e ∙ sym (ap (λ b. b || is_among x ys) e)
distinct_head x y ys same false e = ap (λ b. nat_eq x y || b) (among_others x y e (distinct nat_eq ys) ∙ same)

pub among_distinct : (x : ℕ) (xs : List ℕ) → is_among x (distinct nat_eq xs) ≡ is_among x xs
among_distinct x [] = refl
among_distinct x (y ∷ ys) = distinct_head x y ys (among_distinct x ys) (nat_eq x y) refl

-- ---- marks of the numbers of a list

either : (b : Bool) → (b || (true || false)) ≡ true
either true = refl
either false = refl

neither : (b : Bool) → (b || (false || false)) ≡ b
neither true = refl
neither false = refl

among_more : (xs : List ℕ) (x q : ℕ) (b : Bool) → nat_eq q x ≡ b → is_among q (xs ++ x ∷ []) ≡ (is_among q xs || (b || false))
among_more xs x q b e = list_any-append (nat_eq q) xs (x ∷ []) ∙ ap (λ t. is_among q xs || (t || false)) e

-- the mark of one number more is set
pub marked_more : (marks : List Bool) (xs : List ℕ) (x : ℕ) → ((q : ℕ) → get_or marks q false ≡ is_among q xs) → x < length marks
    → (q : ℕ) → get_or (set marks x true) q false ≡ is_among q (xs ++ x ∷ [])
marked_more marks xs x so_far within q = by_value (nat_eq q x) refl where
  by_value : (b : Bool) → nat_eq q x ≡ b → get_or (set marks x true) q false ≡ is_among q (xs ++ x ∷ [])
  by_value true e =
      ap (λ k. get_or (set marks x true) k false) (eqb-true q x e) ∙ get_or-set_same marks x true false within
      ∙ sym (among_more xs x q true e ∙ either (is_among q xs))
  by_value false e =
      get_or-set_other marks x q true false (λ same. false≢true (sym e ∙ eq-eqb q x same)) ∙ so_far q
      ∙ sym (among_more xs x q false e ∙ neither (is_among q xs))
