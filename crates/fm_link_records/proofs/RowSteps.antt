-- Records of a list one after the other, by a function of their numbers.
use Rattle.std.proofs.Common.{◌≡◌, refl, sym, ◌∙◌, ap, ℕ, zero, suc, ◌+◌, ◌-◌, ◌<◌, List, [], ◌∷◌, ◌++◌, length, map, get_or, zero-add, arith, append_assoc}
use Rattle.std.specs.List.{range_with_len}
use Rattle.std.proofs.lemmas.List.{append-nil, length-append}
use Rattle.fm_link_records.specs.inner.Rows.{map_from}

pub map_from-append : {A B : Type 0} (f : ℕ → A → B) (n : ℕ) (xs ys : List A) → map_from f n (xs ++ ys)
    ≡ map_from f n xs ++ map_from f (n + length xs) ys
map_from-append f n [] ys = let e : n ≡ n + 0 = omega arith in ap (λ k. map_from f k ys) e
map_from-append f n (x ∷ xs) ys =
    let e : n + 1 + length xs ≡ n + length (x ∷ xs) = omega arith in
    ap (λ zs. f n x ∷ zs) (map_from-append f (n + 1) xs ys ∙ ap (λ k. map_from f (n + 1) xs ++ map_from f k ys) e)

pub length-map_from : {A B : Type 0} (f : ℕ → A → B) (n : ℕ) (xs : List A) → length (map_from f n xs) ≡ length xs
length-map_from f n [] = refl
length-map_from f n (x ∷ xs) = ap suc (length-map_from f (n + 1) xs)

-- a part more of those that are left
pub part_step : {A B : Type 0} (f : ℕ → A → B) (old new all : List B) (part left whole : List A) → whole ≡ part ++ left
    → new ≡ old ++ map_from f (length old) part
    → old ++ map_from f (length old) whole ≡ all
    → new ++ map_from f (length new) left ≡ all
part_step f old new all part left whole is added before =
    let longer : length new ≡ length old + length part =
    ap length added ∙ length-append old (map_from f (length old) part) ∙ ap (λ k. length old + k) (length-map_from f (length old) part) in
    ap (λ zs. zs ++ map_from f (length new) left) added
    ∙ ap (λ k. (old ++ map_from f (length old) part) ++ map_from f k left) longer
    ∙ append_assoc old (map_from f (length old) part) (map_from f (length old + length part) left)
    ∙ ap (λ zs. old ++ zs) (sym (map_from-append f (length old) part left))
    ∙ ap (λ zs. old ++ map_from f (length old) zs) (sym is)
    ∙ before

-- one element more of those that are left
pub one_step : {A B : Type 0} (f : ℕ → A → B) (old new all : List B) (x : A) (y : B) (left whole : List A) → whole ≡ x ∷ left
    → new ≡ old ++ y ∷ [] → y ≡ f (length old) x
    → old ++ map_from f (length old) whole ≡ all
    → new ++ map_from f (length new) left ≡ all
one_step f old new all x y left whole is pushed made before =
    part_step f old new all (x ∷ []) left whole is (pushed ∙ ap (λ z. old ++ z ∷ []) made) before

-- nothing is left
pub none_left : {A B : Type 0} (f : ℕ → A → B) (done all : List B) (left : List A) → left ≡ [] → done ++ map_from f (length done) left ≡ all → done
    ≡ all
none_left f done all left none is = sym (append-nil done) ∙ ap (λ zs. done ++ map_from f (length done) zs) (sym none) ∙ is

-- the records by their numbers
map_from-later : {A B : Type 0} (f : ℕ → A → B) (all : List A) (d : A) (n : ℕ) (xs : List A) → ((k : ℕ) → k < length xs → get_or xs k d
    ≡ get_or all (n + k) d)
    → map_from f n xs ≡ map (λ k. f k (get_or all k d)) (range_with_len n (length xs))
map_from-later f all d n [] same = refl
map_from-later f all d n (x ∷ xs) same =
    let zero_ : n + 0 ≡ n = omega arith in
    let here : x ≡ get_or all n d = same 0 (omega arith) ∙ ap (λ k. get_or all k d) zero_ in
    ap (λ z. f n z ∷ map_from f (n + 1) xs) here
    ∙ ap (λ zs. f n (get_or all n d) ∷ zs) (map_from-later f all d (n + 1) xs
    (λ k h. let e : n + suc k ≡ n + 1 + k = omega arith in same (suc k) (omega (arith, h)) ∙ ap (λ j. get_or all j d) e))

pub map_from-numbers : {A B : Type 0} (f : ℕ → A → B) (xs : List A) (d : A)
    → map_from f 0 xs ≡ map (λ k. f k (get_or xs k d)) (range_with_len 0 (length xs))
map_from-numbers f xs d = map_from-later f xs d 0 xs (λ k h. let e : k ≡ 0 + k = omega arith in ap (λ j. get_or xs j d) e)

-- numbers of two parts
pub map-range : {A : Type 0} (f : ℕ → A) (n a b : ℕ) → map f (range_with_len n (a + b))
    ≡ map f (range_with_len n a) ++ map f (range_with_len (n + a) b)
map-range f n zero b =
    let e : zero + b ≡ b = omega arith in let g : n ≡ n + zero = omega arith in
    ap (λ k. map f (range_with_len n k)) e ∙ ap (λ k. map f (range_with_len k b)) g
map-range f n (suc a) b =
    let e : suc a + b ≡ suc (a + b) = omega arith in let g : n + 1 + a ≡ n + suc a = omega arith in
    ap (λ k. map f (range_with_len n k)) e ∙ ap (λ xs. f n ∷ xs) (map-range f (n + 1) a b)
    ∙ ap (λ k. f n ∷ (map f (range_with_len (n + 1) a) ++ map f (range_with_len k b))) g

-- one more by its number
pub row_more : {A : Type 0} (f : ℕ → A) (i : ℕ) (old new : List A) (y : A) → new ≡ old ++ y ∷ [] → old ≡ map f (range_with_len 0 i) → y ≡ f i
    → new ≡ map f (range_with_len 0 (i + 1))
row_more f i old new y pushed before is =
    pushed ∙ ap (λ zs. zs ++ y ∷ []) before ∙ ap (λ z. map f (range_with_len 0 i) ++ z ∷ []) (is ∙ ap f (sym (zero-add i))) ∙ sym (map-range f 0 i 1)
