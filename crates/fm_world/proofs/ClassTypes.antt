-- The types of the classes are numbered first, in the order of the classes.
use Rattle.std.proofs.Common.{◌≡◌, refl, ◌∙◌, ap, ℕ, zero, suc, ◌+◌, ◌<◌, ◌==◌, not, Bool, true, false, List, ◌∷◌, ◌++◌, length, map, filter, get_or, cond, nat_lt, Some, None, position, zero-add, arith}
use Rattle.std.specs.List.{flat_map, position_or_len, range_with_len}
use Rattle.std.proofs.lemmas.Bool.{eq-eqb, ne_eqb, lt-ltb}
use Rattle.std.proofs.lemmas.List.{append_assoc, get_or_append_left, length-append}
use Rattle.std.proofs.lemmas.List.Elements.{filter-append}
use Rattle.std.proofs.lemmas.List.FromFn.{get_or-map-range_with_len, length-map-range_with_len}
use Rattle.std.proofs.lemmas.List.Sums.{position_or_len_is}
use Rattle.fm_base.specs.declared.kinds.TypeRef.{TypeRef}
use Rattle.fm_code.specs.declared.class_file.ClassDef.{ClassDef}
use Rattle.fm_world.specs.Chains.{distinct, same_type}
use Rattle.fm_world.specs.Numbers.{arrays_in, class_types, made_arrays, type_number, type_of_class, types_of, used_types}
use Rattle.fm_world.specs.declared.declarations.DeclaredClass.{DeclaredClass}

-- the type of an earlier class isn't among them
earlier : (n a k : ℕ) → k < a
    → filter (λ t. not (same_type (type_of_class k) t)) (map type_of_class (range_with_len a n)) ≡ map type_of_class (range_with_len a n)
earlier zero a k h = refl
earlier (suc n) a k h =
    let differs : (k == a) ≡ false = ne_eqb k a (λ same. omega (arith, same, h)) in
    ap (λ b. cond (not b) (type_of_class a ∷ filter (λ t. not (same_type (type_of_class k) t)) (map type_of_class (range_with_len (a + 1) n)))
    (filter (λ t. not (same_type (type_of_class k) t)) (map type_of_class (range_with_len (a + 1) n)))) differs
    ∙ ap (λ xs. type_of_class a ∷ xs) (earlier n (a + 1) k (omega (arith, h)))

-- each occurs once where others follow, and the others after them
record BeginsWith (xs ys : List TypeRef) : Type 0 where
  rest : List TypeRef
  joined : ys ≡ xs ++ rest

distinct_types : (n a : ℕ) (others : List TypeRef)
    → BeginsWith (map type_of_class (range_with_len a n)) (distinct same_type (map type_of_class (range_with_len a n) ++ others))
distinct_types zero a others = record { rest = distinct same_type others; joined = refl }
distinct_types (suc n) a others =
    let later = distinct_types n (a + 1) others in
    let keeps : TypeRef → Bool = λ t. not (same_type (type_of_class a) t) in
    record {
      rest = filter keeps later.rest;
      joined = ap (λ ts. type_of_class a ∷ ts)
          (ap (filter keeps) later.joined ∙ filter-append keeps (map type_of_class (range_with_len (a + 1) n)) later.rest
          ∙ ap (λ ts. ts ++ filter keeps later.rest) (earlier n (a + 1) a (omega arith)));
    }

-- where the types of the classes come first, that of a class is found at its number
found_first : (n class : ℕ) (rest : List TypeRef) → class < n
    → position (same_type (type_of_class class)) (map type_of_class (range_with_len 0 n) ++ rest) ≡ Some class
found_first n class rest h =
    let types = map type_of_class (range_with_len 0 n) ++ rest in
    let first = map type_of_class (range_with_len 0 n) in
    let test : TypeRef → Bool = same_type (type_of_class class) in
    let d = type_of_class 0 in
    let long : class < length types = omega (arith, h, length-append first rest, length-map-range_with_len type_of_class 0 n) in
    let at : (k : ℕ) → k < n → get_or types k d ≡ type_of_class k
    = λ k e. get_or_append_left first rest d k (omega (arith, e, length-map-range_with_len type_of_class 0 n))
    ∙ get_or-map-range_with_len type_of_class 0 n k k d e (zero-add k) in
    let before : (k : ℕ) → k < class → test (get_or types k d) ≡ false =
    λ k e. ap test (at k (omega (arith, e, h))) ∙ ne_eqb class k (λ same. omega (arith, same, e)) in
    let there : class < length types → test (get_or types class d) ≡ true = λ e. ap test (at class h) ∙ eq-eqb class class refl in
    let place : position_or_len test types ≡ class = position_or_len_is test types class d (omega (arith, long)) before there in
    ap (λ i. cond (nat_lt i (length types)) (Some i) None) place ∙ ap (λ b. cond b (Some class) None) (lt-ltb class (length types) long)

pub type_number-class : (classes : List DeclaredClass) (given : List ClassDef) (class : ℕ) → class < length classes
    → type_number (types_of classes given) (type_of_class class) ≡ Some class
unfolding types_of
type_number-class classes given class h =
    let used = used_types classes given in
    let others = used ++ flat_map arrays_in (used ++ made_arrays classes given) in
    let apart = distinct_types (length classes) 0 others in
    ap (λ ts. position (same_type (type_of_class class)) (distinct same_type ts))
    (append_assoc (class_types classes) used (flat_map arrays_in (used ++ made_arrays classes given)))
    ∙ ap (position (same_type (type_of_class class))) apart.joined ∙ found_first (length classes) class apart.rest h
