-- The marks that are set are those of the indices that are used.
use Rattle.std.proofs.Common.{◌≡◌, refl, sym, ◌∙◌, ap, ℕ, ◌+◌, ◌<◌, ◌⊎◌, inl, inr, Bool, true, false, ◌||◌, List, [], ◌∷◌, ◌++◌, length, map, replicate, drop, get_or, set, nat_eq, Some, None, arith, length-set, get_or-set_same, get_or-set_other, zero-add}
use Rattle.std.proofs.Math.Bool.{or-false}
use Rattle.std.specs.List.{flat_map, filter_map, list_any, range_with_len}
use Rattle.std.proofs.lemmas.Bool.{cases_eq}
use Rattle.std.proofs.lemmas.List.{ext_get_or, get_or-replicate, length-replicate}
use Rattle.std.proofs.lemmas.List.Elements.{filter_map-append}
use Rattle.std.proofs.lemmas.List.FromFn.{get_or-map-range_with_len, length-map-range_with_len}
use Rattle.fm_code.specs.Members.{code_of}
use Rattle.fm_code.specs.declared.class_file.ClassDef.{ClassDef}
use Rattle.fm_code.specs.declared.class_file.Member.{Member}
use Rattle.fm_code.specs.declared.class_file.MemberAttr.{MemberAttr}
use Rattle.fm_code.specs.declared.class_file.MemberAttr.TheVariants as attribute
use Rattle.fm_code.specs.declared.code_array.Code.{Code}
use Rattle.fm_code.specs.declared.code_array.Item.{Item}
use Rattle.fm_code.specs.Operands.{pool_index}
use Rattle.fm_world.specs.Uses.{caught_by, class_items, is_used, items_of, pool_indices, used_indices, values_of}
use Rattle.fm_base.proofs.ListFacts.{drop_here}
use Rattle.fm_base.proofs.TestFacts.{same-nat_eq}
use Rattle.fm_base.specs.Rows.{marked}
use Rattle.fm_link_names.specs.inner.Marks.{operands_in, values_among}

-- ---- marks

pub length-marked : (marks : List Bool) (indices : List ℕ) → length (marked marks indices) ≡ length marks
length-marked marks [] = refl
length-marked marks (i ∷ indices) = length-marked (set marks i true) indices ∙ length-set marks i true

pub marked-append : (marks : List Bool) (xs ys : List ℕ) → marked marks (xs ++ ys) ≡ marked (marked marks xs) ys
marked-append marks [] ys = refl
marked-append marks (x ∷ xs) ys = marked-append (set marks x true) xs ys

or_swapped : (a b c : Bool) → (b || (a || c)) ≡ ((a || b) || c)
or_swapped true true c = refl
or_swapped true false c = refl
or_swapped false true c = refl
or_swapped false false c = refl

pub other_number : (k i : ℕ) → (k ≡ i → ⊥) → nat_eq k i ≡ false
other_number k i d = search (arith, d)

-- one mark more
set_mark : (marks : List Bool) (i k : ℕ) → k < length marks → get_or (set marks i true) k false ≡ (nat_eq k i || get_or marks k false)
set_mark marks i k within = by_case (cases_eq k i) where
  by_case : (k ≡ i) ⊎ (k ≡ i → ⊥) → get_or (set marks i true) k false ≡ (nat_eq k i || get_or marks k false)
  by_case (inl e) =
      ap (λ j. get_or (set marks j true) k false) (sym e) ∙ get_or-set_same marks k true false within
      ∙ sym (ap (λ b. b || get_or marks k false) (ap (nat_eq k) (sym e) ∙ same-nat_eq k))
  by_case (inr d) = get_or-set_other marks i k true false d ∙ sym (ap (λ b. b || get_or marks k false) (other_number k i d))

pub get_or-marked : (marks : List Bool) (indices : List ℕ) (k : ℕ) → k < length marks
    → get_or (marked marks indices) k false ≡ (list_any (nat_eq k) indices || get_or marks k false)
get_or-marked marks [] k within = refl
get_or-marked marks (i ∷ indices) k within =
    let longer : k < length (set marks i true) = let same = length-set marks i true in omega (arith, same) in
    get_or-marked (set marks i true) indices k longer
    ∙ ap (λ b. list_any (nat_eq k) indices || b) (set_mark marks i k within)
    ∙ or_swapped (nat_eq k i) (list_any (nat_eq k) indices) (get_or marks k false)

-- marks that are all unset, with those of some indices set
pub marked-none : (n : ℕ) (indices : List ℕ) → marked (replicate n false) indices ≡ map (λ k. list_any (nat_eq k) indices) (range_with_len 0 n)
marked-none n indices =
    ext_get_or false (marked (replicate n false) indices) (map (λ k. list_any (nat_eq k) indices) (range_with_len 0 n)) lengths each where
      unset : List Bool
      unset = replicate n false

      long : length (marked unset indices) ≡ n
      long = length-marked unset indices ∙ length-replicate n false

      lengths : length (marked unset indices) ≡ length (map (λ k. list_any (nat_eq k) indices) (range_with_len 0 n))
      lengths = long ∙ sym (length-map-range_with_len (λ k. list_any (nat_eq k) indices) 0 n)

      each : (i : ℕ) → i < length (marked unset indices)
          → get_or (marked unset indices) i false ≡ get_or (map (λ k. list_any (nat_eq k) indices) (range_with_len 0 n)) i false
      each i h =
          let below : i < n = omega (arith, h, long) in
          let within : i < length unset = let l = length-replicate n false in omega (arith, below, l) in
          get_or-marked unset indices i within
          ∙ ap (λ b. list_any (nat_eq i) indices || b) (get_or-replicate n i false false below)
          ∙ or-false (list_any (nat_eq i) indices)
          ∙ sym (get_or-map-range_with_len (λ k. list_any (nat_eq k) indices) 0 n i i false below (zero-add i))

-- ---- attributes and code

values_in : (m : Member) (attributes : List MemberAttr) → values_of (record m { attributes = attributes }) ≡ values_among attributes
values_in m [] = refl
values_in m (attribute.Constant name value ∷ attributes) = ap (λ is. value ∷ is) (values_in m attributes)
values_in m (attribute.Coded name code ∷ attributes) = values_in m attributes
values_in m (attribute.Other raw ∷ attributes) = values_in m attributes

pub values_are : (m : Member) → values_of m ≡ values_among m.attributes
values_are m = values_in m m.attributes

pub items_none : (m : Member) → code_of m ≡ None → items_of m ≡ []
items_none m e = rw e refl

pub items_some : (m : Member) (code : Code) → code_of m ≡ Some code → items_of m ≡ code.items
items_some m code e = rw e refl

pub caught_none : (m : Member) → code_of m ≡ None → caught_by m ≡ []
caught_none m e = rw e refl

pub caught_some : (m : Member) (code : Code) → code_of m ≡ Some code → caught_by m ≡ map (λ h. h.catch_class) code.handlers
caught_some m code e = rw e refl

pub operands-methods : (methods : List Member)
    → filter_map (λ (item : Item). pool_index item.insn) (flat_map items_of methods) ≡ flat_map operands_in methods
operands-methods [] = refl
operands-methods (m ∷ methods) =
    filter_map-append (λ (item : Item). pool_index item.insn) (items_of m) (flat_map items_of methods)
    ∙ ap (λ is. operands_in m ++ is) (operands-methods methods)

-- ---- all of a class

-- the marks after each step
pub record AreSet (c : ClassDef) (none own superclass interfaces values operands all : List Bool) : Type 0 where
  pub none_is : none ≡ replicate (length c.pool.entries) false
  pub own_is : own ≡ set none c.this_class true
  pub superclass_is : superclass ≡ set own c.super_class true
  pub interfaces_are : interfaces ≡ marked superclass c.interfaces
  pub values_marked : values ≡ marked interfaces (flat_map values_of c.fields)
  pub operands_are : operands ≡ marked values (flat_map operands_in c.methods)
  pub all_are : all ≡ marked operands (flat_map caught_by c.methods)

pub used_is : (c : ClassDef) (none own superclass interfaces values operands all : List Bool)
    → AreSet c none own superclass interfaces values operands all
    → all ≡ map (is_used c) (pool_indices c)
unfolding used_indices
used_is c none own superclass interfaces values operands all s =
    let ops = filter_map (λ (item : Item). pool_index item.insn) (class_items c) in
    let caught = flat_map caught_by c.methods in
    let vals = flat_map values_of c.fields in
    let start = set (set none c.this_class true) c.super_class true in
    let e1 : interfaces ≡ marked start c.interfaces = s.interfaces_are
    ∙ ap (λ r. marked r c.interfaces) (s.superclass_is ∙ ap (λ r. set r c.super_class true) s.own_is) in
    let e2 : values ≡ marked start (c.interfaces ++ vals) = s.values_marked ∙ ap (λ r. marked r vals) e1
    ∙ sym (marked-append start c.interfaces vals) in
    let e3 : operands ≡ marked start ((c.interfaces ++ vals) ++ ops) =
    s.operands_are ∙ ap (marked values) (sym (operands-methods c.methods)) ∙ ap (λ r. marked r ops) e2
    ∙ sym (marked-append start (c.interfaces ++ vals) ops) in
    let e4 : all ≡ marked start (((c.interfaces ++ vals) ++ ops) ++ caught) =
    s.all_are ∙ ap (λ r. marked r caught) e3 ∙ sym (marked-append start ((c.interfaces ++ vals) ++ ops) caught) in
    e4 ∙ ap (λ r. marked (set (set r c.this_class true) c.super_class true) (((c.interfaces ++ vals) ++ ops) ++ caught)) s.none_is
    ∙ marked-none (length c.pool.entries) (used_indices c)

-- ---- one element after the other

pub marks_step : {X : Type 0} (f : X → List ℕ) (xs : List X) (i : ℕ) (x : X) (old new all : List Bool) → i < length xs → x ≡ get_or xs i x
    → new ≡ marked old (f x)
    → marked old (flat_map f (drop i xs)) ≡ all → marked new (flat_map f (drop (i + 1) xs)) ≡ all
marks_step f xs i x old new all within is more left =
    ap (λ r. marked r (flat_map f (drop (i + 1) xs))) more
    ∙ sym (marked-append old (f x) (flat_map f (drop (i + 1) xs)))
    ∙ ap (λ ys. marked old (flat_map f ys)) (sym (drop_here xs i x within is))
    ∙ left
