-- Each class of accepted files but Object has a superclass: so each is below Object.
use Rattle.std.proofs.Common.{◌≡◌, refl, sym, ◌∙◌, ap, ℕ, zero, suc, ◌+◌, ◌-◌, ◌<◌, ◌≤◌, ◌⊎◌, inl, inr, ◌==◌, ◌||◌, Bool, true, false, cond, List, [], ◌∷◌, ◌++◌, length, map, nat_eq, replicate, slice_get, Option, Some, None, IsSome, get_or, subst, is_none, is_some, option_and_then, unwrap_or, arith, zero-add, length-append}
use Rattle.std.specs.List.{AllByRecursion, flat_map}
use Rattle.std.proofs.lemmas.Bool.{cases_lt, eqb-true, false≢true, or_parts, or_right}
use Rattle.std.proofs.lemmas.List.{get_or-replicate}
use Rattle.std.proofs.lemmas.List.FromFn.{get_or-map-range_with_len}
use Rattle.fm_base.proofs.TestFacts.{same-nat_eq}
use Rattle.fm_code.specs.ConstantPool.{class_name_at, entry_at}
use Rattle.fm_code.specs.Spells.{HasSpelling}
use Rattle.fm_code.specs.declared.class_file.ClassDef.{ClassDef}
use Rattle.fm_code.specs.declared.constant_pool.Entry.{Entry}
use Rattle.fm_code.specs.declared.constant_pool.Entry.TheVariants as entry
use Rattle.fm_link_supers.proofs.BuiltInParents.{completed_parent, second_of, table_parent}
use Rattle.fm_link_supers.proofs.Downwards.{among_head}
use Rattle.fm_link_supers.proofs.ParentRefusals.{tree_object, length-declared, past_none, name_within, nil_left, none_of, spelled_at, not_refused, if_true, refused_not, superclass_used, some_entries}
use Rattle.fm_code.specs.Names.{object}
use Rattle.fm_law_linked.proofs.GivenFiles.{class_of_file, none_used}
use Rattle.fm_law_no_fault.proofs.BelowClasses.{parent_among}
use Rattle.fm_types.specs.Fits.{AreTree, object_of}
use Rattle.fm_world.proofs.Completions.{count_is}
use Rattle.fm_world.proofs.Displays.{parent_of-within}
use Rattle.fm_world.specs.BuiltIns.{built_in, built_in_classes}
use Rattle.fm_world.specs.Causes.{bad_parent_at, bad_parents, bad_superclass, is_array_name, is_bad_superclass, missing_at, missing_classes, MissingClass, missing, refused, refused_if, refused_where}
use Rattle.fm_world.specs.Chains.{chain_of, class_at, completion_of, is_among, parent_of, superclass_in}
use Rattle.fm_world.specs.Declarations.{declared_from, name_at}
use Rattle.fm_world.specs.Descriptors.{class_in, class_number, class_type, field_type, typed}
use Rattle.fm_world.specs.Linking.{refused_built_ins, refused_missing_classes, refused_parents}
use Rattle.fm_world.specs.Programs.{classes_of}
use Rattle.fm_world.specs.Uses.{named_class, uses_in_order}
use Rattle.fm_world.specs.declared.declarations.DeclaredClass.{DeclaredClass}
use Rattle.fm_world.specs.inner.Tables.{chain_from, IsLinear, numbers_below}

-- its superclass is there
record HasParent (classes : List DeclaredClass) (class : ℕ) : Type 0 where
  parent : ℕ
  parent_is : parent_of classes class ≡ Some parent

-- ---- built-in classes

abbrev some_parent : ℕ → Bool
some_parent k = nat_eq k 0 || is_some (parent_of built_in k)

parents_table : map some_parent (numbers_below built_in_classes) ≡ replicate built_in_classes true
unfolding built_in
parents_table = refl

built_in_parent : (given : List ClassDef) → refused_built_ins given ≡ [] → (k : ℕ) → k < length built_in → nat_eq k 0 ≡ false → HasParent (classes_of given) k
built_in_parent given apart k within other = by_completion (completion_of (classes_of given) (class_at (classes_of given) k)) refl where
  inside : k < built_in_classes
  inside = let count = count_is in omega (arith, within, count)

  found : is_some (parent_of built_in k) ≡ true
  found =
      second_of (nat_eq k 0) (is_some (parent_of built_in k)) other
      (sym (get_or-map-range_with_len some_parent 0 built_in_classes k k true inside (zero-add k)) ∙ ap (λ row. get_or row k true) parents_table ∙ get_or-replicate built_in_classes k true true inside)

  by_parent : completion_of (classes_of given) (class_at (classes_of given) k) ≡ None → (p : Option ℕ) → parent_of built_in k ≡ p → HasParent (classes_of given) k
  by_parent plain None e = absurd (false≢true (sym (ap is_some e) ∙ found))
  by_parent plain (Some p) e = record { parent = p; parent_is = table_parent given k within plain ∙ e }

  by_completion : (o : Option ℕ) → completion_of (classes_of given) (class_at (classes_of given) k) ≡ o → HasParent (classes_of given) k
  by_completion (Some f) is = record { parent = f; parent_is = completed_parent given apart k f within is }
  by_completion None is = by_parent is (parent_of built_in k) refl

-- what completes a class is right above it
pub completed_above : (given : List ClassDef) → refused_built_ins given ≡ [] → (class f : ℕ) → class < length built_in
    → completion_of (classes_of given) (class_at (classes_of given) class) ≡ Some f → is_among f (chain_of (classes_of given) class) ≡ true
unfolding classes_of
completed_above given apart class f within is =
    parent_among (classes_of given) (let many = length-append built_in (declared_from 0 given) in omega (arith, many, count_is)) class f
    (completed_parent given apart class f within is)

-- ---- classes of files

-- a name that is no array's is its class's
class_named : (name : List ℕ) → is_array_name name ≡ false → class_in (class_type name) ≡ Some name
class_named [] e = refl
class_named (c ∷ rest) e = ap (λ b. class_in (cond b (field_type (c ∷ rest)) (typed 0 (object (c ∷ rest))))) e

-- an entry that names a class names it as what is used
named_there : (entries : List Entry) (index : ℕ) (name : List ℕ) → class_name_at entries index ≡ Some name → named_class entries index ≡ Some name
named_there entries index name named = by_entry (entry_at entries index) refl named where
  by_entry : (e : Entry) → entry_at entries index ≡ e → class_name_at entries index ≡ Some name → named_class entries index ≡ Some name
  by_entry (entry.Class n) is named = rw is named
  by_entry e is named = absurd (let h = rw is at named in cc)

file_parent : (given : List ClassDef) (j : ℕ) (c : ClassDef) → slice_get given j ≡ Some c → AllByRecursion HasSpelling given → refused_parents given ≡ []
    → refused_missing_classes given ≡ [] → HasParent (classes_of given) (length built_in + j)
unfolding refused_parents refused_missing_classes
file_parent given j c at spelled no_bad no_missing = by_sort own.1.super_class where
  classes : List DeclaredClass
  classes = classes_of given

  entries : List Entry
  entries = c.pool.entries

  own : HasSpelling c
  own = spelled_at given j c spelled at

  judged : c.super_class < length entries → ((c.super_class == 0) ≡ false) × (is_bad_superclass classes c (name_at entries c.super_class) ≡ false)
  judged within =
      let all = none_used (bad_parent_at classes c) c c.super_class (none_of (bad_parents classes) given j c no_bad at) within (superclass_used c) in
      not_refused (c.super_class == 0) (is_bad_superclass classes c (name_at entries c.super_class)) _ _
      (if_true (c.super_class == c.super_class) (bad_superclass classes c) (same-nat_eq c.super_class)
      (nil_left (cond (c.super_class == c.super_class) (bad_superclass classes c) []) _ all))

  present : (name : List ℕ) → class_name_at entries c.super_class ≡ Some name → c.super_class < length entries → is_array_name name ≡ false
      → is_none (class_number classes name) ≡ false
  present name named within plain =
      let all = none_of (missing_classes classes) given j c no_missing at in
      let here = none_used (missing_at classes c) c c.super_class (nil_left (flat_map (missing_at classes c) (uses_in_order c)) _ all) within (superclass_used c) in
      refused_not (is_none (class_number classes name)) (refused MissingClass c name)
      (sym (ap (refused_where (λ n. refused_if (is_none (class_number classes n)) (refused MissingClass c n))) (class_named name plain))
      ∙ sym (ap (refused_where (λ n. missing classes c (class_type n))) (named_there entries c.super_class name named)) ∙ here)

  by_number : (name : List ℕ) → class_name_at entries c.super_class ≡ Some name → (o : Option ℕ) → class_number classes name ≡ o → is_none o ≡ false
      → HasParent classes (length built_in + j)
  by_number name named None e found = absurd (false≢true (sym found))
  by_number name named (Some p) e found = record {
    parent = p;
    parent_is =
        ap (superclass_in classes) (class_of_file given j c at).declared
        ∙ ap (option_and_then (λ n. class_number classes n)) named ∙ e;
  }

  by_name : (o : Option (List ℕ)) → class_name_at entries c.super_class ≡ o → IsSome o → c.super_class < length entries
      → is_bad_superclass classes c (unwrap_or o []) ≡ false → HasParent classes (length built_in + j)
  by_name None e some within good = absurd (false≢true some)
  by_name (Some name) e some within good =
      let plain = (or_parts _ _ (or_parts _ _ (or_parts _ _ (or_parts _ _ good).0).0).0).0 in
      by_number name e (class_number classes name) refl (present name e within plain)

  by_sort : (c.super_class ≡ 0) ⊎ IsSome (class_name_at entries c.super_class) → HasParent classes (length built_in + j)
  by_sort (inl zero_is) =
      let some = some_entries entries own.1.pool.slots in
      let within : c.super_class < length entries = omega (arith, zero_is, some) in
      absurd (false≢true (sym (judged within).0 ∙ ap (λ k. k == 0) zero_is))
  by_sort (inr some) =
      let within = name_within entries c.super_class some in
      by_name (class_name_at entries c.super_class) refl some within (judged within).1

-- ---- chains

each_parent : (given : List ClassDef) → AllByRecursion HasSpelling given → refused_built_ins given ≡ [] → refused_parents given ≡ []
    → refused_missing_classes given ≡ [] → (class : ℕ) → class < length (classes_of given) → nat_eq class 0 ≡ false → HasParent (classes_of given) class
unfolding classes_of
each_parent given spelled apart no_bad no_missing class within other = by_place (cases_lt class (length built_in)) where
  file : (j : ℕ) → class ≡ length built_in + j → (o : Option ClassDef) → slice_get given j ≡ o → HasParent (built_in ++ declared_from 0 given) class
  file j is None e =
      let past = past_none given j e in
      absurd (let l = length-append built_in (declared_from 0 given) in let d = length-declared 0 given in omega (arith, is, past, l, d, within))
  file j is (Some c) e =
      let P : ℕ → Type 0 = HasParent (built_in ++ declared_from 0 given) in subst P (sym is) (file_parent given j c e spelled no_bad no_missing)

  by_place : (class < length built_in) ⊎ (length built_in ≤ class) → HasParent (built_in ++ declared_from 0 given) class
  by_place (inl own) = built_in_parent given apart class own other
  by_place (inr later) = file (class - length built_in) (omega (arith, later)) (slice_get given (class - length built_in)) refl

-- along a chain of at most this many classes
ends_in : (classes : List DeclaredClass) (top : ℕ) → IsLinear classes → ((class : ℕ) → class < length classes → nat_eq class top ≡ false → HasParent classes class)
    → (bound class : ℕ) → length (chain_of classes class) ≤ bound → class < length classes → is_among top (chain_of classes class) ≡ true
ends_in classes top linear parents zero class few within = absurd (let long = ap length (linear class within) in omega (arith, few, long))
ends_in classes top linear parents (suc bound) class few within =
    by_test (ends_in classes top linear parents bound) (nat_eq class top) refl where
      by_test : ((k : ℕ) → length (chain_of classes k) ≤ bound → k < length classes → is_among top (chain_of classes k) ≡ true) → (b : Bool) → nat_eq class top ≡ b
          → is_among top (chain_of classes class) ≡ true
      by_test later true same =
          ap (is_among top) (linear class within) ∙ ap (λ k. is_among k (class ∷ chain_from classes (parent_of classes class))) (sym (eqb-true class top same))
          ∙ among_head class (chain_from classes (parent_of classes class))
      by_test later false other =
          let above = parents class within other in
          let chain : chain_of classes class ≡ class ∷ chain_of classes above.parent =
          linear class within ∙ ap (λ p. class ∷ chain_from classes p) above.parent_is in
          let long = ap length chain in
          ap (is_among top) chain
          ∙ or_right (nat_eq top class) (is_among top (chain_of classes above.parent))
          (later above.parent (omega (arith, few, long)) (parent_of-within classes class above.parent above.parent_is))

-- each class is below Object
pub below_object : (given : List ClassDef) → AllByRecursion HasSpelling given → refused_built_ins given ≡ [] → refused_parents given ≡ []
    → refused_missing_classes given ≡ [] → AreTree (classes_of given) → (class : ℕ) → class < length (classes_of given) → is_among (object_of (classes_of given)) (chain_of (classes_of given) class) ≡ true
below_object given spelled apart no_bad no_missing tree class within =
    let first : object_of (classes_of given) ≡ 0 = ap (λ o. unwrap_or o 0) (tree_object given) in
    ap (λ k. is_among k (chain_of (classes_of given) class)) first
    ∙ ends_in (classes_of given) 0 tree.linear (each_parent given spelled apart no_bad no_missing) (length (chain_of (classes_of given) class)) class (omega arith) within
