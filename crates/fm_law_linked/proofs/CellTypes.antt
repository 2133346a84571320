-- What linking makes sure of the types of a program, so that each cell fits: what can be cast to a type fits it, no class is below String, and a hidden field is
-- one of the built-in classes that have it.
use Rattle.std.proofs.Common.{◌≡◌, ℕ, zero, suc, ◌+◌, ◌-◌, ◌<◌, ◌≤◌, ◌==◌, ◌&&◌, ◌||◌, ◌⊎◌, inl, inr, not, cond, Bool, true, false, List, [], ◌∷◌, ◌++◌, length, codes, map, nat_eq, nat_lt, replicate, slice_get, get_or, Option, Some, None, is_some, option_and_then, unwrap_or, zero-add, refl, sym, ◌∙◌, ap, subst, arith, ⊎_elim}
use Rattle.std.specs.List.{AllByRecursion, list_any}
use Rattle.std.specs.Option.{option_or}
use Rattle.std.specs.Str.{bytes_eq}
use Rattle.std.proofs.lemmas.Bool.{and_parts, cases_lt, eqb-true, false≢true, ltb-true, or_cases, or_left, or_parts, or_right}
use Rattle.std.proofs.lemmas.List.{get_or-replicate, get_or_append_left, get_or_past, length-append}
use Rattle.std.proofs.lemmas.List.FromFn.{get_or-map-range_with_len}
use Rattle.std.proofs.lemmas.List.Quantifiers.{position-Some}
use Rattle.std.proofs.lemmas.Option.{none-some, same_Some}
use Rattle.std.proofs.lemmas.Slice.Eq.{bytes_eq-Decides}
use Rattle.fm_code.specs.FreeEntries.{free_class}
use Rattle.fm_base.proofs.TestFacts.{same-nat_eq}
use Rattle.fm_base.specs.declared.kinds.Base.{Base}
use Rattle.fm_base.specs.declared.kinds.Base.TheVariants as base
use Rattle.fm_base.specs.declared.kinds.Kind.TheVariants as kind
use Rattle.fm_base.specs.declared.kinds.TypeRef.{TypeRef}
use Rattle.fm_code.specs.ConstantPool.{class_name_at}
use Rattle.fm_code.specs.Spells.{HasSpelling}
use Rattle.fm_code.specs.declared.class_file.ClassDef.{ClassDef}
use Rattle.fm_code.specs.AccessFlags.{is_interface}
use Rattle.fm_frames.proofs.BuiltInTypes.{below_named, buffer_there, builder_there, named_class, object_first, throwable_there}
use Rattle.fm_frames.proofs.Programs.{string-is, string_number}
use Rattle.fm_frames.specs.Elements.{is_string_type}
use Rattle.fm_frames.specs.NativeRows.{text_kind, text_type}
use Rattle.fm_frames.specs.Runnable.{IsRunnable}
use Rattle.fm_frames.specs.Sights.{has_hidden_field}
use Rattle.fm_world.proofs.Completions.{count_is, from_file}
use Rattle.fm_link_supers.proofs.BuiltInParents.{named_completes}
use Rattle.fm_link_supers.proofs.Downwards.{among_head}
use Rattle.fm_link_supers.proofs.HierarchyLemmas.{interfaces_only}
use Rattle.fm_link_supers.proofs.ParentRefusals.{are_sound, if_true, length-declared, name_within, nil_left, none_of, not_refused, past_none, superclass_used}
use Rattle.fm_link_supers.specs.inner.Hierarchy.{AreSound}
use Rattle.fm_law_linked.proofs.Constants.{text_constants}
use Rattle.fm_law_linked.proofs.GivenFiles.{class_of_file, none_used}
use Rattle.fm_law_linked.proofs.MainMethod.{main_slots}
use Rattle.fm_law_sound.proofs.HiddenFields.{text_first}
use Rattle.fm_types.proofs.LeastJoins.{same_type-refl}
use Rattle.fm_types.proofs.Order.{below_objects-fits, level-fits}
use Rattle.fm_types.specs.Fits.{AreTree, depth_with, fits_type, is_object_base, is_seen_as_object, object_of}
use Rattle.fm_types.specs.Named.{built_in_type}
use Rattle.fm_world.specs.BuiltIns.{built_in, built_in_classes, cloneable_name, object_name, sealed_names, serializable_name, string_name}
use Rattle.fm_world.specs.Causes.{bad_parent_at, bad_parents, bad_superclass, may_be_completed, is_bad_superclass, own_name}
use Rattle.fm_world.specs.Chains.{array_supers, chain_of, class_at, completion_of, interfaces_of, is_above_arrays, is_among, is_base_above_arrays, is_sub, is_sub_base, parent_of, upwards}
use Rattle.fm_world.specs.Declarations.{declared_from, declared_of, name_at, no_class}
use Rattle.fm_world.specs.Descriptors.{class_number}
use Rattle.fm_check_program.proofs.Trees.{no_built_in_refused, no_parent_refused, tree_of}
use Rattle.fm_world.specs.Linking.{refusals, refused_built_ins, refused_parents}
use Rattle.fm_world.specs.Lookups.{is_interface_at}
use Rattle.fm_world.specs.Numbers.{type_of_class}
use Rattle.fm_world.specs.Programs.{class_of_type, classes_of, kind_at, Outline, outline_of, Program, program_of}
use Rattle.fm_world.specs.declared.declarations.DeclaredClass.{DeclaredClass}
use Rattle.fm_world.specs.inner.Tables.{numbers_below}
use Rattle.fm_world.proofs.TypeTests.{class_type}
use Rattle.fm_law_no_fault.specs.CellsResolved.{PlacesFit}

-- ---- what holds of each class: the built-in ones by computation, and those of files by what is refused

-- a class that is given, one of a file, or none
by_class : (given : List ClassDef) (P : DeclaredClass → Type 0) (class : ℕ) → (class < built_in_classes → P (class_at built_in class))
    → ((j n : ℕ) (c : ClassDef) → slice_get given j ≡ Some c → P (declared_of n c)) → P no_class → P (class_at (classes_of given) class)
unfolding classes_of built_in
by_class given P class own file past = by_place (cases_lt class (length built_in)) where
  more : List DeclaredClass
  more = declared_from 0 given

  by_file : (o : Option ClassDef) → slice_get given (class - built_in_classes) ≡ o → built_in_classes ≤ class → P (class_at (built_in ++ more) class)
  by_file None e later =
      let end = past_none given (class - built_in_classes) e in
      let many = length-append built_in more in
      let declared = length-declared 0 given in
      subst P (sym (get_or_past (built_in ++ more) class no_class (omega (arith, end, many, declared, later)))) past
  by_file (Some c) e later =
      let here = class_of_file given (class - built_in_classes) c e in
      let place : class ≡ built_in_classes + (class - built_in_classes) = omega (arith, later) in
      subst P (sym (ap (class_at (built_in ++ more)) place ∙ here.declared)) (file (class - built_in_classes) here.number c e)

  by_place : (class < length built_in) ⊎ (length built_in ≤ class) → P (class_at (built_in ++ more) class)
  by_place (inl within) = subst P (sym (get_or_append_left built_in more no_class class within)) (own within)
  by_place (inr later) = by_file (slice_get given (class - built_in_classes)) refl later

-- a table of the built-in classes that is false throughout
pub table_false : (test : ℕ → Bool) → map test (numbers_below built_in_classes) ≡ replicate built_in_classes false → (class : ℕ) → class < built_in_classes → test class ≡ false
table_false test table class within =
    sym (get_or-map-range_with_len test 0 built_in_classes class class true within (zero-add class)) ∙ ap (λ row. get_or row class true) table
    ∙ get_or-replicate built_in_classes class false true within

-- a class of a program that is one of the built-in ones
pub built_in_at : (given : List ClassDef) (class : ℕ) → class < built_in_classes → class_at (classes_of given) class ≡ class_at built_in class
unfolding classes_of
built_in_at given class within = get_or_append_left built_in (declared_from 0 given) no_class class (let count = count_is in omega (arith, within, count))

-- ---- what is above arrays counts as Object

above_table : map (λ k. is_above_arrays built_in k && not (is_interface_at built_in k || (k == 0))) (numbers_below built_in_classes) ≡ replicate built_in_classes false
unfolding built_in
above_table = refl

supers_there : (is_some (class_number built_in object_name) ≡ true) × (is_some (class_number built_in cloneable_name) ≡ true)
    × (is_some (class_number built_in serializable_name) ≡ true)
unfolding built_in
supers_there = (refl, refl, refl)

super_there : (name : List ℕ) → list_any (bytes_eq name) array_supers ≡ true → is_some (class_number built_in name) ≡ true
super_there name is =
    let named = λ (other : List ℕ) (same : bytes_eq name other ≡ true) (there : is_some (class_number built_in other) ≡ true).
    ap (λ n. is_some (class_number built_in n)) ((bytes_eq-Decides name other).0 same) ∙ there in
    ⊎_elim (λ one. named object_name one supers_there.0)
    (λ rest. ⊎_elim (λ two. named cloneable_name two supers_there.1)
    (λ last. ⊎_elim (λ three. named serializable_name three supers_there.2) (λ none. absurd (false≢true none))
    (or_cases (bytes_eq name serializable_name) false last))
    (or_cases (bytes_eq name cloneable_name) (bytes_eq name serializable_name || false) rest))
    (or_cases (bytes_eq name object_name) (bytes_eq name cloneable_name || (bytes_eq name serializable_name || false)) is)

-- no file completes them
super_alone : (name : List ℕ) → list_any (bytes_eq name) array_supers ≡ true → may_be_completed name ≡ false
super_alone name is = ap not (or_right (bytes_eq name free_class) (list_any (bytes_eq name) array_supers) is)

file_alone : (given : List ClassDef) → refused_built_ins given ≡ [] → (j : ℕ) (c : ClassDef) → slice_get given j ≡ Some c
    → list_any (bytes_eq (own_name c)) array_supers ≡ true → ⊥
file_alone given none j c at is = by_number (class_number built_in (own_name c)) refl where
  by_number : (o : Option ℕ) → class_number built_in (own_name c) ≡ o → ⊥
  by_number None e = false≢true (sym (ap is_some e) ∙ super_there (own_name c) is)
  by_number (Some k) e =
      let same = (bytes_eq-Decides (class_at built_in k).name (own_name c)).0
      (position-Some (λ (d : DeclaredClass). bytes_eq d.name (own_name c)) built_in k no_class e).1 in
      let may = (and_parts (may_be_completed (class_at built_in k).name) _ (named_completes given none j c at k e)).0 in
      false≢true (sym (super_alone (own_name c) is) ∙ sym (ap may_be_completed same) ∙ may)

pub above_built_in : (given : List ClassDef) → refused_built_ins given ≡ [] → (class : ℕ) → is_above_arrays (classes_of given) class ≡ true → class < built_in_classes
above_built_in given none class =
    by_class given (λ c. list_any (bytes_eq c.name) array_supers ≡ true → class < built_in_classes) class (λ within is. within)
    (λ j n c at is. absurd (file_alone given none j c at is))
    (λ is. absurd (false≢true is))

one_of : (a b : Bool) → (a && not b) ≡ false → a ≡ true → b ≡ true
one_of true true none is = refl
one_of true false none is = absurd (false≢true (sym none))
one_of false b none is = absurd (false≢true is)

pub above_seen : (given : List ClassDef) → refused_built_ins given ≡ [] → AreTree (classes_of given) → object_of (classes_of given) ≡ 0 → (class : ℕ)
    → is_above_arrays (classes_of given) class ≡ true → is_seen_as_object (classes_of given) class ≡ true
above_seen given none tree first class is =
    let within = above_built_in given none class is in
    let same = built_in_at given class within in
    let row = table_false (λ k. is_above_arrays built_in k && not (is_interface_at built_in k || (k == 0))) above_table class within in
    let own = one_of (is_above_arrays built_in class) (is_interface_at built_in class || (class == 0)) row
    (sym (ap (λ (c : DeclaredClass). list_any (bytes_eq c.name) array_supers) same) ∙ is) in
    ap (λ (c : DeclaredClass). is_interface c.flags || (class == object_of (classes_of given))) same
    ∙ ap (λ k. is_interface_at built_in class || (class == k)) first ∙ own

-- ---- what can be cast to a type fits it

deeper : (n dims : ℕ) (b : Base) → n < dims → n ≤ depth_with dims b
deeper n dims (base.OfClass class) less = omega (arith, less)
deeper n dims b less = omega (arith, less)

module _ (classes : List DeclaredClass) (sound : AreSound classes) (above : (class : ℕ) → is_above_arrays classes class ≡ true → is_seen_as_object classes class ≡ true) where
  level_sub : (dims others : ℕ) (a b : Base) → dims ≡ others → is_sub_base classes a b ≡ true
      → fits_type classes (record { dims = dims; base = a }) (record { dims = others; base = b }) ≡ true
  level_sub dims others (base.OfClass c) (base.OfClass d) same is =
      ⊎_elim
      (λ among. level-fits classes (record { dims = dims; base = base.OfClass c }) (record { dims = others; base = base.OfClass d }) same among)
      (λ implements.
      let seen : is_seen_as_object classes d.0 ≡ true =
      or_left (is_interface_at classes d.0) (d.0 == object_of classes) (interfaces_only classes sound c.0 d.0 implements) in
      below_objects-fits classes (record { dims = dims; base = base.OfClass c }) (record { dims = others; base = base.OfClass d }) (omega (arith, same)) seen)
      (or_cases (is_among d.0 (chain_of classes c.0)) (is_among d.0 (interfaces_of classes c.0)) is)
  level_sub dims others a b same is = level-fits classes (record { dims = dims; base = a }) (record { dims = others; base = b }) same is

  above_base : (b : Base) → is_base_above_arrays classes b ≡ true → is_object_base classes b ≡ true
  above_base (base.OfClass d) is = above d.0 is
  above_base b is = absurd (false≢true is)

  pub subtypes_fit : (a b : TypeRef) → is_sub classes a b ≡ true → fits_type classes a b ≡ true
  unfolding is_sub
  subtypes_fit a b is = by_dims (a.dims == b.dims) refl is where
    by_dims : (test : Bool) → (a.dims == b.dims) ≡ test
        → cond test (is_sub_base classes a.base b.base) (nat_lt b.dims a.dims && is_base_above_arrays classes b.base) ≡ true → fits_type classes a b ≡ true
    by_dims true same h = level_sub a.dims b.dims a.base b.base (eqb-true a.dims b.dims same) h
    by_dims false other h =
        let parts = and_parts (nat_lt b.dims a.dims) (is_base_above_arrays classes b.base) h in
        below_objects-fits classes a b (deeper b.dims a.dims a.base (ltb-true b.dims a.dims parts.0)) (above_base b.base parts.1)

-- ---- no class is below String

abbrev is_string : Option (List ℕ) → Bool
is_string None = false
is_string (Some name) = bytes_eq name string_name

string_table : map (λ k. is_string (class_at built_in k).superclass) (numbers_below built_in_classes) ≡ replicate built_in_classes false
unfolding built_in
string_table = refl

sealed_string : list_any (bytes_eq string_name) sealed_names ≡ true
sealed_string = refl

-- what isn't refused of a file's superclass
superclass_good : (given : List ClassDef) → AllByRecursion HasSpelling given → refused_parents given ≡ [] → (j : ℕ) (c : ClassDef) → slice_get given j ≡ Some c
    → (name : List ℕ) → class_name_at c.pool.entries c.super_class ≡ Some name → is_bad_superclass (classes_of given) c name ≡ false
unfolding refused_parents
superclass_good given spelled none j c at name named =
    let classes = classes_of given in
    let within = name_within c.pool.entries c.super_class (ap is_some named) in
    let all = none_used (bad_parent_at classes c) c c.super_class (none_of (bad_parents classes) given j c none at) within (superclass_used c) in
    let judged = not_refused (c.super_class == 0) (is_bad_superclass classes c (name_at c.pool.entries c.super_class)) _ _
    (if_true (c.super_class == c.super_class) (bad_superclass classes c) (same-nat_eq c.super_class)
    (nil_left (cond (c.super_class == c.super_class) (bad_superclass classes c) []) _ all)) in
    sym (ap (λ o. is_bad_superclass classes c (unwrap_or o [])) named) ∙ judged.1

no_string_parent : (given : List ClassDef) → AllByRecursion HasSpelling given → refused_parents given ≡ [] → (class : ℕ)
    → is_string (class_at (classes_of given) class).superclass ≡ false
no_string_parent given spelled none class =
    by_class given (λ c. is_string c.superclass ≡ false) class
    (λ within. table_false (λ k. is_string (class_at built_in k).superclass) string_table class within)
    (λ j n c at. by_name j c at (class_name_at c.pool.entries c.super_class) refl) refl where
      by_test : (j : ℕ) (c : ClassDef) → slice_get given j ≡ Some c → (name : List ℕ) → class_name_at c.pool.entries c.super_class ≡ Some name → (b : Bool)
          → bytes_eq name string_name ≡ b → bytes_eq name string_name ≡ false
      by_test j c at name named false same = same
      by_test j c at name named true same =
          let good = superclass_good given spelled none j c at name named in
          let sealed = (or_parts _ _ good).1 in
          absurd (false≢true (sym sealed ∙ ap (λ n. list_any (bytes_eq n) sealed_names) ((bytes_eq-Decides name string_name).0 same) ∙ sealed_string))

      by_name : (j : ℕ) (c : ClassDef) → slice_get given j ≡ Some c → (o : Option (List ℕ)) → class_name_at c.pool.entries c.super_class ≡ o → is_string o ≡ false
      by_name j c at None e = refl
      by_name j c at (Some name) e = by_test j c at name e (bytes_eq name string_name) refl

name_of_string : (given : List ClassDef) → (class_at (classes_of given) 1).name ≡ string_name
unfolding classes_of built_in
name_of_string given = refl

-- it is of no file, and so it completes no class
completes_nothing : (given : List ClassDef) (c : DeclaredClass) → completion_of (classes_of given) c ≡ Some 1 → ⊥
unfolding classes_of built_in
completes_nothing given c is = false≢true (sym (from_file (declared_from 0 given) c 1 is))

-- the superclass of no class is String
not_above : (given : List ClassDef) → AllByRecursion HasSpelling given → refused_parents given ≡ [] → (class : ℕ) → parent_of (classes_of given) class ≡ Some 1 → ⊥
not_above given spelled none class is = by_superclass (class_at classes class).superclass (no_string_parent given spelled none class) is where
  classes : List DeclaredClass
  classes = classes_of given

  completing : Option ℕ
  completing = completion_of (classes_of given) (class_at (classes_of given) class)

  by_completion : (name : List ℕ) → is_string (Some name) ≡ false → (o : Option ℕ) → completing ≡ o
      → option_or o (class_number (classes_of given) name) ≡ Some 1 → ⊥
  by_completion name other (Some f) e found = completes_nothing given (class_at (classes_of given) class) (e ∙ found)
  by_completion name other None e found =
      let there = position-Some (λ (c : DeclaredClass). bytes_eq c.name name) classes 1 no_class found in
      let same : (class_at classes 1).name ≡ name = (bytes_eq-Decides (class_at classes 1).name name).0 there.1 in
      false≢true (sym other ∙ (bytes_eq-Decides name string_name).1 (sym same ∙ name_of_string given))

  by_superclass : (o : Option (List ℕ)) → is_string o ≡ false
      → option_and_then (λ name. option_or completing (class_number (classes_of given) name)) o ≡ Some 1 → ⊥
  by_superclass None other found = none-some 1 found
  by_superclass (Some name) other found = by_completion name other completing refl found

alone_up : (given : List ClassDef) → AllByRecursion HasSpelling given → refused_parents given ≡ [] → (n : ℕ) (o : Option ℕ)
    → is_among 1 (upwards n (classes_of given) o) ≡ true → o ≡ Some 1
alone_up given spelled none zero o among = absurd (false≢true among)
alone_up given spelled none (suc n) None among = absurd (false≢true among)
alone_up given spelled none (suc n) (Some k) among =
    by_first (alone_up given spelled none n (parent_of (classes_of given) k))
    (or_cases (nat_eq 1 k) (is_among 1 (upwards n (classes_of given) (parent_of (classes_of given) k))) among) where
      by_first : (is_among 1 (upwards n (classes_of given) (parent_of (classes_of given) k)) ≡ true → parent_of (classes_of given) k ≡ Some 1)
          → (nat_eq 1 k ≡ true) ⊎ (is_among 1 (upwards n (classes_of given) (parent_of (classes_of given) k)) ≡ true) → Some k ≡ Some 1
      by_first later (inl same) = ap Some (sym (eqb-true 1 k same))
      by_first later (inr rest) = absurd (not_above given spelled none k (later rest))

string_alone : (given : List ClassDef) → AllByRecursion HasSpelling given → refused_parents given ≡ [] → (class : ℕ)
    → is_among 1 (chain_of (classes_of given) class) ≡ true → class ≡ 1
unfolding chain_of
string_alone given spelled none class among =
    same_Some class 1 (alone_up given spelled none (suc (length (classes_of given))) (Some class) among)

no_interface : (more : List DeclaredClass) → is_interface_at (built_in ++ more) 1 ≡ false
unfolding built_in
no_interface more = refl

-- what fits String is one
pub texts_are : (p : Program) (runnable : IsRunnable p) (given : List ClassDef) → p.outline.classes ≡ classes_of given → AllByRecursion HasSpelling given
    → refused_parents given ≡ [] → (t : TypeRef) → fits_type p.outline.classes t (text_type p.outline) ≡ true → is_string_type p.outline t ≡ true
texts_are p runnable given same spelled none t fits =
    let below = below_named p string_name 1 runnable refl (λ more. string_number more) no_interface t fits in
    let alone = string_alone given spelled none below.0 (sym (ap (λ classes. is_among 1 (chain_of classes below.0)) same) ∙ below.2) in
    let is : t ≡ text_type p.outline = below.1 ∙ ap type_of_class alone ∙ sym (named_class p string_name 1 runnable (λ more. string_number more)) in
    ap (is_string_type p.outline) is ∙ same_type-refl (text_type p.outline)

-- ---- hidden fields

hidden_table : map (λ k. (class_at built_in k).hidden && not ((k == 2) || ((k == 3) || (k == 7)))) (numbers_below built_in_classes) ≡ replicate built_in_classes false
unfolding built_in
hidden_table = refl

hidden_built_in : (given : List ClassDef) (class : ℕ) → (class_at (classes_of given) class).hidden ≡ true → ((class == 2) || ((class == 3) || (class == 7))) ≡ true
hidden_built_in given class is =
    let within = by_class given (λ c. c.hidden ≡ true → class < built_in_classes) class (λ here hidden. here) (λ j n c at hidden. absurd (false≢true hidden))
    (λ hidden. absurd (false≢true hidden)) is in
    one_of (class_at built_in class).hidden ((class == 2) || ((class == 3) || (class == 7)))
    (table_false (λ k. (class_at built_in k).hidden && not ((k == 2) || ((k == 3) || (k == 7)))) hidden_table class within)
    (sym (ap (λ (c : DeclaredClass). c.hidden) (built_in_at given class within)) ∙ is)

some_among : (test : ℕ → Bool) (xs : List ℕ) → list_any test xs ≡ true → (x : ℕ) × (is_among x xs ≡ true) × (test x ≡ true)
some_among test [] is = absurd (false≢true is)
some_among test (y ∷ xs) is =
    ⊎_elim
    (λ here. (y, among_head y xs, here))
    (λ later. let found = some_among test xs later in (found.0, or_right (nat_eq found.0 y) (is_among found.0 xs) found.1, found.2))
    (or_cases (test y) (list_any test xs) is)

-- a hidden field is the first place of its object, and one for texts
pub hidden_first : (p : Program) (runnable : IsRunnable p) (given : List ClassDef) → p.outline.classes ≡ classes_of given → AreTree p.outline.classes → (t : TypeRef)
    → has_hidden_field p.outline t ≡ true → kind_at p.outline.classes t 0 ≡ Some (text_kind p.outline)
hidden_first p runnable given same tree t has = by_class_of (class_of_type t) refl has where
  o : Outline
  o = p.outline

  hides : Option ℕ → Bool
  hides None = false
  hides (Some class) = list_any (λ above. (class_at p.outline.classes above).hidden) (chain_of p.outline.classes class)

  by_name : (class above : ℕ) → t ≡ type_of_class class → is_among above (chain_of p.outline.classes class) ≡ true → (name : List ℕ) → (number : ℕ)
      → (above == number) ≡ true → ((more : List DeclaredClass) → class_number (built_in ++ more) name ≡ Some number)
      → fits_type p.outline.classes t (built_in_type p.outline name) ≡ true
  by_name class above is among name number here found =
      ap (λ u. fits_type p.outline.classes u (built_in_type p.outline name)) is
      ∙ ap (fits_type p.outline.classes (type_of_class class)) (named_class p name number runnable found)
      ∙ level-fits p.outline.classes (type_of_class class) (type_of_class number) refl
      (ap (λ k. is_among k (chain_of p.outline.classes class)) (sym (eqb-true above number here)) ∙ among)

  by_above : (class above : ℕ) → t ≡ type_of_class class → is_among above (chain_of p.outline.classes class) ≡ true
      → ((above == 2) || ((above == 3) || (above == 7))) ≡ true → kind_at p.outline.classes t 0 ≡ Some (text_kind p.outline)
  by_above class above is among one =
      let texts = text_first p runnable tree in
      let builder = fits_type p.outline.classes t (built_in_type p.outline (codes "java/lang/StringBuilder")) in
      let buffer = fits_type p.outline.classes t (built_in_type p.outline (codes "java/lang/StringBuffer")) in
      ⊎_elim
      (λ two. texts.builders t (or_left builder buffer (by_name class above is among (codes "java/lang/StringBuilder") 2 two builder_there)))
      (λ rest. ⊎_elim
      (λ three. texts.builders t (or_right builder buffer (by_name class above is among (codes "java/lang/StringBuffer") 3 three buffer_there)))
      (λ seven. texts.throwables t (by_name class above is among (codes "java/lang/Throwable") 7 seven throwable_there))
      (or_cases (above == 3) (above == 7) rest))
      (or_cases (above == 2) ((above == 3) || (above == 7)) one)

  by_class_of : (found : Option ℕ) → class_of_type t ≡ found → hides found ≡ true → kind_at p.outline.classes t 0 ≡ Some (text_kind p.outline)
  by_class_of None e h = absurd (false≢true h)
  by_class_of (Some class) e h =
      let found = some_among (λ above. (class_at p.outline.classes above).hidden) (chain_of p.outline.classes class) h in
      by_above class found.0 (class_type t class e) found.1
      (hidden_built_in given found.0 (sym (ap (λ (all : List DeclaredClass). (class_at all found.0).hidden) same) ∙ found.2))

-- ---- all places of a program

pub places_fit : (given : List ClassDef) (main : List ℕ) → AllByRecursion HasSpelling given → refusals given main ≡ [] → IsRunnable (program_of given main)
    → PlacesFit (program_of given main)
unfolding program_of outline_of
places_fit given main spelled none runnable =
    let p = program_of given main in
    let no_bad = no_parent_refused given main none in
    let apart = no_built_in_refused given main none in
    let tree = tree_of given spelled apart no_bad in
    record {
      subtypes = subtypes_fit (classes_of given) (are_sound given spelled apart no_bad)
          (above_seen given apart tree (object_first p runnable));
      texts = texts_are p runnable given refl spelled no_bad;
      hidden = hidden_first p runnable given refl tree;
      main = main_slots given main none;
      constants = λ field text is.
          text_constants given spelled field text is ∙ sym (ap kind.Ref (string-is p.outline runnable.given runnable.classes));
    }
