-- Superclasses and interfaces that can't be, index by index.
use Rattle.std.proofs.Common.{◌≡◌, refl, ◌∙◌, ap, ℕ, ◌<◌, ◌||◌, Bool, true, false, cond, not, List, [], ◌∷◌, ◌++◌, length, map, nat_eq, get_or, Option, Some, None, unwrap_or, slice_get, zero-add}
use Rattle.std.specs.List.{filter_map, flat_map}
use Rattle.std.proofs.lemmas.List.{get_or-map}
use Rattle.std.proofs.lemmas.Option.{get_or_from_slice_get, slice_get_within}
use Rattle.fm_code.specs.ConstantPool.{class_name_at}
use Rattle.fm_code.specs.declared.class_file.ClassDef.{ClassDef}
use Rattle.fm_link_names.specs.declared.given.GivenFile.{GivenFile}
use Rattle.fm_link_names.specs.inner.Files.{class_text_in}
use Rattle.fm_link_names.specs.inner.Numbering.{IsNumberOf}
use Rattle.fm_link_supers.proofs.ParentRefusals.{is_wrong}
use Rattle.fm_link_supers.specs.inner.NamedParents.{class_at_text, class_listed_in}
use Rattle.fm_code.specs.declared.code_array.Item.{Item}
use Rattle.fm_world.specs.inner.Tables.{numbers_below}
use Rattle.std.proofs.lemmas.List.FromFn.{get_or-map-range_with_len}
use Rattle.fm_base.proofs.TestFacts.{or_left_fails, or_right_fails}
use Rattle.fm_world.specs.Lookups.{is_interface_at}
use Rattle.fm_world.specs.Causes.{goes_deep, is_array_name, is_bad_interface, is_there_and, bad_interface, bad_parent_at, bad_parents, bad_superclass}
use Rattle.fm_world.specs.Chains.{is_among}
use Rattle.fm_world.specs.Declarations.{name_at}
use Rattle.fm_world.specs.Descriptors.{class_number}
use Rattle.fm_code.specs.Operands.{pool_index}
use Rattle.fm_world.specs.Uses.{caught_by, class_items, is_used, pool_indices, used_indices, values_of}
use Rattle.fm_world.specs.declared.declarations.DeclaredClass.{DeclaredClass}
use Rattle.fm_link_refusals.proofs.FileNames.{class_numbered}
use Rattle.fm_link_refusals.proofs.UsedIndices.{flat_map-kept, indices_from}
use Rattle.fm_link_refusals.specs.inner.GivenClasses.{class_in, IsNumbered}

-- ---- classes by the numbers of their names

-- what the table has at the number of a text
pub at_number : {X : Type 0} (f : List ℕ → X) (texts : List (List ℕ)) (table : List X) (n : ℕ) (name : List ℕ) (d : X) → table ≡ map f texts
    → slice_get texts n ≡ Some name → get_or table n d ≡ f name
at_number f texts table n name d are there =
    ap (λ t. get_or t n d) are ∙ get_or-map f texts n [] d (slice_get_within texts n name there) ∙ ap f (get_or_from_slice_get texts n name [] there)

listed_at : (classes : List DeclaredClass) (texts : List (List ℕ)) (find : List ℕ → Option ℕ) (by_text : List (Option ℕ))
    → ((name : List ℕ) → find name ≡ class_number classes name)
    → by_text ≡ map (class_number classes) texts → (o : Option (List ℕ)) (k : Option ℕ) → IsNumberOf texts o k
    → class_at_text find by_text k ≡ class_number classes (unwrap_or o [])
listed_at classes texts find by_text same are None None is = same []
listed_at classes texts find by_text same are None (Some n) is = absurd is
listed_at classes texts find by_text same are (Some name) None is = absurd is
listed_at classes texts find by_text same are (Some name) (Some n) is = at_number (class_number classes) texts by_text n name None are is

pub class_at_index : (classes : List DeclaredClass) (texts : List (List ℕ)) (find : List ℕ → Option ℕ) (by_text : List (Option ℕ)) (file : GivenFile)
    → ((name : List ℕ) → find name ≡ class_number classes name) → by_text ≡ map (class_number classes) texts → IsNumbered texts file → (index : ℕ)
    → class_listed_in find by_text file index ≡ class_number classes (name_at (class_in file).pool.entries index)
class_at_index classes texts find by_text file same are is index =
    listed_at classes texts find by_text same are (class_name_at (class_in file).pool.entries index) (class_text_in file index)
    (class_numbered texts file is index)

-- ---- the five faults of a superclass

pub first_fault : (a b c d e : Bool) → a ≡ true → true ≡ (a || b || c || d || e)
first_fault a b c d e h = rw h refl

pub second_fault : (a b c d e : Bool) → a ≡ false → b ≡ true → true ≡ (a || b || c || d || e)
second_fault a b c d e f h = rw (f, h) refl

pub third_fault : (a b c d e : Bool) → a ≡ false → b ≡ false → c ≡ true → true ≡ (a || b || c || d || e)
third_fault a b c d e f g h = rw (f, g, h) refl

pub fourth_fault : (a b c d e : Bool) → a ≡ false → b ≡ false → c ≡ false → d ≡ true → true ≡ (a || b || c || d || e)
fourth_fault a b c d e f g h i = rw (f, g, h, i) refl

pub last_fault : (a b c d e : Bool) → a ≡ false → b ≡ false → c ≡ false → d ≡ false → e ≡ (a || b || c || d || e)
last_fault a b c d e f g h i = rw (f, g, h, i) refl

-- ---- the two faults of an interface

pub interface_judged : (classes : List DeclaredClass) (name : List ℕ) (class : ℕ) → is_array_name name ≡ false → class_number classes name
    ≡ Some class
    → is_bad_interface classes name ≡ (not (is_interface_at classes class) || goes_deep (length classes) classes class)
interface_judged classes name class is_none number =
    ap (λ b. b || is_there_and (is_wrong classes) (class_number classes name)) is_none ∙ ap (is_there_and (is_wrong classes)) number

pub interface_unnamed : (classes : List DeclaredClass) (name : List ℕ) → is_array_name name ≡ false → class_number classes name ≡ None
    → is_bad_interface classes name ≡ false
interface_unnamed classes name is_none number =
    ap (λ b. b || is_there_and (is_wrong classes) (class_number classes name)) is_none ∙ ap (is_there_and (is_wrong classes)) number

-- the mark of a class in the table of cycles
pub cycle_at : (classes : List DeclaredClass) (marks : List Bool) → marks ≡ map (goes_deep (length classes) classes) (numbers_below (length classes))
    → (class : ℕ)
    → class < length classes → get_or marks class false ≡ goes_deep (length classes) classes class
cycle_at classes marks are class within =
    ap (λ ms. get_or ms class false) are ∙ get_or-map-range_with_len (goes_deep (length classes) classes) 0 (length classes) class class false within
    (zero-add class)

-- ---- indices that aren't used name no superclass and no interface

among_append : (x : ℕ) (xs ys : List ℕ) → is_among x (xs ++ ys) ≡ false → is_among x xs ≡ false
among_append x [] ys e = refl
among_append x (y ∷ xs) ys e =
    ap (λ b. b || is_among x xs) (or_left_fails (nat_eq x y) (is_among x (xs ++ ys)) e)
    ∙ among_append x xs ys (or_right_fails (nat_eq x y) (is_among x (xs ++ ys)) e)

among_append_right : (x : ℕ) (xs ys : List ℕ) → is_among x (xs ++ ys) ≡ false → is_among x ys ≡ false
among_append_right x [] ys e = e
among_append_right x (y ∷ xs) ys e = among_append_right x xs ys (or_right_fails (nat_eq x y) (is_among x (xs ++ ys)) e)

-- the index is neither the superclass's nor an interface's, and no instruction names it
pub record IsUnused (c : ClassDef) (index : ℕ) : Type 0 where
  pub superclass : nat_eq index c.super_class ≡ false
  pub interfaces : is_among index c.interfaces ≡ false
  pub operands : is_among index (filter_map (λ (item : Item). pool_index item.insn) (class_items c)) ≡ false

pub unused : (c : ClassDef) (index : ℕ) → is_used c index ≡ false → IsUnused c index
unfolding used_indices
unused c index e =
    let values = flat_map values_of c.fields in
    let operands = filter_map (λ (item : Item). pool_index item.insn) (class_items c) in
    let caught = flat_map caught_by c.methods in
    let rest = is_among index (((c.interfaces ++ values) ++ operands) ++ caught) in
    let after = or_right_fails (nat_eq index c.this_class) (nat_eq index c.super_class || rest) e in
    let three = among_append index ((c.interfaces ++ values) ++ operands) caught (or_right_fails (nat_eq index c.super_class) rest after) in
    record {
      superclass = or_left_fails (nat_eq index c.super_class) rest after;
      interfaces = among_append index c.interfaces values (among_append index (c.interfaces ++ values) operands three);
      operands = among_append_right index (c.interfaces ++ values) operands three;
    }

bad_parent-unused : (classes : List DeclaredClass) (c : ClassDef) (index : ℕ) → is_used c index ≡ false → bad_parent_at classes c index ≡ []
bad_parent-unused classes c index e =
    let u = unused c index e in
    ap (λ b. cond b (bad_superclass classes c) [] ++ (cond (is_among index c.interfaces) (bad_interface classes c index) [])) u.superclass
    ∙ ap (λ b. cond b (bad_interface classes c index) []) u.interfaces

pub parents_all : (classes : List DeclaredClass) (c : ClassDef) → bad_parents classes c ≡ flat_map (bad_parent_at classes c) (indices_from 0 c)
parents_all classes c = flat_map-kept (bad_parent_at classes c) (is_used c) (pool_indices c) (bad_parent-unused classes c)
