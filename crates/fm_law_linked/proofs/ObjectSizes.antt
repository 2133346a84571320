-- Objects are small: a class file has fewer than 2^16 fields (JVMS 4.1), and a chain of superclasses has no more classes than the program.
use Rattle.std.proofs.Common.{◌≡◌, refl, ℕ, zero, suc, ◌+◌, ◌*◌, ◌^◌, ◌<◌, ◌≤◌, ◌&&◌, Bool, true, List, [], ◌∷◌, ◌++◌, length, map, get_or, nat_le, Option, Some, None, arith, length-append}
use Rattle.std.specs.List.{AllByRecursion, list_all}
use Rattle.std.proofs.lemmas.Bool.{and_parts, leb-true}
use Rattle.std.proofs.lemmas.List.{length-map}
use Rattle.std.proofs.lemmas.List.Elements.{All-from_get_or}
use Rattle.std.proofs.lemmas.List.Sums.{count_by-le-length, sum_by-le}
use Rattle.fm_base.proofs.ListFacts.{AllByRecursion-append, AllByRecursion-get_or}
use Rattle.fm_base.specs.declared.limits.TheConstants.{MAX_CLASS_FILES}
use Rattle.fm_code.specs.Spells.{HasSpelling}
use Rattle.fm_code.specs.declared.class_file.ClassDef.{ClassDef}
use Rattle.fm_law_linked.proofs.FewTypes.{types_few}
use Rattle.fm_link_supers.proofs.ParentRefusals.{length-declared}
use Rattle.fm_world.specs.BuiltIns.{built_in, built_in_classes}
use Rattle.fm_world.specs.Chains.{chain_of, class_at, parent_of, upwards}
use Rattle.fm_world.specs.Declarations.{declared_field, declared_from, no_class}
use Rattle.fm_world.specs.Members.{is_instance, own_size, size_of}
use Rattle.fm_world.specs.Programs.{classes_of, outline_of}
use Rattle.fm_world.specs.declared.declarations.DeclaredClass.{DeclaredClass}
use Rattle.fm_world.specs.declared.declarations.DeclaredField.{DeclaredField}

-- ---- the fields that a class gives

-- objects have few of the class, and so has the class itself
record IsSmall (c : DeclaredClass) : Type 0 where
  size : own_size c ≤ 65536
  fields : length c.fields ≤ 65536

abbrev is_small : DeclaredClass → Bool
is_small c = nat_le (own_size c) 65536 && nat_le (length c.fields) 65536

small_by : (c : DeclaredClass) → is_small c ≡ true → IsSmall c
small_by c is =
    let two = and_parts (nat_le (own_size c) 65536) (nat_le (length c.fields) 65536) is in
    record { size = leb-true (own_size c) 65536 two.0; fields = leb-true (length c.fields) 65536 two.1 }

built_in_small : list_all is_small built_in ≡ true
unfolding built_in
built_in_small = refl

each_small : (classes : List DeclaredClass) → list_all is_small classes ≡ true → AllByRecursion IsSmall classes
each_small [] all = tt
each_small (c ∷ classes) all =
    let two = and_parts (is_small c) (list_all is_small classes) all in (small_by c two.0, each_small classes two.1)

files_small : (number : ℕ) (given : List ClassDef) → AllByRecursion HasSpelling given → AllByRecursion IsSmall (declared_from number given)
files_small number [] spelled = tt
files_small number (c ∷ given) spelled =
    let fields = map (declared_field c.pool.entries) c.fields in
    let some = count_by-le-length (λ (f : DeclaredField). is_instance f.flags) fields in
    let long = length-map c.fields (declared_field c.pool.entries) in
    let count = spelled.0.1.fits.fields.count in
    (record { size = omega (arith, some, long, count); fields = omega (arith, long, count) }, files_small (number + 1) given spelled.1)

all_classes_small : (given : List ClassDef) → AllByRecursion HasSpelling given → (class : ℕ) → IsSmall (class_at (classes_of given) class)
unfolding classes_of
all_classes_small given spelled class =
    AllByRecursion-get_or IsSmall (built_in ++ declared_from 0 given) no_class
    (AllByRecursion-append IsSmall built_in (declared_from 0 given) (each_small built_in built_in_small) (files_small 0 given spelled)) (small_by no_class refl) class

-- no class has too many fields
pub fields_few : (given : List ClassDef) → AllByRecursion HasSpelling given → (class : ℕ) → length (class_at (classes_of given) class).fields ≤ 65536
fields_few given spelled class = (all_classes_small given spelled class).fields

-- ---- along a chain

pub upwards_length : (bound : ℕ) (classes : List DeclaredClass) (class : Option ℕ) → length (upwards bound classes class) ≤ bound
upwards_length zero classes class = omega arith
upwards_length (suc bound) classes None = omega arith
upwards_length (suc bound) classes (Some class) = let rest = upwards_length bound classes (parent_of classes class) in omega (arith, rest)

chain_small : (classes : List DeclaredClass) → ((class : ℕ) → IsSmall (class_at classes class)) → (class : ℕ)
    → size_of classes class ≤ suc (length classes) * 65536
unfolding size_of chain_of
chain_small classes each class =
    let chain = upwards (suc (length classes)) classes (Some class) in
    let few = upwards_length (suc (length classes)) classes (Some class) in
    let sum = sum_by-le (λ k. own_size (class_at classes k)) 65536 chain
    (All-from_get_or (λ k. own_size (class_at classes k) ≤ 65536) chain 0 (λ i within. (each (get_or chain i 0)).size)) in
    omega (arith, few, sum)

-- ---- within the bounds of the machine

pub classes_few : (given : List ClassDef) → length given ≤ MAX_CLASS_FILES → length (classes_of given) ≤ 4096 + built_in_classes
unfolding classes_of built_in
classes_few given few =
    let all = length-append built_in (declared_from 0 given) in
    let files = length-declared 0 given in
    let limit : MAX_CLASS_FILES ≡ 4096 = refl in
    omega (arith, few, all, files, limit)

-- the numbers of types fit the header of an object
pub few_types : (given : List ClassDef) (main : List ℕ) → AllByRecursion HasSpelling given → length given ≤ MAX_CLASS_FILES
    → length (outline_of given main).types ≤ 2 ^ 28
few_types given main spelled few =
    let types = types_few given main spelled in
    let classes = classes_few given few in
    omega (arith, types, classes)

-- and so do the sizes of objects
pub small_objects : (given : List ClassDef) (main : List ℕ) → AllByRecursion HasSpelling given → length given ≤ MAX_CLASS_FILES → (class : ℕ)
    → size_of (outline_of given main).classes class < 2 ^ 31
unfolding outline_of
small_objects given main spelled few class =
    let size = chain_small (classes_of given) (all_classes_small given spelled) class in
    let classes = classes_few given few in
    omega (arith, size, classes)
