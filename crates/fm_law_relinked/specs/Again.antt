-- The program of classes with what is inserted into their methods, whatever that is: it has the outline of the old one, and links where that does.
use Rattle.std.specs.Prelude.{◌≡◌, ℕ, zero, suc, ◌+◌, ◌⊎◌, List, [], ◌∷◌, length, Option, Some, slice_get}
use Rattle.std.specs.List.{AllByRecursion}
use Rattle.fm_chain.specs.Chaining.{chained_classes, class_calls, class_has_chain}
use Rattle.fm_chain.specs.SafeChains.{SafeChainsOf}
use Rattle.fm_code.specs.FreeEntries.{free_class}
use Rattle.fm_code.specs.Spells.{HasSpelling}
use Rattle.fm_code.specs.declared.class_file.ClassDef.{ClassDef}
use Rattle.fm_law_spelled.specs.Calling.{FreeMeMethod, entry_of, IsCall, MayCall, member_name_of}
use Rattle.fm_place.specs.Rewriting.{first_given, Plans}
use Rattle.fm_place.specs.Safe.{SafeOf}
use Rattle.fm_world.specs.BuiltIns.{built_in}
use Rattle.fm_world.specs.Descriptors.{class_number}
use Rattle.fm_world.specs.Linking.{refusals}
use Rattle.fm_world.specs.Lookups.{resolved_method}
use Rattle.fm_world.specs.Numbers.{type_of_class}
use Rattle.fm_world.specs.Programs.{method_use, Outline, outline_of, Program, program_of, use_of}
use Rattle.fm_world.specs.declared.uses.Use.{Use}
use Rattle.fm_world.specs.declared.uses.Use.TheVariants as resolved

-- all but code and uses is the same: classes and their members, types, texts, and main
abbrev pub OutlinesStay : Type 0
OutlinesStay =
    (given : List ClassDef) (main : List ℕ) (plans : Plans) → AllByRecursion HasSpelling given
    → outline_of (chained_classes plans given) main ≡ outline_of given main

-- the number of the first method of the file at a place, where the first one of the first file has this number
abbrev pub first_at : (first : ℕ) → List ClassDef → (place : ℕ) → ℕ
first_at first [] place = first
first_at first (c ∷ given) zero = first
first_at first (c ∷ given) (suc place) = first_at (first + length c.methods) given place

-- an index of the pool of a file refers to the same, unless the changed class calls a method of FreeMe by it
abbrev pub UsesStay : Type 0
UsesStay =
    (given : List ClassDef) (main : List ℕ) (plans : Plans) → AllByRecursion HasSpelling given → (place : ℕ) (c : ClassDef) → slice_get given place ≡ Some c
    → let first = first_at first_given given place in
    (index : ℕ) → ¬ IsCall (class_has_chain plans first c) (class_calls plans first c) index
    → use_of (program_of (chained_classes plans given) main) (length built_in + place) index ≡ use_of (program_of given main) (length built_in + place) index

-- a use is that of this method of FreeMe, with the type of its class
pub record IsUseOf (o : Outline) (m : FreeMeMethod) (u : Use) : Type 0 where
  pub class : ℕ
  pub type : ℕ
  pub method : ℕ
  pub class_is : class_number o.classes free_class ≡ Some class
  pub type_is : slice_get o.types type ≡ Some (type_of_class class)
  pub method_is : resolved_method o.classes (member_name_of m) ≡ Some method
  pub use_is : u ≡ method_use type method

-- and such an index refers to the method that is called, or to nothing where the written class doesn't use it
abbrev pub CallsStand : Type 0
CallsStand =
    (given : List ClassDef) (main : List ℕ) (plans : Plans) → AllByRecursion HasSpelling given → (place : ℕ) (c : ClassDef) → slice_get given place ≡ Some c
    → let first = first_at first_given given place in
    (m : FreeMeMethod) → MayCall (class_has_chain plans first c) m
    → let found = use_of (program_of (chained_classes plans given) main) (length built_in + place) (entry_of (class_calls plans first c) m) in
    (found ≡ resolved.Unused) ⊎ IsUseOf (outline_of given main) m found

-- the same is refused, for the same causes: where nothing is, the classes link (JVMS 5.4)
abbrev pub RefusalsStay : Type 0
RefusalsStay =
    (given : List ClassDef) (main : List ℕ) (plans : Plans) → AllByRecursion HasSpelling given
    → refusals (chained_classes plans given) main ≡ refusals given main

-- so classes with safe insertions link again, to a program of the same outline
pub record LinkAgain (given : List ClassDef) (main : List ℕ) (written : List ClassDef) : Type 0 where
  pub links : refusals written main ≡ []
  pub outline : outline_of written main ≡ outline_of given main

-- where the given ones link, whatever the program is in which the insertions are safe
abbrev pub SafeClassesLink : Type 0
SafeClassesLink =
    (given : List ClassDef) (main : List ℕ) (p : Program) (written : List ClassDef) (marks : List (List (Option ℕ))) → AllByRecursion HasSpelling given
    → refusals given main ≡ [] → SafeOf p given written marks → LinkAgain given main written

-- and so do classes where holders of sites in loops hold chains
abbrev pub ChainedClassesLink : Type 0
ChainedClassesLink =
    (given : List ClassDef) (main : List ℕ) (p : Program) (written : List ClassDef) (marks : List (List (Option ℕ))) → AllByRecursion HasSpelling given
    → refusals given main ≡ [] → SafeChainsOf p given written marks → LinkAgain given main written
