-- Abstract methods that are left over, one after the other.
use Rattle.std.proofs.Common.{◌≡◌, refl, sym, ◌∙◌, ap, subst, ℕ, suc, ◌+◌, ◌-◌, ◌<◌, ◌≤◌, ◌||◌, Bool, true, false, cond, List, [], ◌∷◌, ◌++◌, length, drop, map, get_or, Option, Some, None, unwrap_or, append_assoc, length-append, arith}
use Rattle.std.specs.List.{filter, flat_map, range_with_len}
use Rattle.std.proofs.lemmas.Grind.{flat_map-append}
use Rattle.std.proofs.lemmas.List.{get_or_default, length-map}
use Rattle.fm_base.proofs.ListFacts.{drop_here}
use Rattle.fm_base.specs.declared.characters.TheConstants.{DOT}
use Rattle.fm_world.proofs.Displays.{class_number-within}
use Rattle.fm_world.specs.BuiltIns.{built_in}
use Rattle.fm_world.specs.Declarations.{declared_from}
use Rattle.fm_world.specs.Programs.{classes_of}
use Rattle.fm_code.specs.AccessFlags.{is_abstract, is_interface}
use Rattle.fm_code.specs.declared.class_file.ClassDef.{ClassDef}
use Rattle.std.proofs.Math.ListN.{drop_of_length-le}
use Rattle.fm_link_names.specs.declared.given.GivenFile.{GivenFile}
use Rattle.fm_world.specs.Causes.{NotImplemented, abstract_methods, declared_name, each_from, is_left_over, left_over, method_text, refused, Refusal}
use Rattle.fm_world.specs.Chains.{chain_of, class_at, interfaces_of, self_of}
use Rattle.fm_world.specs.Descriptors.{class_number}
use Rattle.fm_world.specs.declared.declarations.DeclaredClass.{DeclaredClass}
use Rattle.fm_link_supers.proofs.ParentRefusals.{length-declared}
use Rattle.fm_link_refusals.proofs.FirstRefusals.{first-append}
use Rattle.fm_link_refusals.specs.Refused.{IsFirst}
use Rattle.fm_link_refusals.specs.inner.Abstracts.{left_over_by, left_over_of}
use Rattle.fm_link_refusals.specs.inner.GivenClasses.{class_in, given_in}

-- ---- lists of lists

pub flat_map-twice : {X Y Z : Type 0} (g : Y → List Z) (f : X → List Y) (xs : List X) → flat_map g (flat_map f xs)
    ≡ flat_map (λ x. flat_map g (f x)) xs
flat_map-twice g f [] = refl
flat_map-twice g f (x ∷ xs) = flat_map-append g (f x) (flat_map f xs) ∙ ap (λ r. flat_map g (f x) ++ r) (flat_map-twice g f xs)

map-filter : {X Y : Type 0} (r : X → Y) (p : X → Bool) (xs : List X) → map r (filter p xs) ≡ flat_map (λ x. cond (p x) (r x ∷ []) []) xs
map-filter r p [] = refl
map-filter {X} {Y} r p (x ∷ xs) = go (p x) ∙ ap (λ rs. cond (p x) (r x ∷ []) [] ++ rs) (map-filter r p xs) where
  go : (b : Bool) → map r (cond b (x ∷ filter p xs) (filter p xs)) ≡ cond b (r x ∷ []) [] ++ map r (filter p xs)
  go true = refl
  go false = refl

-- ---- all of a class

pub none_abstract : (classes : List DeclaredClass) (c : ClassDef) (class : ℕ) → is_abstract c.flags ≡ true → left_over classes c class ≡ []
none_abstract classes c class e =
    let all = map (λ method. refused NotImplemented c (method_text (declared_name classes method)))
    (filter (is_left_over classes class) (flat_map (abstract_methods classes) (chain_of classes class ++ interfaces_of classes class))) in
    ap (λ b. cond (b || is_interface c.flags) [] all) e

pub none_interface : (classes : List DeclaredClass) (c : ClassDef) (class : ℕ) → is_abstract c.flags ≡ false → is_interface c.flags ≡ true
    → left_over classes c class ≡ []
none_interface classes c class e f =
    let all = map (λ method. refused NotImplemented c (method_text (declared_name classes method)))
    (filter (is_left_over classes class) (flat_map (abstract_methods classes) (chain_of classes class ++ interfaces_of classes class))) in
    ap (λ b. cond (b || is_interface c.flags) [] all) e ∙ ap (λ b. cond b [] all) f

pub left_over_parts : (classes : List DeclaredClass) (c : ClassDef) (class : ℕ) → is_abstract c.flags ≡ false → is_interface c.flags ≡ false
    → left_over classes c class ≡ flat_map (left_over_of classes c class) (chain_of classes class)
    ++ flat_map (left_over_of classes c class) (interfaces_of classes class)
left_over_parts classes c class e f =
    let declaring = chain_of classes class ++ interfaces_of classes class in
    let made = λ (method : ℕ). refused NotImplemented c (method_text (declared_name classes method)) in
    let all = map made (filter (is_left_over classes class) (flat_map (abstract_methods classes) declaring)) in
    ap (λ b. cond (b || is_interface c.flags) [] all) e
    ∙ ap (λ b. cond b [] all) f
    ∙ map-filter made (is_left_over classes class) (flat_map (abstract_methods classes) declaring)
    ∙ flat_map-twice (left_over_by classes c class) (abstract_methods classes) declaring
    ∙ flat_map-append (left_over_of classes c class) (chain_of classes class) (interfaces_of classes class)

-- ---- a loop over numbers from one up to another

abbrev pub numbers_from : ℕ → ℕ → ℕ → List ℕ
numbers_from start end k = range_with_len k (end - k)

pub number_here : (end k : ℕ) → k < end → range_with_len k (end - k) ≡ k ∷ range_with_len (k + 1) (end - (k + 1))
number_here end k below = let e : end - k ≡ suc (end - (k + 1)) = omega arith in ap (range_with_len k) e

pub number_none : (f : ℕ → List Refusal) (end k : ℕ) (all : List Refusal) → k < end → f k ≡ [] → all ≡ flat_map f (range_with_len k (end - k))
    → all ≡ flat_map f (range_with_len (k + 1) (end - (k + 1)))
number_none f end k all below none left =
    left ∙ ap (flat_map f) (number_here end k below) ∙ ap (λ mine. mine ++ flat_map f (range_with_len (k + 1) (end - (k + 1)))) none

pub number_first : (f : ℕ → List Refusal) (end k : ℕ) (all : List Refusal) (o : Option Refusal) → k < end → IsFirst (f k) o → all
    ≡ flat_map f (range_with_len k (end - k))
    → IsFirst all o
number_first f end k all o below first left =
    subst (λ rs. IsFirst rs o) (sym (left ∙ ap (flat_map f) (number_here end k below)))
    (first-append (f k) (flat_map f (range_with_len (k + 1) (end - (k + 1)))) o first)

pub number_end : (f : ℕ → List Refusal) (end k : ℕ) (all : List Refusal) → end ≤ k → all ≡ flat_map f (range_with_len k (end - k)) → all ≡ []
number_end f end k all past left = let e : end - k ≡ 0 = omega arith in left ∙ ap (λ n. flat_map f (range_with_len k n)) e

-- ---- a loop over files with the numbers of their classes

abbrev pub each_left : ℕ → (ClassDef → ℕ → List Refusal) → List GivenFile → ℕ → List Refusal
each_left count f files i = each_from (count + i) f (given_in (drop i files))

each_here : (count : ℕ) (f : ClassDef → ℕ → List Refusal) (files : List GivenFile) (i : ℕ) (file : GivenFile) → i < length files → file
    ≡ get_or files i file
    → each_left count f files i ≡ f (class_in file) (count + i) ++ each_left count f files (i + 1)
each_here count f files i file within is =
    let e : count + i + 1 ≡ count + (i + 1) = omega arith in
    ap (λ fs. each_from (count + i) f (given_in fs)) (drop_here files i file within is)
    ∙ ap (λ n. f (class_in file) (count + i) ++ each_from n f (given_in (drop (i + 1) files))) e

pub each_none : (count : ℕ) (f : ClassDef → ℕ → List Refusal) (files : List GivenFile) (i : ℕ) (file : GivenFile) (all : List Refusal)
    → i < length files → file ≡ get_or files i file
    → f (class_in file) (count + i) ≡ [] → all ≡ each_left count f files i → all ≡ each_left count f files (i + 1)
each_none count f files i file all within is none left =
    left ∙ each_here count f files i file within is ∙ ap (λ mine. mine ++ each_left count f files (i + 1)) none

pub each_first : (count : ℕ) (f : ClassDef → ℕ → List Refusal) (files : List GivenFile) (i : ℕ) (file : GivenFile) (all : List Refusal)
    (o : Option Refusal) → i < length files
    → file ≡ get_or files i file → IsFirst (f (class_in file) (count + i)) o → all ≡ each_left count f files i → IsFirst all o
each_first count f files i file all o within is first left =
    subst (λ rs. IsFirst rs o) (sym (left ∙ each_here count f files i file within is))
    (first-append (f (class_in file) (count + i)) (each_left count f files (i + 1)) o first)

pub each_end : (count : ℕ) (f : ClassDef → ℕ → List Refusal) (files : List GivenFile) (i : ℕ) (all : List Refusal) → length files ≤ i → all
    ≡ each_left count f files i → all ≡ []
each_end count f files i all past left = left ∙ ap (λ fs. each_from (count + i) f (given_in fs)) (drop_of_length-le files past)

-- an element of numbers, whatever the value past the end
pub get_or_self : (xs : List ℕ) (i d : ℕ) → i < length xs → get_or xs i d ≡ get_or xs i (get_or xs i d)
get_or_self xs i d within = get_or_default xs i d (get_or xs i d) within

-- ---- the number of a file's class

pub class_within : (files : List GivenFile) (i class : ℕ) → class ≡ length built_in + i → i < length files
    → class < length (classes_of (given_in files))
unfolding classes_of
class_within files i class number within =
    let all = length-append built_in (declared_from 0 (given_in files)) in
    let declared = length-declared 0 (given_in files) in
    let long = length-map files class_in in
    omega (arith, all, declared, long, number, within)

-- the class whose objects the methods of a class have is one of the classes
pub self_within : (given : List ClassDef) (class : ℕ) → class < length (classes_of given) → self_of (classes_of given) class < length (classes_of given)
unfolding classes_of
self_within given class within = by_number (class_number built_in (class_at (classes_of given) class).name) refl where
  by_number : (o : Option ℕ) → class_number built_in (class_at (classes_of given) class).name ≡ o → unwrap_or o class < length (classes_of given)
  by_number None is = within
  by_number (Some number) is =
      let low = class_number-within built_in (class_at (classes_of given) class).name number is in
      let all = length-append built_in (declared_from 0 given) in
      omega (arith, low, all)

-- ---- names of declared methods

pub declared_spelled : (class name descriptor c n d begun dotted named whole : List ℕ) → class ≡ c → name ≡ n → descriptor ≡ d → begun ≡ class
    → dotted ≡ begun ++ DOT ∷ []
    → named ≡ dotted ++ name → whole ≡ named ++ descriptor → whole ≡ c ++ DOT ∷ (n ++ d)
declared_spelled class name descriptor c n d begun dotted named whole class_is name_is descriptor_is begun_is dotted_is named_is whole_is =
    whole_is
    ∙ ap (λ x. x ++ descriptor)
    (named_is ∙ ap (λ x. x ++ name) (dotted_is ∙ ap (λ x. x ++ DOT ∷ []) (begun_is ∙ class_is)) ∙ append_assoc c (DOT ∷ []) name
    ∙ ap (λ x. c ++ DOT ∷ x) name_is)
    ∙ append_assoc c (DOT ∷ n) descriptor
    ∙ ap (λ x. c ++ DOT ∷ (n ++ x)) descriptor_is
