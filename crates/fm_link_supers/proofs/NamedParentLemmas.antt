-- The tables of superclasses and of listed interfaces are made from the files as the definitions say.
use Rattle.std.proofs.Common.{◌≡◌, refl, sym, ◌∙◌, ap, ℕ, suc, ◌+◌, ◌&&◌, not, Bool, true, false, cond, List, [], ◌∷◌, ◌++◌, length, map, slice_get, Option, Some, None, is_none, is_some, option_and_then, unwrap_or, arith}
use Rattle.std.specs.List.{cons_option, filter_map, list_all, position_from}
use Rattle.std.specs.Option.{option_or}
use Rattle.std.specs.Str.{bytes_eq}
use Rattle.std.proofs.lemmas.Bool.{and_parts, false≢true}
use Rattle.std.proofs.lemmas.Iterator.Adapters.{position_from-zero}
use Rattle.std.proofs.lemmas.List.{get_or-map, map-append}
use Rattle.std.proofs.lemmas.Option.{get_or_from_slice_get, slice_get_within}
use Rattle.fm_base.proofs.ListFacts.{filter_map_agree, map_same}
use Rattle.fm_base.proofs.TestFacts.{and_false, and_true}
use Rattle.fm_code.specs.ConstantPool.{class_name_at}
use Rattle.fm_code.specs.declared.class_file.ClassDef.{ClassDef}
use Rattle.fm_link_names.proofs.NameLemmas.{class_text_is}
use Rattle.fm_link_names.proofs.PlaceLemmas.{position_from-map}
use Rattle.fm_link_names.specs.declared.class_numbers.ClassNumbers.{ClassNumbers}
use Rattle.fm_link_names.specs.declared.given.GivenFile.{GivenFile}
use Rattle.fm_link_names.specs.inner.ClassNumbering.{number_in}
use Rattle.fm_link_names.specs.inner.Files.{AreFiles, IsFile, class_text_in}
use Rattle.fm_link_names.specs.inner.Numbering.{IsNumberOf}
use Rattle.fm_link_supers.proofs.ParentTables.{map_classes}
use Rattle.fm_link_supers.specs.inner.NamedParents.{at_text, class_at_text, class_listed_in, class_named_in, completion_among, interfaces_by, is_named, listed_by, listed_in, NamesClasses, number_among, parents_by, superclass_by}
use Rattle.fm_world.specs.BuiltIns.{built_in}
use Rattle.fm_world.specs.Causes.{own_name}
use Rattle.fm_world.specs.Chains.{completion_of, given_number, listed_interfaces, parent_of, superclass_in}
use Rattle.fm_world.specs.Declarations.{declared_from, declared_of, name_at}
use Rattle.fm_world.specs.Descriptors.{class_number}
use Rattle.fm_world.specs.Programs.{classes_of}
use Rattle.fm_world.specs.declared.declarations.DeclaredClass.{DeclaredClass}
use Rattle.fm_world.specs.inner.Tables.{numbers_below}

-- ---- lists

pub filter_map_same : {X Y Z : Type 0} (f : X → Option Z) (g : Y → Option Z) (h : X → Y) → ((x : X) → f x ≡ g (h x)) → (xs : List X)
    → filter_map f xs ≡ filter_map g (map h xs)
filter_map_same f g h same [] = refl
filter_map_same f g h same (x ∷ xs) =
    ap (λ o. cons_option o (filter_map f xs)) (same x) ∙ ap (cons_option (g (h x))) (filter_map_same f g h same xs)

and_then_same : {Y : Type 0} (f g : List ℕ → Option Y) → ((name : List ℕ) → f name ≡ g name) → (o : Option (List ℕ)) → option_and_then f o ≡ option_and_then g o
and_then_same f g same None = refl
and_then_same f g same (Some name) = same name

-- ---- names by the numbers of their texts

at_number : (classes : List DeclaredClass) (texts : List (List ℕ)) (n : ℕ) (name : List ℕ) → slice_get texts n ≡ Some name
    → at_text (map (class_number classes) texts) n ≡ class_number classes name
at_number classes texts n name at =
    get_or-map (class_number classes) texts n [] None (slice_get_within texts n name at) ∙ ap (class_number classes) (get_or_from_slice_get texts n name [] at)

named_at : (classes : List DeclaredClass) (texts : List (List ℕ)) (name : Option (List ℕ)) (number : Option ℕ) → IsNumberOf texts name number
    → option_and_then (at_text (map (class_number classes) texts)) number ≡ option_and_then (class_number classes) name
named_at classes texts None None is = refl
named_at classes texts None (Some n) is = absurd is
named_at classes texts (Some name) None is = absurd is
named_at classes texts (Some name) (Some n) is = at_number classes texts n name is

listed_at : (classes : List DeclaredClass) (texts : List (List ℕ)) (find : List ℕ → Option ℕ) → ((name : List ℕ) → find name ≡ class_number classes name)
    → (name : Option (List ℕ)) (number : Option ℕ) → IsNumberOf texts name number
    → class_at_text find (map (class_number classes) texts) number ≡ class_number classes (unwrap_or name [])
listed_at classes texts find same None None is = same []
listed_at classes texts find same None (Some n) is = absurd is
listed_at classes texts find same (Some name) None is = absurd is
listed_at classes texts find same (Some name) (Some n) is = at_number classes texts n name is

-- the class that an index names, and the one of the name there
pub class_named_is : (classes : List DeclaredClass) (texts : List (List ℕ)) (k : ℕ) (c : ClassDef) (file : GivenFile) → IsFile texts k c file → (index : ℕ)
    → class_named_in (map (class_number classes) texts) file index ≡ option_and_then (class_number classes) (class_name_at c.pool.entries index)
class_named_is classes texts k c file is index =
    named_at classes texts (class_name_at c.pool.entries index) (class_text_in file index) (class_text_is texts k c file is index)

pub class_listed_is : (classes : List DeclaredClass) (texts : List (List ℕ)) (find : List ℕ → Option ℕ) → ((name : List ℕ) → find name ≡ class_number classes name)
    → (k : ℕ) (c : ClassDef) (file : GivenFile) → IsFile texts k c file → (index : ℕ)
    → class_listed_in find (map (class_number classes) texts) file index ≡ class_number classes (name_at c.pool.entries index)
class_listed_is classes texts find same k c file is index =
    listed_at classes texts find same (class_name_at c.pool.entries index) (class_text_in file index) (class_text_is texts k c file is index)

-- ---- files

-- what is made of each file is what is made of its class
files_map : {X : Type 0} (texts : List (List ℕ)) (f : GivenFile → X) (g : DeclaredClass → X)
    → ((k n : ℕ) (c : ClassDef) (file : GivenFile) → IsFile texts k c file → f file ≡ g (declared_of n c))
    → (n : ℕ) (given : List ClassDef) (files : List GivenFile) → length files ≡ length given
    → ((k : ℕ) (c : ClassDef) (file : GivenFile) → slice_get given k ≡ Some c → slice_get files k ≡ Some file → (number : ℕ) × IsFile texts number c file)
    → map f files ≡ map g (declared_from n given)
files_map texts f g same n [] [] count each = refl
files_map texts f g same n [] (file ∷ files) count each = absurd (omega (arith, count))
files_map texts f g same n (c ∷ given) [] count each = absurd (omega (arith, count))
files_map texts f g same n (c ∷ given) (file ∷ files) count each =
    let head = each 0 c file refl refl in
    ap (λ y. y ∷ map f files) (same head.0 n c file head.1)
    ∙ ap (λ ys. g (declared_of n c) ∷ ys)
    (files_map texts f g same (n + 1) given files (omega (arith, count)) (λ k d other a b. each (suc k) d other a b))

-- ---- the classes of files by name

-- a class of a file that has the name
abbrev pub is_given : List ℕ → DeclaredClass → Bool
is_given name c = bytes_eq c.name name && is_some c.file

next_given : (name : List ℕ) (i : ℕ) (c : DeclaredClass) (rest : Option ℕ) (b : Bool) → is_some c.file ≡ b → not b ≡ true
    → cond (bytes_eq c.name name && is_some c.file) (Some i) rest ≡ rest
next_given name i c rest true e h = absurd (false≢true h)
next_given name i c rest false e h =
    ap (λ b. cond (bytes_eq c.name name && b) (Some i) rest) e ∙ ap (λ b. cond b (Some i) rest) (and_false (bytes_eq c.name name))

-- what is of no file is passed over
pub given_after : (name : List ℕ) (i n : ℕ) (xs ys : List DeclaredClass) → n ≡ i + length xs
    → list_all (λ (c : DeclaredClass). not (is_some c.file)) xs ≡ true → position_from (is_given name) i (xs ++ ys) ≡ position_from (is_given name) n ys
given_after name i n [] ys many none = ap (λ k. position_from (is_given name) k ys) (let e : i ≡ n = omega (arith, many) in e)
given_after name i n (c ∷ xs) ys many none =
    let both = and_parts (not (is_some c.file)) (list_all (λ (d : DeclaredClass). not (is_some d.file)) xs) none in
    next_given name i c (position_from (is_given name) (i + 1) (xs ++ ys)) (is_some c.file) refl both.0
    ∙ given_after name (i + 1) n xs ys (omega (arith, many)) both.1

pub built_in_have_none : list_all (λ (c : DeclaredClass). not (is_some c.file)) built_in ≡ true
unfolding built_in
built_in_have_none = refl

-- the classes of files are found by their names
pub declared_given : (name : List ℕ) (i n : ℕ) (given : List ClassDef)
    → position_from (is_given name) i (declared_from n given) ≡ position_from (λ (c : DeclaredClass). bytes_eq c.name name) i (declared_from n given)
declared_given name i n [] = refl
declared_given name i n (c ∷ given) =
    ap (λ b. cond b (Some i) (position_from (is_given name) (i + 1) (declared_from (n + 1) given))) (and_true (bytes_eq (own_name c) name))
    ∙ ap (λ o. cond (bytes_eq (own_name c) name) (Some i) o) (declared_given name (i + 1) (n + 1) given)

-- the given class of a name is the first file's that has it
pub number_given : (given : List ClassDef) (name : List ℕ)
    → given_number (classes_of given) name ≡ position_from (λ (c : DeclaredClass). bytes_eq c.name name) (length built_in) (declared_from 0 given)
unfolding classes_of
number_given given name =
    position_from-zero (is_given name) (built_in ++ declared_from 0 given)
    ∙ given_after name 0 (length built_in) built_in (declared_from 0 given) (omega arith) built_in_have_none
    ∙ declared_given name (length built_in) 0 given

number_named : (texts : List (List ℕ)) (given : List ClassDef) (files : List GivenFile) → AreFiles texts given files → (name : List ℕ)
    → number_among name files ≡ given_number (classes_of given) name
number_named texts given files are name =
    let first = length built_in in
    let test : List ℕ → Bool = λ n. bytes_eq n name in
    sym (position_from-map (λ (file : GivenFile). own_name file.class.now) test (is_named name) first files (λ file. refl))
    ∙ ap (position_from test first)
    (files_map texts (λ file. own_name file.class.now) (λ (c : DeclaredClass). c.name) (λ k n c file is. ap own_name is.class_is) 0 given files are.count
    (λ k c file a e. (k, are.each k c file a e)))
    ∙ position_from-map (λ (c : DeclaredClass). c.name) test (λ c. bytes_eq c.name name) first (declared_from 0 given) (λ c. refl)
    ∙ sym (number_given given name)

-- ---- all classes

abbrev with_texts : List DeclaredClass → List (List ℕ) → List (Option ℕ)
with_texts classes texts = map (class_number classes) texts

-- one of both tables: of the built-in classes, and of the files
table_is : {X : Type 0} (g : DeclaredClass → X) (b : DeclaredClass → X) (f : GivenFile → X) (texts : List (List ℕ)) (given : List ClassDef) (files : List GivenFile)
    → ((c : DeclaredClass) → b c ≡ g c) → ((k n : ℕ) (c : ClassDef) (file : GivenFile) → IsFile texts k c file → f file ≡ g (declared_of n c)) → AreFiles texts given files
    → map b built_in ++ map f files ≡ map g (classes_of given)
unfolding classes_of
table_is g b f texts given files same_built_in same_file are =
    ap (λ xs. xs ++ map f files) (map_same b g same_built_in built_in)
    ∙ ap (λ xs. map g built_in ++ xs) (files_map texts f g same_file 0 given files are.count (λ k c file a e. (k, are.each k c file a e)))
    ∙ sym (map-append g built_in (declared_from 0 given))

pub parents_are : (classes : List DeclaredClass) (numbers : ClassNumbers) (by_text : List (Option ℕ)) (files : List GivenFile) → NamesClasses classes numbers by_text files
    → parents_by (number_in numbers.numbers) by_text files ≡ map (parent_of classes) (numbers_below (length classes))
parents_are classes numbers by_text files names =
    let find = number_in numbers.numbers in
    let g : DeclaredClass → Option ℕ = superclass_in classes in
    let f : GivenFile → Option ℕ = λ file. class_named_in (with_texts classes names.texts) file file.class.now.super_class in
    ap (λ t. parents_by find t files) names.by_number
    ∙ table_is g (superclass_by find files) f names.texts names.given files same_superclass
    (λ k n c file is. class_named_is classes names.texts k c file is file.class.now.super_class
    ∙ ap (λ (d : ClassDef). option_and_then (class_number classes) (class_name_at c.pool.entries d.super_class)) is.class_is) names.files_are
    ∙ ap (map g) (sym names.classes_are)
    ∙ map_classes g classes where
      same_completion : (c : DeclaredClass) → completion_among files c ≡ completion_of classes c
      same_completion c =
          ap (λ o. cond (is_none c.file) o None)
          (number_named names.texts names.given files names.files_are c.name ∙ ap (λ all. given_number all c.name) (sym names.classes_are))

      same_superclass : (c : DeclaredClass) → superclass_by (number_in numbers.numbers) files c ≡ superclass_in classes c
      same_superclass c =
          and_then_same (λ name. option_or (completion_among files c) (number_in numbers.numbers name)) (λ name. option_or (completion_of classes c) (class_number classes name))
          (λ name. ap (λ o. option_or o (number_in numbers.numbers name)) (same_completion c) ∙ ap (option_or (completion_of classes c)) (names.by_name name)) c.superclass

pub listed_are : (classes : List DeclaredClass) (numbers : ClassNumbers) (by_text : List (Option ℕ)) (files : List GivenFile) → NamesClasses classes numbers by_text files
    → listed_by (number_in numbers.numbers) by_text files ≡ map (listed_interfaces classes) (numbers_below (length classes))
listed_are classes numbers by_text files names =
    let find = number_in numbers.numbers in
    let g : DeclaredClass → List ℕ = interfaces_by (class_number classes) in
    ap (λ t. listed_by find t files) names.by_number
    ∙ table_is g (interfaces_by find) (listed_in find (with_texts classes names.texts)) names.texts names.given files
    (λ c. filter_map_agree find (class_number classes) names.by_name c.interfaces)
    (λ k n c file is. filter_map_same (class_listed_in find (with_texts classes names.texts) file) (class_number classes) (name_at c.pool.entries)
    (class_listed_is classes names.texts find names.by_name k c file is) file.class.now.interfaces
    ∙ ap (λ (d : ClassDef). filter_map (class_number classes) (map (name_at c.pool.entries) d.interfaces)) is.class_is) names.files_are
    ∙ ap (map g) (sym names.classes_are)
    ∙ map_classes g classes
