-- The texts that files name by their numbers are those that their classes name.
use Rattle.std.proofs.Common.{◌≡◌, refl, sym, ◌∙◌, ap, subst, ℕ, zero, suc, ◌+◌, ◌<◌, List, [], ◌∷◌, ◌++◌, length, map, get_or, Option, Some, None, slice_get, arith}
use Rattle.std.specs.Prelude.{IsSome, unwrap_or}
use Rattle.std.specs.List.{AllByRecursion, cons_option, filter_map, flat_map}
use Rattle.std.specs.Option.{option_and_then, option_map}
use Rattle.std.proofs.lemmas.Bool.{false≢true}
use Rattle.std.proofs.lemmas.Option.{get_or_from_slice_get, slice_get_within}
use Rattle.fm_base.proofs.ListFacts.{AllByRecursion-append, AllByRecursion-get_or, filter_map_agree}
use Rattle.fm_base.specs.Texts.{units, IsModifiedUtf8}
use Rattle.fm_code.specs.ConstantPool.{entry_at, utf8_at, EntryIsValid}
use Rattle.fm_code.specs.Spells.{HasSpelling}
use Rattle.fm_code.specs.declared.class_file.ClassDef.{ClassDef}
use Rattle.fm_code.specs.declared.constant_pool.Entry.{Entry}
use Rattle.fm_code.specs.declared.constant_pool.Entry.TheVariants as entry
use Rattle.fm_link_names.specs.declared.given.GivenFile.{GivenFile}
use Rattle.fm_link_names.specs.inner.Files.{text_in, AreFiles, IsFile}
use Rattle.fm_link_names.specs.inner.Numbering.{IsNumberOf, entry_text}
use Rattle.fm_world.specs.Declarations as world
use Rattle.fm_world.specs.Numbers.{text_number, text_units}
use Rattle.fm_world.specs.Uses.{uses_in_order}
use Rattle.fm_link_records.specs.inner.Named.{text_at, text_of_entry, texts_named}
use Rattle.fm_link_records.specs.inner.TextNumbers.{units_at, AreNumbered, IsModified}
use Rattle.fm_link_records.proofs.NamedLaws.{flat_map-all}

-- ---- one entry

-- the units of an entry
abbrev pub units_by : List Entry → Entry → Option (List ℕ)
units_by entries (entry.Text text) = Some (units (world.text_at entries text))
units_by entries e = None

text_units-by : (entries : List Entry) (index : ℕ) → text_units entries index ≡ units_by entries (entry_at entries index)
text_units-by entries index = refl

known_units : (texts : List (List ℕ)) (o : Option (List ℕ)) (p : Option ℕ) → IsNumberOf texts o p → IsSome o
    → option_map (units_at texts) p ≡ Some (units (unwrap_or o []))
known_units texts None p is some = absurd (false≢true some)
known_units texts (Some name) None is some = absurd is
known_units texts (Some name) (Some n) is some = ap (λ t. Some (units t)) (get_or_from_slice_get texts n name [] is)

entry_units : (texts : List (List ℕ)) (entries : List Entry) (file : GivenFile) (e : Entry) → EntryIsValid entries e
    → ((i : ℕ) → IsNumberOf texts (utf8_at entries i) (text_in file i))
    → option_map (units_at texts) (text_of_entry file e) ≡ units_by entries e
entry_units texts entries file (entry.Text t) valid numbers = known_units texts (utf8_at entries t) (text_in file t) (numbers t) valid
entry_units texts entries file e valid numbers = refl

valid_at : (c : ClassDef) → HasSpelling c → (index : ℕ) → EntryIsValid c.pool.entries (entry_at c.pool.entries index)
valid_at c (bytes, spells) index = AllByRecursion-get_or (EntryIsValid c.pool.entries) c.pool.entries entry.Second spells.pool.entries tt index

text_at-is : (texts : List (List ℕ)) (k : ℕ) (c : ClassDef) (file : GivenFile) → HasSpelling c → IsFile texts k c file
    → (index : ℕ) → option_map (units_at texts) (text_at file index) ≡ text_units c.pool.entries index
text_at-is texts k c file spelled is index =
    ap (λ (d : ClassDef). option_map (units_at texts) (text_of_entry file (entry_at d.pool.entries index))) is.class_is
    ∙ entry_units texts c.pool.entries file (entry_at c.pool.entries index) (valid_at c spelled index) is.texts_are
    ∙ sym (text_units-by c.pool.entries index)

-- ---- all of them

map-cons : {A B : Type 0} (f : A → B) (o : Option A) (xs : List A) → map f (cons_option o xs) ≡ cons_option (option_map f o) (map f xs)
map-cons f None xs = refl
map-cons f (Some x) xs = refl

map-filter_map : {A B C : Type 0} (f : B → C) (g : A → Option B) (xs : List A) → map f (filter_map g xs) ≡ filter_map (λ x. option_map f (g x)) xs
map-filter_map f g [] = refl
map-filter_map f g (x ∷ xs) = map-cons f (g x) (filter_map g xs) ∙ ap (cons_option (option_map f (g x))) (map-filter_map f g xs)

map-append : {A B : Type 0} (f : A → B) (xs ys : List A) → map f (xs ++ ys) ≡ map f xs ++ map f ys
map-append f [] ys = refl
map-append f (x ∷ xs) ys = ap (λ zs. f x ∷ zs) (map-append f xs ys)

map-flat_map : {A B C : Type 0} (f : B → C) (g : A → List B) (xs : List A) → map f (flat_map g xs) ≡ flat_map (λ x. map f (g x)) xs
map-flat_map f g [] = refl
map-flat_map f g (x ∷ xs) = map-append f (g x) (flat_map g xs) ∙ ap (λ ys. map f (g x) ++ ys) (map-flat_map f g xs)

pub texts-used : (texts : List (List ℕ)) (given : List ClassDef) (files : List GivenFile) → AllByRecursion HasSpelling given
    → AreFiles texts given files
    → map (units_at texts) (flat_map texts_named files) ≡ flat_map (λ c. filter_map (text_units c.pool.entries) (uses_in_order c)) given
texts-used texts given files spelled are =
    map-flat_map (units_at texts) texts_named files
    ∙ flat_map-all texts (λ file. map (units_at texts) (texts_named file)) (λ c. filter_map (text_units c.pool.entries) (uses_in_order c))
    (λ k c file has is. map-filter_map (units_at texts) (text_at file) (uses_in_order file.class.now)
    ∙ ap (λ (d : ClassDef). filter_map (λ index. option_map (units_at texts) (text_at file index)) (uses_in_order d)) is.class_is
    ∙ filter_map_agree (λ index. option_map (units_at texts) (text_at file index)) (text_units c.pool.entries) (text_at-is texts k c file has is)
    (uses_in_order c))
    given files spelled are

-- ---- the texts that are named are texts in modified UTF-8

modified_text : (entries : List Entry) (e : Entry) (name : List ℕ) → EntryIsValid entries e → entry_text e ≡ Some name → IsModifiedUtf8 name
modified_text entries (entry.Utf8 text) name valid is = let same : text ≡ name = cc in subst IsModifiedUtf8 same valid
modified_text entries e name valid is = absurd cc

known_text : (texts : List (List ℕ)) (o : Option (List ℕ)) (n : ℕ) → ((name : List ℕ) → o ≡ Some name → IsModifiedUtf8 name)
    → IsNumberOf texts o (Some n)
    → IsModified texts n
known_text texts None n modified is = absurd is
known_text texts (Some name) n modified is = record {
  within = slice_get_within texts n name is;
  modified = subst IsModifiedUtf8 (sym (get_or_from_slice_get texts n name [] is)) (modified name refl);
}

entry_modified : (texts : List (List ℕ)) (c : ClassDef) (file : GivenFile) (n : ℕ) → HasSpelling c
    → ((i : ℕ) → IsNumberOf texts (utf8_at c.pool.entries i) (text_in file i)) → (e : Entry) → text_of_entry file e ≡ Some n → IsModified texts n
entry_modified texts c file n spelled numbers (entry.Text t) is =
    let P : Option ℕ → Type 0 = λ o. IsNumberOf texts (utf8_at c.pool.entries t) o in
    known_text texts (utf8_at c.pool.entries t) n
    (λ name found. modified_text c.pool.entries (entry_at c.pool.entries t) name (valid_at c spelled t) found) (subst P is (numbers t))
entry_modified texts c file n spelled numbers e is = absurd cc

pub text_at-modified : (texts : List (List ℕ)) (k : ℕ) (c : ClassDef) (file : GivenFile) → HasSpelling c → IsFile texts k c file
    → (index n : ℕ) → text_at file index ≡ Some n → IsModified texts n
text_at-modified texts k c file spelled is index n found =
    entry_modified texts c file n spelled is.texts_are (entry_at file.class.now.pool.entries index) found

modified_among : (texts : List (List ℕ)) (file : GivenFile) → ((index n : ℕ) → text_at file index ≡ Some n → IsModified texts n)
    → (indices : List ℕ) → AllByRecursion (IsModified texts) (filter_map (text_at file) indices)
modified_among texts file each [] = tt
modified_among texts file each (i ∷ indices) = by (text_at file i) refl (modified_among texts file each indices) where
  by : (o : Option ℕ) → text_at file i ≡ o → AllByRecursion (IsModified texts) (filter_map (text_at file) indices)
      → AllByRecursion (IsModified texts) (cons_option o (filter_map (text_at file) indices))
  by None is later = later
  by (Some n) is later = (each i n is, later)

modified_files : (texts : List (List ℕ)) (n : ℕ) (given : List ClassDef) (files : List GivenFile) → AllByRecursion HasSpelling given
    → length files ≡ length given
    → ((k : ℕ) (c : ClassDef) (file : GivenFile) → slice_get given k ≡ Some c → slice_get files k ≡ Some file → IsFile texts (n + k) c file)
    → AllByRecursion (IsModified texts) (flat_map texts_named files)
modified_files texts n [] [] spelled long each = tt
modified_files texts n [] (file ∷ files) spelled long each = absurd (omega (arith, long))
modified_files texts n (c ∷ given) [] spelled long each = absurd (omega (arith, long))
modified_files texts n (c ∷ given) (file ∷ files) spelled long each =
    AllByRecursion-append (IsModified texts) (texts_named file) (flat_map texts_named files)
    (modified_among texts file (text_at-modified texts (n + 0) c file spelled.0 (each 0 c file refl refl)) (uses_in_order file.class.now))
    (modified_files texts (n + 1) given files spelled.1 (let l = long in omega (arith, l))
    (λ k d other at there. let e : n + suc k ≡ n + 1 + k = omega arith in
    let P : ℕ → Type 0 = λ j. IsFile texts j d other in subst P e (each (suc k) d other at there)))

all_at : {A : Type 0} (P : A → Type 0) (xs : List A) (d : A) → AllByRecursion P xs → (k : ℕ) → k < length xs → P (get_or xs k d)
all_at P [] d all k h = absurd (omega (arith, h))
all_at P (x ∷ xs) d all zero h = all.0
all_at P (x ∷ xs) d all (suc k) h = all_at P xs d all.1 k (omega (arith, h))

-- each number that is named is that of a text in modified UTF-8
pub texts-modified : (texts : List (List ℕ)) (given : List ClassDef) (files : List GivenFile) → AllByRecursion HasSpelling given
    → AreFiles texts given files
    → (k : ℕ) → k < length (flat_map texts_named files) → IsModified texts (get_or (flat_map texts_named files) k 0)
texts-modified texts given files spelled are =
    all_at (IsModified texts) (flat_map texts_named files) 0
    (modified_files texts 0 given files spelled are.count
    (λ k c file at there. let e : k ≡ 0 + k = omega arith in let P : ℕ → Type 0 = λ j. IsFile texts j c file in subst P e (are.each k c file at
    there)))

-- the number of the text that a String entry names
pub text_number-is : (texts found : List (List ℕ)) (by_text : List (Option ℕ)) (k : ℕ) (c : ClassDef) (file : GivenFile)
    → AreNumbered texts found by_text
    → HasSpelling c → IsFile texts k c file → (index : ℕ)
    → option_and_then (λ n. get_or by_text n None) (text_at file index) ≡ option_and_then (text_number found) (text_units c.pool.entries index)
text_number-is texts found by_text k c file are spelled is index =
    by (text_at file index) refl ∙ ap (option_and_then (text_number found)) (text_at-is texts k c file spelled is index) where
      by : (o : Option ℕ) → text_at file index ≡ o
          → option_and_then (λ n. get_or by_text n None) o ≡ option_and_then (text_number found) (option_map (units_at texts) o)
      by None e = refl
      by (Some n) e = are.numbers n (text_at-modified texts k c file spelled is index n e)
