-- The classes of files, one after the other.
use Rattle.std.proofs.Common.{◌≡◌, refl, sym, ◌∙◌, ap, subst, ℕ, zero, suc, ◌+◌, ◌<◌, ◌≤◌, List, [], ◌∷◌, ◌++◌, length, map, take, get_or, Some, arith, slice_get}
use Rattle.std.proofs.lemmas.List.{take_all}
use Rattle.std.proofs.lemmas.Option.{slice_get_read}
use Rattle.fm_code.specs.ConstantPool.{utf8_at}
use Rattle.fm_code.specs.declared.class_file.ClassDef.{ClassDef}
use Rattle.fm_link_names.specs.declared.given.GivenFile.{GivenFile}
use Rattle.fm_link_names.specs.inner.Declaring.{declared_file, HasTexts}
use Rattle.fm_link_names.specs.inner.Files.{text_in, AreFiles, IsFile}
use Rattle.fm_link_names.specs.inner.Numbering.{IsNumberOf}
use Rattle.fm_world.specs.BuiltIns.{built_in}
use Rattle.fm_world.specs.Declarations.{declared_from, declared_of}
use Rattle.fm_world.specs.Programs.{classes_of}

-- ---- texts

is_file-texts : (texts : List (List ℕ)) (k : ℕ) (c : ClassDef) (file : GivenFile) → IsFile texts k c file → HasTexts texts file
is_file-texts texts k c file is index =
    subst (λ (d : ClassDef). IsNumberOf texts (utf8_at d.pool.entries index) (text_in file index)) (sym is.class_is) (is.texts_are index)

each_has : (texts : List (List ℕ)) (given : List ClassDef) (files : List GivenFile) (i : ℕ) (file : GivenFile) → length files ≡ length given
    → ((k : ℕ) (c : ClassDef) (f : GivenFile) → slice_get given k ≡ Some c → slice_get files k ≡ Some f → HasTexts texts f)
    → slice_get files i ≡ Some file → HasTexts texts file
each_has texts [] [] i file count each here = absurd (cc here)
each_has texts [] (f ∷ files) i file count each here = absurd (omega (arith, count))
each_has texts (c ∷ given) [] i file count each here = absurd (omega (arith, count))
each_has texts (c ∷ given) (f ∷ files) zero file count each here = each zero c file refl here
each_has texts (c ∷ given) (f ∷ files) (suc i) file count each here =
    each_has texts given files i file (omega (arith, count)) (λ k d g at there. each (suc k) d g at there) here

-- a file that is read has its texts in the list
pub file_has_texts : (texts : List (List ℕ)) (given : List ClassDef) (files : List GivenFile) (i : ℕ) (file : GivenFile) → AreFiles texts given files
    → i < length files → file ≡ get_or files i file → HasTexts texts file
file_has_texts texts given files i file are within is =
    each_has texts given files i file are.count (λ k c f at there. is_file-texts texts k c f (are.each k c f at there))
    (slice_get_read files (length files) i file refl within is)

-- ---- classes

declared_each : (number : ℕ) (given : List ClassDef) (files : List GivenFile) → length files ≡ length given
    → ((k : ℕ) (c : ClassDef) (f : GivenFile) → slice_get given k ≡ Some c → slice_get files k ≡ Some f
    → declared_file f ≡ declared_of (number + k) c)
    → map declared_file files ≡ declared_from number given
declared_each number [] [] count each = refl
declared_each number [] (f ∷ files) count each = absurd (omega (arith, count))
declared_each number (c ∷ given) [] count each = absurd (omega (arith, count))
declared_each number (c ∷ given) (f ∷ files) count each =
    let first : number + 0 ≡ number = omega arith in
    ap (λ d. d ∷ map declared_file files) (each zero c f refl refl ∙ ap (λ n. declared_of n c) first)
    ∙ ap (λ ds. declared_of number c ∷ ds)
    (declared_each (number + 1) given files (omega (arith, count)) (λ k d g at there.
    let moved : number + suc k ≡ number + 1 + k = omega arith in
    each (suc k) d g at there ∙ ap (λ n. declared_of n d) moved))

is_file-declared : (texts : List (List ℕ)) (k : ℕ) (c : ClassDef) (file : GivenFile) → IsFile texts k c file
    → declared_file file ≡ declared_of (0 + k) c
is_file-declared texts k c file is =
    let same : k ≡ 0 + k = omega arith in
    ap (λ n. declared_of n file.class.now) (is.number_is ∙ same) ∙ ap (declared_of (0 + k)) is.class_is

-- once all files are passed
pub all_declared : (texts : List (List ℕ)) (given : List ClassDef) (files : List GivenFile) (passed : ℕ) → AreFiles texts given files
    → length files ≤ passed
    → built_in ++ map declared_file (take passed files) ≡ classes_of given
unfolding classes_of
all_declared texts given files passed are past =
    ap (λ fs. built_in ++ map declared_file fs) (take_all passed files past)
    ∙ ap (λ ds. built_in ++ ds)
    (declared_each 0 given files are.count (λ k c f at there. is_file-declared texts k c f (are.each k c f at there)))
