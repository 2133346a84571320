-- The refusals one kind after the other, and what is known of files once their texts are numbered.
use Rattle.std.proofs.Common.{◌≡◌, refl, sym, ◌∙◌, ap, subst, ℕ, suc, ◌+◌, ◌<◌, List, [], ◌∷◌, ◌++◌, length, map, Option, Some, Result, slice_get, arith, append_assoc}
use Rattle.std.proofs.lemmas.List.{get_or-map, length-map}
use Rattle.std.proofs.lemmas.Option.{get_or_from_slice_get, slice_get-get_or, slice_get_within}
use Rattle.std.specs.List.{AllByRecursion}
use Rattle.fm_code.specs.Spells.{HasSpelling}
use Rattle.fm_code.specs.declared.class_file.ClassDef.{ClassDef}
use Rattle.fm_link_names.proofs.FileLemmas.{extends_through, file_kept}
use Rattle.fm_link_names.specs.declared.given.GivenFile.{GivenFile}
use Rattle.fm_link_names.specs.inner.Files.{AreFiles, IsFile}
use Rattle.fm_link_names.specs.declared.texts.Texts.{Texts}
use Rattle.fm_link_names.specs.inner.Numbering.{texts_in, AreTexts, Extends}
use Rattle.fm_link.specs.inner.Judged.{later_refusals, member_refusals, name_refusals, IsReady}
use Rattle.fm_link_members.proofs.RowSteps.{rows_extend}
use Rattle.fm_link_members.specs.declared.members.Members.{Members}
use Rattle.fm_link_members.specs.inner.MemberRows.{field_alike, method_alike, AreFieldRows, AreMethodRows}
use Rattle.fm_link_refusals.proofs.FirstRefusals.{first-append, first_after, refuses_after}
use Rattle.fm_link_refusals.specs.Refused.{IsFirst, Refuses}
use Rattle.fm_link_refusals.specs.declared.error.LinkFail.{LinkFail}
use Rattle.fm_link_refusals.specs.inner.GivenClasses.{class_in, given_in, AreNumbered}
use Rattle.fm_world.specs.Causes.{Refusal}
use Rattle.fm_world.specs.Lookups.{constructor_name}
use Rattle.fm_world.specs.Members.{fields_of, methods_of}
use Rattle.fm_world.specs.Programs.{classes_of}
use Rattle.fm_world.specs.declared.declarations.DeclaredClass.{DeclaredClass}
use Rattle.fm_world.specs.Linking.{refusals, refused_built_ins, refused_duplicates, refused_fields, refused_main, refused_methods, refused_missing_classes, refused_not_implemented, refused_parents}

-- ---- all refusals

refusals-joined : (given : List ClassDef) (main : List ℕ) → refusals given main ≡ name_refusals given ++ later_refusals given main
unfolding refusals
refusals-joined given main =
    let ab = refused_duplicates given ++ refused_built_ins given in
    let c = refused_missing_classes given in
    let d = refused_parents given in
    let e = refused_fields given in
    let f = refused_methods given in
    let g = refused_not_implemented given in
    let h = refused_main given main in
    append_assoc (ab ++ c ++ d ++ e ++ f) g h ∙ append_assoc (ab ++ c ++ d ++ e) f (g ++ h)
    ∙ append_assoc (ab ++ c ++ d) e (f ++ (g ++ h)) ∙ append_assoc (ab ++ c) d (e ++ (f ++ (g ++ h)))
    ∙ append_assoc ab c (d ++ (e ++ (f ++ (g ++ h)))) ∙ ap (λ rs. ab ++ rs) (sym (append_assoc c d (e ++ (f ++ (g ++ h)))))

pub at_names : (given : List ClassDef) (main : List ℕ) (o : Option Refusal) → IsFirst (name_refusals given) o → IsFirst (refusals given main) o
at_names given main o is =
    subst (λ rs. IsFirst rs o) (sym (refusals-joined given main)) (first-append (name_refusals given) (later_refusals given main) o is)

pub at_later : {X : Type 0} (given : List ClassDef) (main : List ℕ) (r : Result X LinkFail) → name_refusals given ≡ []
    → Refuses (later_refusals given main) r → Refuses (refusals given main) r
at_later given main r none is =
    subst (λ rs. Refuses rs r) (sym (refusals-joined given main)) (refuses_after (name_refusals given) (later_refusals given main) r none is)

-- ---- those of members

pub at_methods : (given : List ClassDef) (main : List ℕ) (o : Option Refusal) → refused_fields given ≡ [] → IsFirst (refused_methods given) o
    → IsFirst (member_refusals given main) o
at_methods given main o none is =
    first_after (refused_fields given) (refused_methods given ++ (refused_not_implemented given ++ refused_main given main)) o none
    (first-append (refused_methods given) (refused_not_implemented given ++ refused_main given main) o is)

pub at_not_implemented : (given : List ClassDef) (main : List ℕ) (o : Option Refusal) → refused_fields given ≡ [] → refused_methods given ≡ []
    → IsFirst (refused_not_implemented given) o → IsFirst (member_refusals given main) o
at_not_implemented given main o none empty is =
    first_after (refused_fields given) (refused_methods given ++ (refused_not_implemented given ++ refused_main given main)) o none
    (first_after (refused_methods given) (refused_not_implemented given ++ refused_main given main) o empty
    (first-append (refused_not_implemented given) (refused_main given main) o is))

pub at_main : {X : Type 0} (given : List ClassDef) (main : List ℕ) (r : Result X LinkFail) → refused_fields given ≡ [] → refused_methods given ≡ []
    → refused_not_implemented given ≡ [] → Refuses (refused_main given main) r → Refuses (member_refusals given main) r
at_main given main r none empty nothing is =
    refuses_after (refused_fields given) (refused_methods given ++ (refused_not_implemented given ++ refused_main given main)) r none
    (refuses_after (refused_methods given) (refused_not_implemented given ++ refused_main given main) r empty
    (refuses_after (refused_not_implemented given) (refused_main given main) r nothing is))

-- ---- files

given_from : (texts : List (List ℕ)) (n : ℕ) (given : List ClassDef) (files : List GivenFile) → length files ≡ length given
    → ((k : ℕ) (c : ClassDef) (file : GivenFile) → slice_get given k ≡ Some c → slice_get files k ≡ Some file → IsFile texts (n + k) c file)
    → given_in files ≡ given
given_from texts n [] [] long each = refl
given_from texts n [] (file ∷ files) long each = absurd (omega (arith, long))
given_from texts n (c ∷ given) [] long each = absurd (omega (arith, long))
given_from texts n (c ∷ given) (file ∷ files) long each =
    ap (λ d. d ∷ given_in files) (each 0 c file refl refl).class_is
    ∙ ap (λ ds. c ∷ ds) (given_from texts (n + 1) given files (let l = long in omega (arith, l))
    (λ k d other at there. let e : n + suc k ≡ n + 1 + k = omega arith in
    let P : ℕ → Type 0 = λ j. IsFile texts j d other in subst P e (each (suc k) d other at there)))

-- the classes of files that are numbered are the given ones
pub given_is : (texts : List (List ℕ)) (given : List ClassDef) (files : List GivenFile) → AreFiles texts given files → given_in files ≡ given
given_is texts given files are =
    given_from texts 0 given files are.count
    (λ k c file at there. let e : k ≡ 0 + k = omega arith in let P : ℕ → Type 0 = λ j. IsFile texts j c file in subst P e (are.each k c file at
    there))

pub files_kept : (old new : List (List ℕ)) (given : List ClassDef) (files : List GivenFile) → Extends old new → AreFiles old given files
    → AreFiles new given files
files_kept old new given files more are =
    record { count = are.count; each = λ k c file at there. file_kept old new k c file more (are.each k c file at there) }

pub files_numbered : (texts : List (List ℕ)) (files : List GivenFile) → AreFiles texts (given_in files) files → AreNumbered texts files
files_numbered texts files are = record {
  each = λ k file there.
      let within = slice_get_within files k file there in
      let inside : k < length (given_in files) = let l = length-map files class_in in omega (arith, within, l) in
      are.each k (class_in file) file
      (slice_get-get_or (given_in files) k (class_in file) inside
      ∙ ap (λ d. Some d) (get_or-map class_in files k file (class_in file) within
      ∙ ap class_in (get_or_from_slice_get files k file file there))) there;
}

-- ---- what is known before classes are judged

-- facts of classes hold of those of the files as well
moved : (P : List ClassDef → Type 0) (given : List ClassDef) (files : List GivenFile) → given_in files ≡ given → P given → P (given_in files)
moved P given files is p = subst P (sym is) p

pub ready_of : (given : List ClassDef) (first second third : List (List ℕ)) (texts : Texts) (files : List GivenFile) (classes : List DeclaredClass)
    (constructor : ℕ) (fields methods : Members) → AllByRecursion HasSpelling given → refused_built_ins given ≡ []
    → AreFiles first given files
    → Extends first second → Extends second third → Extends third (texts_in texts) → AreTexts texts
    → (AreFiles first given files → AreFieldRows second (classes_of given) fields)
    → (AreFiles second given files → AreMethodRows third (classes_of given) methods)
    → slice_get (texts_in texts) constructor ≡ Some constructor_name
    → ((cs : List ClassDef) → AreFiles (texts_in texts) cs files → classes ≡ classes_of cs)
    → IsReady texts files classes constructor fields methods
ready_of given first second third texts files classes constructor fields methods spelled apart are one two three texts_are of_fields of_methods named
    declared =
    let is = given_is first given files are in
    let later = files_kept first second given files one are in
    let last = files_kept third (texts_in texts) given files three (files_kept second third given files two later) in
    let rest = extends_through second third (texts_in texts) two three in
    record {
      spelled = moved (AllByRecursion HasSpelling) given files is spelled;
      apart = moved (λ cs. refused_built_ins cs ≡ []) given files is apart;
      texts_are = texts_are;
      files_are = moved (λ cs. AreFiles (texts_in texts) cs files) given files is last;
      classes_are = moved (λ cs. classes ≡ classes_of cs) given files is (declared given last);
      fields_are = moved (λ cs. AreFieldRows (texts_in texts) (classes_of cs) fields) given files is (record {
        rows = rows_extend second (texts_in texts) (map field_alike (fields_of (classes_of given))) fields.rows.items rest (of_fields are).rows;
        first = (of_fields are).first;
      });
      methods_are = moved (λ cs. AreMethodRows (texts_in texts) (classes_of cs) methods) given files is (record {
        rows = rows_extend third (texts_in texts) (map method_alike (methods_of (classes_of given))) methods.rows.items three (of_methods later).rows;
        first = (of_methods later).first;
      });
      constructor_is = named;
    }

-- the refusals that are left are those of the given classes
pub of_given : {X : Type 0} (given : List ClassDef) (files : List GivenFile) (main : List ℕ) (r : Result X LinkFail) → given_in files ≡ given
    → Refuses (later_refusals (given_in files) main) r → Refuses (later_refusals given main) r
of_given given files main r are is = subst (λ cs. Refuses (later_refusals cs main) r) are is
