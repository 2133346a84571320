-- What is recorded about methods and fields is what a program records about them.
use Rattle.std.proofs.Common.{◌≡◌, refl, sym, ◌∙◌, ap, subst, ℕ, Bool, List, [], ◌∷◌, ◌++◌, length, map, drop, replicate, get_or, false, Option, None}
use Rattle.std.specs.Borrow.{Bor}
use Rattle.std.specs.List.{flat_map, AllByRecursion}
use Rattle.std.proofs.lemmas.List.{drop_at, length-map, length-replicate}
use Rattle.fm_code.specs.Members.{code_of}
use Rattle.fm_code.specs.Spells.{HasSpelling}
use Rattle.fm_code.specs.declared.class_file.ClassDef.{ClassDef}
use Rattle.fm_link_names.specs.declared.descriptors.Kinds.{Kinds}
use Rattle.fm_link_names.specs.declared.given.GivenFile.{GivenFile}
use Rattle.fm_link_names.specs.inner.Files.{AreFiles}
use Rattle.fm_base.specs.Rows.{marked}
use Rattle.fm_link_names.specs.inner.Numbering.{lent}
use Rattle.fm_link_members.specs.declared.members.MemberRow.{MemberRow}
use Rattle.fm_link_members.specs.inner.MemberRows.{field_alike, method_alike, AreRows}
use Rattle.fm_link_records.proofs.ClassSteps.{table_default}
use Rattle.fm_link_records.proofs.FirstLaws.{AreFirsts-all}
use Rattle.fm_link_records.proofs.KindLaws.{field_kinds, method_kinds}
use Rattle.fm_link_records.proofs.SlotLaws.{slots-all}
use Rattle.fm_link_records.specs.inner.DeclaredKinds.{AreKinds}
use Rattle.fm_link_records.specs.inner.Fields.{fields_told, slots_told}
use Rattle.fm_link_records.specs.inner.Firsts.{firsts_told}
use Rattle.fm_link_records.specs.inner.Methods.{methods_told}
use Rattle.fm_link_records.specs.inner.Rows.{codes_in}
use Rattle.fm_link_records.specs.inner.Sizes.{base_of}
use Rattle.fm_link_refusals.specs.inner.GivenClasses.{given_in}
use Rattle.fm_link_program.proofs.Described.{fields_described, length-rows, methods_described}
use Rattle.fm_link_program.specs.declared.member_infos.MemberInfos.{MemberInfos}
use Rattle.fm_link_program.specs.inner.MemberLists.{descriptors_in}
use Rattle.fm_link_program.specs.inner.MemberInfos.{AreMemberInfos}
use Rattle.fm_world.proofs.Example.{methods_are as methods-counted}
use Rattle.fm_world.specs.BuiltIns.{built_in, built_in_methods}
use Rattle.fm_world.specs.Members.{fields_of, methods_of, slot_of, statics_of}
use Rattle.fm_world.specs.Programs.{Outline, class_uses, classes_of, codes_of, uses_of}
use Rattle.fm_world.specs.declared.declarations.DeclaredClass.{DeclaredClass}
use Rattle.fm_world.specs.declared.uses.Use.{Use}
use Rattle.fm_world.specs.declared.uses.Use.TheVariants as resolved
use Rattle.fm_world.specs.inner.Tables.{numbers_below}

-- the codes of all files, by their classes
codes-files : (files : List GivenFile) → flat_map codes_in files ≡ flat_map (λ (c : ClassDef). map code_of c.methods) (given_in files)
codes-files [] = refl
codes-files (f ∷ files) = ap (λ cs. codes_in f ++ cs) (codes-files files)

-- the codes of built-in methods, and those of files
pub codes-given : (files : List GivenFile) → replicate built_in_methods None ++ flat_map codes_in files ≡ codes_of (given_in files)
unfolding codes_of
codes-given files =
    ap (λ n. replicate n None ++ flat_map codes_in files) (sym methods-counted)
    ∙ ap (λ cs. replicate (length (methods_of built_in)) None ++ cs) (codes-files files)

-- the places of fields, by the bases of their classes
pub slots_are : (classes : List DeclaredClass) (bases slots : List ℕ) → bases ≡ map (base_of classes) (numbers_below (length classes))
    → slots ≡ slots_told bases 0 0 classes → slots ≡ map (slot_of classes) (numbers_below (length (fields_of classes)))
slots_are classes bases slots bases_are is =
    is ∙ slots-all classes bases (λ class h. table_default (base_of classes) (length classes) class bases 0 bases_are h)

-- the uses of given classes
pub uses-given : (o : Outline) (given : List ClassDef) (uses : List (List Use)) → uses ≡ uses_of o given
    → drop (length built_in) uses ≡ map (class_uses o) given
unfolding uses_of
uses-given o given uses is =
    let none : List (List Use) = replicate (length built_in) [] in
    ap (drop (length built_in)) is ∙ drop_at none (map (class_uses o) given) (length built_in) (length-replicate (length built_in) [])

-- the records made from kinds, codes, places and first values that are those of the files' classes
pub told-made : (texts : List (List ℕ)) (given : List ClassDef) (files : List GivenFile) (o : Outline) (fields methods : List MemberRow)
    (kinds of_fields of_methods : List (Option Kinds)) (uses : List (List Use)) (t : MemberInfos)
    → o.classes ≡ classes_of given → AllByRecursion HasSpelling given → AreFiles texts given files
    → AreRows texts (map field_alike (fields_of (classes_of given))) fields
    → AreRows texts (map method_alike (methods_of (classes_of given))) methods
    → AreKinds (classes_of given) texts (marked (marked (replicate (length texts) false) (descriptors_in fields)) (descriptors_in methods)) kinds
    → length kinds ≡ length texts
    → of_fields ≡ map (λ d. get_or kinds d None) (descriptors_in fields)
    → of_methods ≡ map (λ d. get_or kinds d None) (descriptors_in methods)
    → uses ≡ map (class_uses o) given
    → t.methods.items ≡ methods_told of_methods (codes_of given) 0 (methods_of (classes_of given))
    → t.fields.infos.items
    ≡ fields_told of_fields (map (slot_of (classes_of given)) (numbers_below (length (fields_of (classes_of given)))))
    (replicate 2 resolved.Unused ++ firsts_told uses 0 files) 0 (fields_of (classes_of given))
    → t.fields.statics ≡ statics_of (classes_of given)
    → AreMemberInfos o given t
told-made texts given files o fields methods kinds of_fields of_methods uses t classes spelled are field_rows method_rows are_kinds long fields_are
    methods_are uses_are methods_told_is fields_told_is statics =
    let all = classes_of given in
    let marks = marked (marked (replicate (length texts) false) (descriptors_in fields)) (descriptors_in methods) in
    let count_fields : length (descriptors_in fields) ≡ length (fields_of all) =
    length-map fields (λ (r : MemberRow). r.descriptor) ∙ length-rows texts (map field_alike (fields_of all)) fields field_rows
    ∙ length-map (fields_of all) field_alike in
    let count_methods : length (descriptors_in methods) ≡ length (methods_of all) =
    length-map methods (λ (r : MemberRow). r.descriptor) ∙ length-rows texts (map method_alike (methods_of all)) methods method_rows
    ∙ length-map (methods_of all) method_alike in
    record {
      method_kinds = map (λ d. get_or kinds d None) (descriptors_in methods);
      field_kinds = map (λ d. get_or kinds d None) (descriptors_in fields);
      firsts = replicate 2 resolved.Unused ++ firsts_told uses 0 files;
      methods = methods_told_is ∙ ap (λ ks. methods_told ks (codes_of given) 0 (methods_of all)) methods_are;
      declared = method_kinds all texts marks kinds (descriptors_in methods) are_kinds long count_methods
          (methods_described texts given methods (descriptors_in fields) spelled method_rows);
      fields = fields_told_is ∙ ap (λ ks. fields_told ks (map (slot_of all) (numbers_below (length (fields_of all))))
          (replicate 2 resolved.Unused ++ firsts_told uses 0 files) 0 (fields_of all)) fields_are;
      kinds = field_kinds all texts marks kinds (descriptors_in fields) are_kinds long count_fields
          (fields_described texts given fields (descriptors_in methods) spelled field_rows);
      held = AreFirsts-all o texts uses given files classes spelled are uses_are;
      statics = statics;
    }

-- the kinds by the lists that were read
pub kinds-kept : (classes : List DeclaredClass) (read texts : List (List ℕ)) (count : ℕ) (marks : List Bool) (fields methods : List ℕ)
    (field_rows method_rows : List MemberRow) (kinds : List (Option Kinds)) → AreKinds classes read marks kinds → read ≡ texts
    → count ≡ length read → fields ≡ descriptors_in field_rows → methods ≡ descriptors_in method_rows
    → marks ≡ marked (marked (replicate count false) fields) methods
    → AreKinds classes texts (marked (marked (replicate (length texts) false) (descriptors_in field_rows)) (descriptors_in method_rows)) kinds
kinds-kept classes read texts count marks fields methods field_rows method_rows kinds are read_is count_is fields_are methods_are marks_are =
    let all : marks ≡ marked (marked (replicate (length texts) false) (descriptors_in field_rows)) (descriptors_in method_rows) =
    marks_are ∙ ap (λ n. marked (marked (replicate n false) fields) methods) (count_is ∙ ap length read_is)
    ∙ ap (λ ds. marked (marked (replicate (length texts) false) ds) methods) fields_are
    ∙ ap (marked (marked (replicate (length texts) false) (descriptors_in field_rows))) methods_are in
    subst (λ ts. AreKinds classes ts (marked (marked (replicate (length texts) false) (descriptors_in field_rows)) (descriptors_in method_rows)) kinds)
    read_is (subst (λ ms. AreKinds classes read ms kinds) all are)

-- ---- lists that were read

-- as many texts are lent as there are references
pub same_lent : (read : List (Bor (List ℕ))) → length read ≡ length (lent read)
same_lent read = sym (length-map read (λ (b : Bor (List ℕ)). b.now))

-- what is declared by descriptors, which go by the numbers of their texts
abbrev pub kinds_at : List (Option Kinds) → List ℕ → List (Option Kinds)
kinds_at kinds descriptors = map (λ d. get_or kinds d None) descriptors

-- the methods, and the fields, of the tables' classes are those of the files' classes
pub methods_of_classes : (kinds : List (Option Kinds)) (classes : List DeclaredClass) (given : List ClassDef) → classes ≡ classes_of given
    → methods_told kinds (codes_of given) 0 (methods_of classes) ≡ methods_told kinds (codes_of given) 0 (methods_of (classes_of given))
methods_of_classes kinds classes given is = ap (λ cs. methods_told kinds (codes_of given) 0 (methods_of cs)) is

pub fields_of_classes : (kinds : List (Option Kinds)) (classes : List DeclaredClass) (given : List ClassDef) (uses : List (List Use))
    (files : List GivenFile) → classes ≡ classes_of given
    → fields_told kinds (map (slot_of classes) (numbers_below (length (fields_of classes)))) (replicate 2 resolved.Unused ++ firsts_told uses 0 files) 0
    (fields_of classes)
    ≡ fields_told kinds (map (slot_of (classes_of given)) (numbers_below (length (fields_of (classes_of given)))))
    (replicate 2 resolved.Unused ++ firsts_told uses 0 files) 0 (fields_of (classes_of given))
fields_of_classes kinds classes given uses files is =
    ap (λ cs. fields_told kinds (map (slot_of cs) (numbers_below (length (fields_of cs)))) (replicate 2 resolved.Unused ++ firsts_told uses 0 files) 0
    (fields_of cs)) is
