-- What is known of classes whose names differ while their superclasses are judged, and once their tables are made.
use Rattle.std.proofs.Common.{◌≡◌, ◌∙◌, ap, subst, ℕ, List, map, Option}
use Rattle.fm_code.specs.declared.class_file.ClassDef.{ClassDef}
use Rattle.fm_link_names.specs.declared.class_numbers.ClassNumbers.{ClassNumbers}
use Rattle.fm_link_names.specs.declared.given.GivenFile.{GivenFile}
use Rattle.fm_link_names.specs.inner.ClassNumbering.{NumbersClasses}
use Rattle.fm_link_names.specs.inner.Files.{AreFiles}
use Rattle.fm_link_supers.specs.declared.hierarchy.Ancestors.{Ancestors}
use Rattle.fm_link_supers.specs.inner.Hierarchy.{AreAncestors}
use Rattle.fm_link_supers.specs.inner.NamedParents.{NamesClasses}
use Rattle.fm_world.specs.Descriptors.{class_number}
use Rattle.fm_world.specs.Programs.{classes_of}
use Rattle.fm_world.specs.declared.declarations.DeclaredClass.{DeclaredClass}

-- the classes are numbered by name and by text, and their superclasses are given
pub record AreNamed (given : List ClassDef) (texts : List (List ℕ)) (numbers : ClassNumbers) (by_text : List (Option ℕ)) (a : Ancestors) : Type 0 where
  pub numbers_are : NumbersClasses (classes_of given) numbers.numbers
  pub by_text_is : by_text ≡ map (class_number (classes_of given)) texts
  pub ancestors : AreAncestors (classes_of given) a

pub named-made : (given : List ClassDef) (texts read : List (List ℕ)) (files : List GivenFile) (classes : List DeclaredClass) (numbers : ClassNumbers)
    (by_text found : List (Option ℕ)) (a : Ancestors) → classes ≡ classes_of given → AreFiles texts given files → NumbersClasses classes numbers.numbers
    → read ≡ texts → by_text ≡ found
    → ((cs : List DeclaredClass) → NumbersClasses cs numbers.numbers → found ≡ map (class_number cs) read)
    → (NamesClasses classes numbers by_text files → AreAncestors classes a)
    → AreNamed given texts numbers by_text a
named-made given texts read files classes numbers by_text found a classes_are files_are numbered read_is lent_is named ancestors =
    let P : List DeclaredClass → Type 0 = λ cs. NumbersClasses cs numbers.numbers in
    let Q : List DeclaredClass → Type 0 = λ cs. AreAncestors cs a in
    let here = subst P classes_are numbered in
    record {
      numbers_are = here;
      by_text_is = lent_is ∙ named (classes_of given) here ∙ ap (map (class_number (classes_of given))) read_is;
      ancestors = subst Q classes_are (ancestors (record {
        given = given;
        texts = texts;
        classes_are = classes_are;
        by_name = numbered;
        by_number = lent_is ∙ named classes numbered ∙ ap (map (class_number classes)) read_is;
        files_are = files_are;
      }));
    }
