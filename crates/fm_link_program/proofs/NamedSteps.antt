-- What files name, by number, is what their program names.
use Rattle.std.proofs.Common.{◌≡◌, sym, ◌∙◌, ap, subst, ℕ, ◌<◌, ◌^◌, List, [], ◌++◌, length, map, replicate, get_or, Option, Some, option_to_list}
use Rattle.std.specs.Borrow.{Bor}
use Rattle.std.specs.List.{flat_map, AllByRecursion}
use Rattle.std.proofs.lemmas.Option.{slice_get-get_or}
use Rattle.fm_base.specs.declared.kinds.TypeRef.{TypeRef}
use Rattle.fm_code.specs.Spells.{HasSpelling}
use Rattle.fm_code.specs.declared.class_file.ClassDef.{ClassDef}
use Rattle.fm_link_names.specs.declared.given.GivenFile.{GivenFile}
use Rattle.fm_link_names.specs.declared.texts.Texts.{Texts}
use Rattle.fm_link_names.specs.inner.DescriptorTypes.{type_of_name}
use Rattle.fm_link_names.specs.inner.Files.{AreFiles}
use Rattle.fm_link_names.specs.inner.Numbering.{lent, texts_in, AreTexts}
use Rattle.fm_link_records.proofs.NumberLaws.{literals-all, types-all}
use Rattle.fm_link_records.proofs.TextLaws.{texts-modified}
use Rattle.fm_link_records.specs.inner.Named.{texts_named, types_made, types_named}
use Rattle.fm_link_records.specs.inner.TextNumbers as text_numbers
use Rattle.fm_link_records.specs.inner.TextNumbers.{literals_by, AreApart, IsModified}
use Rattle.fm_link_records.specs.inner.TypeNumbers.{types_by}
use Rattle.fm_link_refusals.specs.inner.Linking.{IsLinking}
use Rattle.fm_link_program.specs.declared.named.Named.{Named}
use Rattle.fm_link_program.specs.declared.uses.Resolving.{Resolving}
use Rattle.fm_link_program.specs.inner.Named.{IsNamed}
use Rattle.fm_link_program.specs.inner.Resolved.{IsResolving}
use Rattle.fm_world.specs.BuiltIns.{built_in}
use Rattle.fm_world.specs.Numbers.{argument_array}
use Rattle.fm_world.specs.Programs.{Outline, class_uses, classes_of, uses_of}
use Rattle.fm_world.specs.declared.declarations.DeclaredClass.{DeclaredClass}

-- no text occurs twice
pub apart : (t : Texts) → AreTexts t → AreApart (texts_in t)
apart t are m n m_within n_within same =
    let texts = texts_in t in
    are.once m n (get_or texts m []) (slice_get-get_or texts m [] m_within)
    (slice_get-get_or texts n [] n_within ∙ ap (λ (x : List ℕ). Some x) (sym same))

-- an outline without a main
bare : List DeclaredClass → List TypeRef → List (List ℕ) → Outline
bare classes types texts = record { classes = classes; types = types; texts = texts; main_class = 0; main = 0 }

-- what indices are resolved to by the tables' classes, which are those of the files
uses-of : (classes : List DeclaredClass) (types : List TypeRef) (texts : List (List ℕ)) (given : List ClassDef) → classes ≡ classes_of given
    → replicate (length built_in) [] ++ map (class_uses (bare classes types texts)) given ≡ uses_of (bare (classes_of given) types texts) given
unfolding uses_of
uses-of classes types texts given is = ap (λ cs. replicate (length built_in) [] ++ map (class_uses (bare cs types texts)) given) is

-- the types, texts and uses that are made of what files name
pub named-made : (texts : List (List ℕ)) (given : List ClassDef) (files : List GivenFile) (classes : List DeclaredClass)
    (by_text : List (Option TypeRef)) (arguments : Option TypeRef) (used arrays : List TypeRef) (naming : List ℕ) (n : Named)
    → classes ≡ classes_of given → by_text ≡ map (type_of_name (classes_of given)) texts → AllByRecursion HasSpelling given
    → AreFiles texts given files
    → arguments ≡ argument_array (classes_of given)
    → used ≡ flat_map (types_named by_text) files → arrays ≡ option_to_list arguments ++ flat_map (types_made by_text) files
    → naming ≡ flat_map texts_named files
    → n.types.types.keys ≡ types_by (length classes) used arrays
    → length n.types.types.keys < 2 ^ 32
    → n.literals.units.items ≡ literals_by texts naming
    → n.uses.items ≡ replicate (length built_in) [] ++ map (class_uses (record {
      classes = classes;
      types = n.types.types.keys;
      texts = n.literals.units.items;
      main_class = 0;
      main = 0;
    })) given
    → IsNamed given n
unfolding bare
named-made texts given files classes by_text arguments used arrays naming n classes_are types_are spelled are arguments_are used_is arrays_are
    naming_is types few literals uses =
    let all = classes_of given in
    record {
      types = types ∙ ap (λ cs. types_by (length cs) used arrays) classes_are
          ∙ ap (λ ts. types_by (length all) ts arrays) used_is
          ∙ ap (types_by (length all) (flat_map (types_named by_text) files))
          (arrays_are ∙ ap (λ o. option_to_list o ++ flat_map (types_made by_text) files) arguments_are)
          ∙ types-all texts all by_text given files types_are spelled are;
      few = few;
      texts = literals ∙ ap (literals_by texts) naming_is ∙ literals-all texts given files spelled are;
      uses = uses ∙ uses-of classes n.types.types.keys n.literals.units.items given classes_are;
    }

-- the numbers that were read are those of texts in modified UTF-8
pub modified_texts : (texts read : List (List ℕ)) (given : List ClassDef) (files : List GivenFile) (naming : List ℕ)
    → AllByRecursion HasSpelling given → AreFiles texts given files → read ≡ texts → naming ≡ flat_map texts_named files
    → (k : ℕ) → k < length naming → IsModified read (get_or naming k 0)
modified_texts texts read given files naming spelled are read_is naming_is =
    let P : List (List ℕ) → List ℕ → Type 0 = λ ts ns. (k : ℕ) → k < length ns → IsModified ts (get_or ns k 0) in
    subst (λ ts. P ts naming) (sym read_is) (subst (P texts) (sym naming_is) (texts-modified texts given files spelled are))

-- what entries are resolved by, where the texts were read from the tables
pub is_resolving : (r : Resolving) (given : List ClassDef) (read : List (Bor (List ℕ))) → IsLinking (classes_of given) r.linking
    → r.by_text.now ≡ map (type_of_name (classes_of given)) (texts_in r.linking.texts.now)
    → length r.types.now.types.keys < 2 ^ 32 → read ≡ r.linking.texts.now.texts.keys
    → text_numbers.AreNumbered (lent read) r.literals.now.units.items r.literals.now.by_text.items → IsResolving r
is_resolving r given read linked types few read_is texts =
    let same = sym linked.hierarchy.classes_are in
    record {
      linked = subst (λ cs. IsLinking cs r.linking) same linked;
      by_text = types ∙ ap (λ cs. map (type_of_name cs) (texts_in r.linking.texts.now)) same;
      few = few;
      texts = subst (λ (ts : List (Bor (List ℕ))). text_numbers.AreNumbered (lent ts) r.literals.now.units.items r.literals.now.by_text.items) read_is
          texts;
    }
