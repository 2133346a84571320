-- Class files with woven codes are refused for what the old ones are refused for.
use Rattle.std.proofs.Common.{◌≡◌, refl, sym, ◌∙◌, ap, ℕ, ◌+◌, false, List, [], ◌∷◌, ◌++◌, length, Option, Some, None}
use Rattle.std.specs.List.{AllByRecursion, flat_map, list_any}
use Rattle.std.specs.Str.{bytes_eq}
use Rattle.fm_law_relinked.proofs.ClassRefusals.{built_in_same, classes_missing, fields_same, implemented_same, methods_same, parents_same}
use Rattle.fm_law_relinked.proofs.ClassStays.{name_is}
use Rattle.fm_law_relinked.proofs.FreeMethod.{knows_free}
use Rattle.fm_law_spelled.proofs.Growing.{either_class, grows, more}
use Rattle.fm_law_relinked.proofs.Outlines.{all_listed, classes_same, outline_same}
use Rattle.fm_law_relinked.specs.Again.{ChainedClassesLink, LinkAgain, SafeClassesLink}
use Rattle.fm_chain.proofs.WithoutChains.{classes_are_rewritten, none_looped}
use Rattle.fm_chain.specs.Chaining.{chained_class, chained_classes, chained_from, chained_marks_with, class_calls, class_has_chain, plan_has_chain}
use Rattle.fm_chain.specs.SafeChains.{looped_plans}
use Rattle.fm_code.specs.Spells.{HasSpelling}
use Rattle.fm_code.specs.declared.class_file.ClassDef.{ClassDef}
use Rattle.fm_place.specs.Insertions.{Insertions}
use Rattle.fm_place.specs.Rewriting.{first_given, Plans}
use Rattle.fm_place.specs.Safe.{SafeOf}
use Rattle.fm_world.specs.BuiltIns.{built_in}
use Rattle.fm_world.specs.Causes.{bad_parents, built_in_named, Duplicate, duplicates, each_from, missing_classes, missing_fields, missing_methods, no_main, not_implemented, own_name, refused, refused_if}
use Rattle.fm_world.specs.Linking.{refusals, refused_built_ins, refused_duplicates, refused_fields, refused_main, refused_methods, refused_missing_classes, refused_not_implemented, refused_parents}
use Rattle.fm_world.specs.Programs.{classes_of, outline_of, Program}
use Rattle.fm_world.specs.declared.declarations.DeclaredClass.{DeclaredClass}

module _ (plans : Plans) where
  -- ---- the files in turn

  duplicates_same : (earlier : List (List ℕ)) (first : ℕ) (given : List ClassDef) → AllByRecursion HasSpelling given
      → duplicates earlier (chained_from plans first given) ≡ duplicates earlier given
  duplicates_same earlier first [] spelled = refl
  duplicates_same earlier first (c ∷ given) spelled =
      let name : own_name (chained_class plans first c) ≡ own_name c =
      either_class plans first c (λ (d : ClassDef). own_name d ≡ own_name c) refl (name_is (class_has_chain plans first c) (more plans first c) (class_calls plans first c) plans first c (grows plans first c) spelled.0.0 spelled.0.1) in
      let others = chained_from plans (first + length c.methods) given in
      (λ k.
      refused_if (list_any (bytes_eq (name k)) earlier) (record { cause = Duplicate; name = name k; user = name k }) ++ duplicates (name k ∷ earlier) others)
      ∙ ap (λ l. refused_if (list_any (bytes_eq (own_name c)) earlier) (refused Duplicate c (own_name c)) ++ l)
      (duplicates_same (own_name c ∷ earlier) (first + length c.methods) given spelled.1)

  implemented_all : (classes : List DeclaredClass) (class first : ℕ) (given : List ClassDef) → AllByRecursion HasSpelling given
      → each_from class (not_implemented classes) (chained_from plans first given) ≡ each_from class (not_implemented classes) given
  implemented_all classes class first [] spelled = refl
  implemented_all classes class first (c ∷ given) spelled =
      let here =
      either_class plans first c (λ (d : ClassDef). not_implemented classes d class ≡ not_implemented classes c class) refl
      (implemented_same (class_has_chain plans first c) (more plans first c) (class_calls plans first c) plans first c (grows plans first c) spelled.0.0 spelled.0.1 classes class) in
      λ k. here k ++ implemented_all classes (class + 1) (first + length c.methods) given spelled.1 k

  -- ---- each kind of refusals

  module _ (given : List ClassDef) (spelled : AllByRecursion HasSpelling given) where
    duplicates_are : refused_duplicates (chained_classes plans given) ≡ refused_duplicates given
    unfolding refused_duplicates
    duplicates_are = duplicates_same [] first_given given spelled

    built_ins_are : refused_built_ins (chained_classes plans given) ≡ refused_built_ins given
    unfolding refused_built_ins
    built_ins_are = all_listed plans built_in_named (λ first c known.
        built_in_same (class_has_chain plans first c) (more plans first c) (class_calls plans first c) plans first c (grows plans first c) known.0 known.1) first_given given spelled

    classes_are : refused_missing_classes (chained_classes plans given) ≡ refused_missing_classes given
    unfolding refused_missing_classes
    classes_are =
        ap (λ cs. flat_map (missing_classes cs) (chained_classes plans given)) (classes_same plans given spelled)
        ∙ all_listed plans (missing_classes (classes_of given))
        (λ first c known.
        classes_missing (class_has_chain plans first c) (more plans first c) (class_calls plans first c) plans first c (grows plans first c) known.0 known.1 (classes_of given) (knows_free given).class) first_given given spelled

    parents_are : refused_parents (chained_classes plans given) ≡ refused_parents given
    unfolding refused_parents
    parents_are =
        ap (λ cs. flat_map (bad_parents cs) (chained_classes plans given)) (classes_same plans given spelled)
        ∙ all_listed plans (bad_parents (classes_of given)) (λ first c known.
        parents_same (class_has_chain plans first c) (more plans first c) (class_calls plans first c) plans first c (grows plans first c) known.0 known.1 (classes_of given)) first_given given spelled

    fields_are : refused_fields (chained_classes plans given) ≡ refused_fields given
    unfolding refused_fields
    fields_are =
        ap (λ cs. flat_map (missing_fields cs) (chained_classes plans given)) (classes_same plans given spelled)
        ∙ all_listed plans (missing_fields (classes_of given)) (λ first c known.
        fields_same (class_has_chain plans first c) (more plans first c) (class_calls plans first c) plans first c (grows plans first c) known.0 known.1 (classes_of given)) first_given given
        spelled

    methods_are : refused_methods (chained_classes plans given) ≡ refused_methods given
    unfolding refused_methods
    methods_are =
        ap (λ cs. flat_map (missing_methods cs) (chained_classes plans given)) (classes_same plans given spelled)
        ∙ all_listed plans (missing_methods (classes_of given))
        (λ first c known.
        methods_same (class_has_chain plans first c) (more plans first c) (class_calls plans first c) plans first c (grows plans first c) known.0 known.1 (classes_of given) (knows_free given)) first_given given spelled

    implemented_are : refused_not_implemented (chained_classes plans given) ≡ refused_not_implemented given
    unfolding refused_not_implemented
    implemented_are =
        ap (λ cs. each_from (length built_in) (not_implemented cs) (chained_classes plans given)) (classes_same plans given spelled)
        ∙ implemented_all (classes_of given) (length built_in) first_given given spelled

    main_is : (main : List ℕ) → refused_main (chained_classes plans given) main ≡ refused_main given main
    unfolding refused_main
    main_is main = ap (λ cs. no_main cs main) (classes_same plans given spelled)

    -- ---- all

    pub refusals_same : (main : List ℕ) → refusals (chained_classes plans given) main ≡ refusals given main
    unfolding refusals
    refusals_same main =
        λ k.
        duplicates_are k ++ built_ins_are k ++ classes_are k ++ parents_are k ++ fields_are k ++ methods_are k ++ implemented_are k ++ main_is main k

-- ---- safe insertions

-- they have no chains
pub none_has : (p : Program) (given written : List ClassDef) (marks : List (List (Option ℕ))) (safe : SafeOf p given written marks) (method : ℕ)
    → plan_has_chain (safe.plans method) ≡ false
none_has p given written marks safe method = by_plan (safe.plans method) refl where
  by_plan : (o : Option Insertions) → safe.plans method ≡ o → plan_has_chain o ≡ false
  by_plan None is = refl
  by_plan (Some plan) is = none_looped plan.holders (safe.methods method plan is).plain

-- so what is written is what is written with chains
pub written_chained : (p : Program) (given written : List ClassDef) (marks : List (List (Option ℕ))) (safe : SafeOf p given written marks)
    → written ≡ chained_classes safe.plans given
written_chained p given written marks safe =
    safe.written_is ∙ sym (classes_are_rewritten safe.plans (none_has p given written marks safe) given).classes_are

pub marks_chained : (p : Program) (given written : List ClassDef) (marks : List (List (Option ℕ))) (safe : SafeOf p given written marks)
    → marks ≡ chained_marks_with safe.plans given
marks_chained p given written marks safe =
    safe.marks_are ∙ sym (classes_are_rewritten safe.plans (none_has p given written marks safe) given).marks_are

-- what is written with any plans links
link_again : (plans : Plans) (given : List ClassDef) (main : List ℕ) (written : List ClassDef) → AllByRecursion HasSpelling given → refusals given main ≡ []
    → written ≡ chained_classes plans given → LinkAgain given main written
link_again plans given main written spelled none is = record {
  links = ap (λ files. refusals files main) is ∙ refusals_same plans given spelled main ∙ none;
  outline = ap (λ files. outline_of files main) is ∙ outline_same plans given main spelled;
}

pub safe_link : SafeClassesLink
safe_link given main p written marks spelled none safe = link_again safe.plans given main written spelled none (written_chained p given written marks safe)

pub chained_link : ChainedClassesLink
chained_link given main p written marks spelled none safe = link_again (looped_plans p safe.plans) given main written spelled none safe.written_is
