-- Tables that are put together are those of the classes.
use Rattle.std.proofs.Common.{◌≡◌, sym, ◌∙◌, ap, subst, ℕ, ◌+◌, List, length, map, Some, unwrap_or, arith}
use Rattle.std.proofs.lemmas.List.{length-map}
use Rattle.std.proofs.lemmas.List.FromFn.{length-map-range_with_len}
use Rattle.fm_code.specs.declared.class_file.ClassDef.{ClassDef}
use Rattle.fm_link_supers.proofs.HierarchyLemmas.{interfaces_only}
use Rattle.fm_link_supers.proofs.ParentRefusals.{tree_object}
use Rattle.fm_link_supers.specs.declared.hierarchy.Hierarchy.{Hierarchy}
use Rattle.fm_link_members.specs.declared.lookups.Methods.{Methods}
use Rattle.fm_link_members.specs.declared.members.MemberRow.{MemberRow}
use Rattle.fm_link_supers.specs.inner.Hierarchy.{AreSound, IsHierarchy}
use Rattle.fm_link_members.specs.inner.MemberRows.{method_alike, row_alike}
use Rattle.fm_link_members.specs.inner.MemberTables.{signature_of, AreMethods}
use Rattle.fm_link_program.proofs.AnswerSteps.{flags-at}
use Rattle.fm_link_program.specs.declared.program_tables.ProgramTables.{ProgramTables}
use Rattle.fm_link_program.specs.inner.Answers.{AreAnswers}
use Rattle.fm_link_program.specs.inner.Assembled.{parts_from, AreCounted, IsTables}
use Rattle.fm_link_records.proofs.Answering.{calls-answered, classes-answered}
use Rattle.fm_link_records.specs.inner.Classes.{bare_outline}
use Rattle.fm_link_program.specs.inner.MemberLists.{flags_in}
use Rattle.fm_link_program.specs.inner.Named.{outline_named, IsNamed}
use Rattle.fm_link_program.specs.inner.MemberInfos.{AreMemberInfos}
use Rattle.fm_world.specs.Members.{first_method, methods_of}
use Rattle.fm_world.specs.Programs.{class_info, classes_of}
use Rattle.fm_world.specs.declared.declarations.DeclaredClass.{DeclaredClass}
use Rattle.fm_world.specs.inner.Tables.{numbers_below, AnswerForCalls, AnswerForClasses}

-- the tables of superclasses and of methods by the classes that they hold
pub hierarchy-held : (classes : List DeclaredClass) (h : Hierarchy) → IsHierarchy classes h → IsHierarchy h.classes.now h
hierarchy-held classes h is = let P : List DeclaredClass → Type 0 = λ cs. IsHierarchy cs h in subst P (sym is.classes_are) is

pub first-held : (texts : List (List ℕ)) (classes : List DeclaredClass) (h : Hierarchy) (m : Methods) → IsHierarchy classes h
    → AreMethods texts classes m → m.members.first.items ≡ map (first_method h.classes.now) (numbers_below (length h.classes.now + 1))
first-held texts classes h m is are =
    are.rows.first ∙ ap (λ cs. map (first_method cs) (numbers_below (length cs + 1))) (sym is.classes_are)

-- each method has a signature
signatures-counted : (texts : List (List ℕ)) (classes : List DeclaredClass) (m : Methods) → AreMethods texts classes m
    → length m.signatures.of_members.items ≡ length (methods_of classes)
signatures-counted texts classes m are =
    let rows = m.members.rows.items in
    sym (length-map m.signatures.of_members.items (λ (n : ℕ). Some n)) ∙ ap length are.signatures.of_members
    ∙ length-map rows (λ (r : MemberRow). signature_of rows r.name r.descriptor)
    ∙ sym (length-map rows (row_alike texts)) ∙ ap length are.rows.rows.same ∙ length-map (methods_of classes) method_alike

answers-classes : (texts : List (List ℕ)) (given : List ClassDef) (h : Hierarchy) (m : Methods) (t : ProgramTables) → AreSound (classes_of given)
    → IsHierarchy (classes_of given) h → AreMethods texts (classes_of given) m → AreAnswers h m t.answers
    → AnswerForClasses (parts_from (classes_of given) t)
answers-classes texts given h m t sound hierarchy methods are =
    classes-answered texts (parts_from (classes_of given) t) h m hierarchy methods (interfaces_only (classes_of given) sound) are.displays
    are.interfaces are.signatures are.nodes are.levels are.tops (signatures-counted texts (classes_of given) m methods)

answers-calls : (texts : List (List ℕ)) (given : List ClassDef) (h : Hierarchy) (m : Methods) (t : ProgramTables)
    → IsHierarchy (classes_of given) h → AreMethods texts (classes_of given) m → AreAnswers h m t.answers
    → AnswerForCalls (parts_from (classes_of given) t)
answers-calls texts given h m t hierarchy methods are =
    let classes = classes_of given in
    let found : h.object ≡ Some 0 = hierarchy.object ∙ tree_object given in
    let object : t.answers.object ≡ 0 = are.object ∙ ap (λ o. unwrap_or o 0) found in
    let long : length m.members.first.items ≡ length classes + 1 =
    ap length methods.rows.first ∙ length-map-range_with_len (first_method classes) 0 (length classes + 1) in
    let each = are.one_each in
    let count : length t.answers.own.items ≡ length classes = omega (arith, each, long) in
    calls-answered texts (parts_from classes t) h m (flags_in m.members.rows.items) hierarchy methods
    (found ∙ ap (λ n. Some n) (sym object)) are.signatures (flags-at m.members.rows.items) count are.own

pub tables-made : (texts : List (List ℕ)) (given : List ClassDef) (main : ℕ × ℕ) (h : Hierarchy) (m : Methods) (t : ProgramTables)
    → AreSound (classes_of given) → IsHierarchy (classes_of given) h → AreMethods texts (classes_of given) m
    → AreCounted (classes_of given) t.named t.told
    → t.classes.items ≡ map (class_info (bare_outline (classes_of given))) (numbers_below (length (classes_of given)))
    → IsNamed given t.named → AreMemberInfos (outline_named given t.named) given t.told → AreAnswers h m t.answers → t.main ≡ main
    → IsTables given main t
tables-made texts given main h m t sound hierarchy methods counted classes named told answers main_is = record {
  few = record {
    classes = counted.declared;
    methods = counted.methods;
    fields = counted.fields;
    types = named.few;
    texts = counted.texts;
  };
  classes = classes;
  named = named;
  told = told;
  answers = answers-classes texts given h m t sound hierarchy methods answers;
  calls = answers-calls texts given h m t hierarchy methods answers;
  main_is = main_is;
}
