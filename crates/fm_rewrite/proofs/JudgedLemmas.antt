-- What holds of a program and of its classes that were read, linked and checked, and of what is planned for its methods.
use Rattle.std.proofs.Common.{◌≡◌, refl, sym, ◌∙◌, ap, subst, ℕ, ◌+◌, ◌-◌, Bool, List, drop, take, length, length-append, Option, Some, None, IfSome, IsSomeAnd, Result, Err, arith}
use Rattle.std.specs.List.{AllByRecursion}
use Rattle.std.proofs.lemmas.List.{length-drop, take_all}
use Rattle.fm_summ_shapes.proofs.AcceptedLemmas.{accepted_are}
use Rattle.fm_summ_shapes.specs.Analysed.{AreAnalysable, IsAccepted}
use Rattle.fm_base.proofs.ListFacts.{AllByRecursion-weaker}
use Rattle.fm_check.specs.Checking.{HasCode, IsNarrow}
use Rattle.fm_code.specs.Spells.{HasSpelling}
use Rattle.fm_code.specs.declared.class_file.ClassDef.{ClassDef}
use Rattle.fm_code.specs.declared.code_array.Code.{Code}
use Rattle.fm_link_supers.proofs.ParentRefusals.{length-declared}
use Rattle.fm_place.proofs.SameTypings.{other_typing}
use Rattle.fm_place.specs.Rewriting.{first_given}
use Rattle.fm_place.specs.Safe.{IsProgramOf, narrowed_to}
use Rattle.fm_rewrite.proofs.MayDoLemmas.{have_counts, have_flags, may_do_each}
use Rattle.fm_rewrite.proofs.OldItemsLemmas.{have_old_items}
use Rattle.fm_rewrite.proofs.ProgramMeantLemmas.{all_planned, given_counted, methods_counted}
use Rattle.fm_rewrite.specs.Plans.{ArePlanned, HasOldItems}
use Rattle.fm_rewrite.specs.Rewritten.{AreJudged}
use Rattle.fm_rewrite.specs.declared.error.RewriteFail.{RewriteFail}
use Rattle.fm_rewrite.specs.declared.error.RewriteFail.TheVariants as fail
use Rattle.fm_rewrite.specs.declared.rewriting.Rewritten.{Rewritten}
use Rattle.fm_rewrite.specs.inner.ByPlans.{ComesBy, first_full_by, first_long_by, HaveCounts, HaveFlags, IsFullBy, IsLongBy, MayDoEach, method_count}
use Rattle.fm_place_weave.specs.declared.planned.Planned.{Planned}
use Rattle.fm_types.specs.States.{TypeState}
use Rattle.fm_types.specs.Typed.{IsTypingOf}
use Rattle.fm_world.specs.BuiltIns.{built_in}
use Rattle.fm_world.specs.Declarations.{declared_from}
use Rattle.fm_world.specs.Members.{methods_of}
use Rattle.fm_world.specs.Programs.{classes_of, code_at, method_info, outline_of, Program, program_of}

-- each class is spelled
pub judged_spelled : (given : List ClassDef) (p : Program) → AreJudged given p → AllByRecursion HasSpelling given
judged_spelled given p judged = AllByRecursion-weaker IsAccepted HasSpelling (λ c is. is.spelled) given judged.accepted

-- ---- programs that are narrowed

code_narrowed : (p : Program) (made : Option (List Bool)) (method : ℕ) (found : Option Code)
    → IfSome found (λ code. HasCode p method code × IsNarrow code) → IfSome found (λ code. HasCode (narrowed_to p made) method code × IsNarrow code)
unfolding method_info
code_narrowed p made method None own = tt
code_narrowed p made method (Some code) own = (record { inside = own.0.inside; body = own.0.body; spelled = own.0.spelled }, own.1)

typed_narrowed : (p : Program) (made : Option (List Bool)) (method : ℕ) (states : List (Option TypeState)) (found : Option Code)
    → IsSomeAnd found (λ code. IsTypingOf p method code states) → IsSomeAnd found (λ code. IsTypingOf (narrowed_to p made) method code states)
typed_narrowed p made method states None typing = typing
typed_narrowed p made method states (Some code) typing = other_typing p (narrowed_to p made) refl refl method code states typing

-- it may be analysed as the program may
analysable_narrowed : (p : Program) (made : Option (List Bool)) → AreAnalysable p → AreAnalysable (narrowed_to p made)
analysable_narrowed p made may = record {
  checkable = record {
    linked = record { tree = may.checkable.linked.tree; uses = may.checkable.linked.uses };
    codes = λ method. code_narrowed p made method (code_at p method) (may.checkable.codes method);
  };
  typed = λ method coded.
      let typed = may.typed method coded in (typed.0, typed_narrowed p made method typed.0 (code_at p method) typed.1);
  supported = may.supported;
  uses = record { members = may.uses.members; types = may.uses.types };
  built_ins = may.built_ins;
}

-- ---- programs that are judged

given_analysable : (given : List ClassDef) (p : Program) (judged : AreJudged given p) → AreAnalysable (program_of given judged.main)
given_analysable given p judged = accepted_are given judged.main judged.accepted judged.linked judged.typed

-- the program may be analysed
pub judged_analysable : (given : List ClassDef) (p : Program) → AreJudged given p → AreAnalysable p
judged_analysable given p judged =
    subst AreAnalysable (sym judged.program_is) (analysable_narrowed (program_of given judged.main) p.made (given_analysable given p judged))

-- its codes can be laid out again
pub judged_old : (given : List ClassDef) (p : Program) → AreJudged given p → HasOldItems p
judged_old given p judged method code is =
    have_old_items given judged.main (judged_spelled given p judged) (given_analysable given p judged) method code
    (sym (ap (λ (z : Program). code_at z method) judged.program_is) ∙ is)

-- the numbers of its classes and its methods, and what is planned for the methods of the given classes
pub record AreParts (given : List ClassDef) (p : Program) (done : List Planned) : Type 0 where
  pub classes : length p.outline.classes ≡ length built_in + length given
  pub methods : length (methods_of p.outline.classes) ≡ first_given + method_count given
  pub planned : length done ≡ first_given + method_count given
  pub one_each : length (drop first_given done) ≡ method_count given
  pub may : MayDoEach (drop first_given done) given
  pub flags : HaveFlags (drop first_given done) given
  pub counts : HaveCounts (drop first_given done) given

all_classes : (given : List ClassDef) (main : List ℕ) → length (program_of given main).outline.classes ≡ length built_in + length given
unfolding program_of outline_of classes_of
all_classes given main =
    length-append built_in (declared_from 0 given) ∙ ap (λ n. length built_in + n) (length-declared 0 given)

pub classes_counted : (given : List ClassDef) (main : List ℕ) (p : Program) → IsProgramOf given main p
    → length p.outline.classes ≡ length built_in + length given
classes_counted given main p program_is = ap (λ (z : Program). length z.outline.classes) program_is ∙ all_classes given main

pub parts_of : (given : List ClassDef) (p : Program) (done : List Planned) → AreJudged given p → (chains : Bool) × ArePlanned p chains done → AreParts given p done
parts_of given p done judged (chains, are) =
    let spelled = judged_spelled given p judged in
    let may = judged_analysable given p judged in
    let old = judged_old given p judged in
    let counted = methods_counted given judged.main p judged.program_is in
    let planned = all_planned given judged.main p judged.program_is chains done are in
    record {
      classes = classes_counted given judged.main p judged.program_is;
      methods = counted;
      planned = are.one_each ∙ counted;
      one_each = given_counted given judged.main p judged.program_is chains done are;
      may = may_do_each p are.facts may old chains first_given (drop first_given done) given spelled planned;
      flags = have_flags p are.facts may old chains first_given (drop first_given done) given planned;
      counts = have_counts p are.facts may old chains first_given (drop first_given done) given spelled planned;
    }

-- ---- what comes behind the methods of the built-in classes

pub own_done : (done : List Planned) (k : ℕ) → k ≡ first_given → take (length done - k) (drop k done) ≡ drop first_given done
own_done done k is = take_all (length done - k) (drop k done) (let left = length-drop k done in omega (arith, left)) ∙ ap (λ n. drop n done) is

-- ---- what becomes of the classes

pub comes_full : (class method : ℕ) (done : List Planned) (given : List ClassDef) (e : RewriteFail) → IsFullBy (first_full_by class done given) e
    → ComesBy class method done given (Err e)
comes_full class method done given (fail.CallsFree m offset) refused = absurd refused
comes_full class method done given (fail.PoolFull c indices) refused = refused
comes_full class method done given (fail.MethodTooLong m bytes) refused = absurd refused
comes_full class method done given fail.NoMemory refused = tt

pub comes_long : (class method : ℕ) (done : List Planned) (given : List ClassDef) (e : RewriteFail) → first_full_by class done given ≡ None
    → IsLongBy (first_long_by method done given) e → ComesBy class method done given (Err e)
comes_long class method done given (fail.CallsFree m offset) fit refused = absurd refused
comes_long class method done given (fail.PoolFull c indices) fit refused = absurd refused
comes_long class method done given (fail.MethodTooLong m bytes) fit refused = (fit, refused)
comes_long class method done given fail.NoMemory fit refused = tt

-- by the numbers and the plans that are meant
pub comes_as : (class class' method method' : ℕ) (done done' : List Planned) (given : List ClassDef) (result : Result Rewritten RewriteFail) → class ≡ class'
    → method ≡ method' → done ≡ done' → ComesBy class method done given result → ComesBy class' method' done' given result
comes_as class class' method method' done done' given result same_class same_method same_done comes =
    subst (λ d. ComesBy class' method' d given result) same_done
    (subst (λ m. ComesBy class' m done given result) same_method (subst (λ c. ComesBy c method done given result) same_class comes))
