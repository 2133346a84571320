-- What an audit returns: that written classes are safe, or what it names.
use Rattle.std.proofs.Common.{◌≡◌, sym, ◌∙◌, ap, subst, ℕ, ◌+◌, ◌<◌, ◌≤◌, List, length, map, drop, Option, Some, None, Result, Ok, Err, OnOk, arith}
use Rattle.std.specs.Prelude.{IfErr}
use Rattle.std.specs.List.{AllByRecursion}
use Rattle.std.proofs.lemmas.Option.{none-some}
use Rattle.fm_base.specs.declared.ids.MethodId.{MethodId}
use Rattle.fm_code.specs.Spells.{HasSpelling}
use Rattle.fm_code.specs.declared.class_file.ClassDef.{ClassDef}
use Rattle.fm_place.specs.Rewriting.{first_given}
use Rattle.fm_place_weave.specs.declared.planned.Planned.{Planned}
use Rattle.fm_rewrite.proofs.JudgedLemmas.{classes_counted}
use Rattle.fm_rewrite.proofs.ProgramMeantLemmas.{methods_counted}
use Rattle.fm_rewrite.specs.FreeCalls.{first_call}
use Rattle.fm_rewrite.specs.Rewritten.{AreJudged}
use Rattle.fm_rewrite.specs.inner.ByPlans.{classes_by, method_count}
use Rattle.fm_world.specs.BuiltIns.{built_in}
use Rattle.fm_world.specs.Members.{methods_of}
use Rattle.fm_world.specs.Programs.{Program, program_of}
use Rattle.fm_audit.specs.NewCodes.{AllStay}
use Rattle.fm_audit.specs.SafeMethods.{AreSafelyInserted, AreSafelyJudged}
use Rattle.fm_audit.specs.declared.methods.NewCode.{NewCode}
use Rattle.fm_audit.specs.declared.parts.Part.{Part}
use Rattle.fm_audit_classes.proofs.AuditedLemmas.{audited}
use Rattle.fm_audit_classes.proofs.PlannedSafeLemmas.{first_unsafe}
use Rattle.fm_audit_classes.proofs.UnsafeLemmas.{never_safe}
use Rattle.fm_audit_classes.specs.Audited.{ComesOfAudit, NoneIsSafe}
use Rattle.fm_audit_classes.specs.Parts.{HaveClasses, IsFirstOther}
use Rattle.fm_audit_classes.specs.declared.error.AuditFail.{AuditFail}
use Rattle.fm_audit_classes.specs.declared.error.AuditFail.TheVariants as fail
use Rattle.fm_audit_classes.specs.inner.Codes.{pair_of, written_codes}
use Rattle.fm_audit_classes.specs.inner.Methods.{NamesFirst, NamesPart}
use Rattle.fm_audit_classes.specs.inner.Named.{NamesOnly}
use Rattle.fm_audit_classes.specs.inner.Found.{AreWhollyWritten, ComesOfJudged, IsFalseOf, IsFirstRefusal, IsFound, IsNamed, IsNamedFirst, IsRefused}

-- ---- how many there are

pub classes_judged : (given : List ClassDef) (p : Program) → AreJudged given p → length p.outline.classes ≡ length built_in + length given
classes_judged given p judged = classes_counted given judged.main p judged.program_is

pub methods_judged : (given : List ClassDef) (p : Program) → AreJudged given p → length (methods_of p.outline.classes) ≡ first_given + method_count given
methods_judged given p judged = methods_counted given judged.main p judged.program_is

-- ---- what is returned

module _ (given : List ClassDef) (p : Program) (new : List NewCode) (done : List Planned) (written : List ClassDef) (judged : AreJudged given p)
    (failing : List Part) (safely : AreSafelyJudged p new failing done) (stay : AllStay p new done) (count : length new ≡ method_count given) (spelled : AllByRecursion HasSpelling written)
    (codes : map pair_of new ≡ written_codes given written) where
  abbrev are : AreSafelyInserted p new done
  are = safely.safe

  abbrev unsafe : (AreWhollyWritten (drop first_given done) given written → ⊥) → NoneIsSafe p given written
  unsafe never = record {
    facts = are.facts;
    exact = are.exact;
    least = are.least;
    none = never_safe given p new done judged are stay count written spelled codes never;
  }

  refused_by : (e : AuditFail) → IsFound (length p.outline.classes) (length (methods_of p.outline.classes)) e
      → IsFalseOf (AreWhollyWritten (drop first_given done) given written) e → NamesFirst (length built_in) first_given (drop first_given done) given written e
      → NamesPart failing e → IsRefused p given written e
  refused_by (fail.CallsFree method offset) found never names by = absurd found
  refused_by (fail.NotSafe class None part) found never names by =
      record { class_inside = found.0; method_inside = found.1; unsafe = unsafe never; first = names }
  refused_by (fail.NotSafe class (Some method) part) found never names by = record {
    class_inside = found.0;
    method_inside = found.1;
    unsafe = unsafe never;
    first = λ have. first_unsafe given p new done judged are stay count written spelled codes failing safely.judged have class.0 method.0 part by (names have);
  }
  refused_by fail.NoMemory found never names by = tt

-- where plans insert what is safe, and all of it
pub comes_of_judged : (given : List ClassDef) (p : Program) (new : List NewCode) (done : List Planned) (written : List ClassDef) → AreJudged given p
    → (failing : List Part) → AreSafelyJudged p new failing done → AllStay p new done → length new ≡ method_count given → AllByRecursion HasSpelling written
    → map pair_of new ≡ written_codes given written → (r : Result Unit AuditFail) → OnOk r (written ≡ classes_by (drop first_given done) given)
    → IfErr r (IsFound (length p.outline.classes) (length (methods_of p.outline.classes)))
    → IfErr r (IsFalseOf (AreWhollyWritten (drop first_given done) given written))
    → IfErr r (NamesFirst (length built_in) first_given (drop first_given done) given written) → IfErr r (NamesPart failing) → ComesOfJudged p given written r
comes_of_judged given p new done written judged failing safely stay count spelled codes (Ok tested) is found never names by = λ no_call main program_is.
    audited given p new done written judged safely.safe no_call is main program_is
comes_of_judged given p new done written judged failing safely stay count spelled codes (Err e) is found never names by =
    refused_by given p new done written judged failing safely stay count spelled codes e found never names by

-- ---- what is named

pub not_written : (p : Program) (given : List ClassDef) (main : List ℕ) (written : List ClassDef) (e : AuditFail) → first_call p ≡ None
    → IsFirstRefusal p given written e → p ≡ program_of given main → ComesOfAudit given main written (Err e)
not_written p given main written e none refused is = by_cause e (subst (λ (q : Program). IsFirstRefusal q given written e) is refused) where
  by_cause : (e : AuditFail) → IsFirstRefusal (program_of given main) given written e → ComesOfAudit given main written (Err e)
  by_cause (fail.CallsFree method offset) named = absurd named
  by_cause (fail.NotSafe class method part) named = record {
    no_call = ap first_call (sym is) ∙ none;
    class_inside = named.class_inside;
    method_inside = named.method_inside;
    unsafe = named.unsafe;
    named = named.named;
  }
  by_cause fail.NoMemory named = tt

-- no class is found that isn't the given one
pub named_same : (p : Program) (given written : List ClassDef) (class : ℕ) (method : Option MethodId) (part : Part) → HaveClasses given written
    → IsNamed p given written class method part → IsNamedFirst p given written class method part
named_same p given written class None part have named = absurd (named.first have)
named_same p given written class (Some method) part have named = record {
  class_inside = named.class_inside;
  method_inside = named.method_inside;
  unsafe = named.unsafe;
  named = (have, named.first have);
}

-- the first one is found
pub named_first : (p : Program) (given written : List ClassDef) (place number class : ℕ) (method : Option MethodId) (own : Part) (e : AuditFail)
    → IsFirstOther given written place → AreJudged given p → number ≡ length built_in + place → IsNamed p given written class method own → NamesOnly number e
    → IsFirstRefusal p given written e
named_first p given written place number class method own (fail.CallsFree named offset) first judged place_is refused names = absurd names
named_first p given written place number class method own (fail.NotSafe named None part) first judged place_is refused names =
    let all = classes_judged given p judged in
    record {
      class_inside = (let is = names.0 in let inside = first.inside in omega (arith, is, place_is, inside, all));
      method_inside = tt;
      unsafe = refused.unsafe;
      named = (names.2, record { place = place; number = names.0 ∙ place_is; first = first });
    }
named_first p given written place number class method own (fail.NotSafe named (Some other) part) first judged place_is refused names =
    absurd (none-some other (sym names.1))
named_first p given written place number class method own fail.NoMemory first judged place_is refused names = absurd names

-- what is named among fewer is named among more
pub found_within : (classes more_classes methods more_methods : ℕ) (e : AuditFail) → classes ≤ more_classes → methods ≤ more_methods
    → IsFound classes methods e → IsFound more_classes more_methods e
found_within classes more_classes methods more_methods (fail.CallsFree method offset) fewer less found = absurd found
found_within classes more_classes methods more_methods (fail.NotSafe class None part) fewer less found = (
  let inside : class.0 < classes = found.0 in omega (arith, inside, fewer),
  tt,
)
found_within classes more_classes methods more_methods (fail.NotSafe class (Some method) part) fewer less found = (
  let inside : class.0 < classes = found.0 in omega (arith, inside, fewer),
  let inside : method.0 < methods = found.1 in omega (arith, inside, less),
)
found_within classes more_classes methods more_methods fail.NoMemory fewer less found = tt

pub found_within_err : (classes more_classes methods more_methods : ℕ) (r : Result Unit AuditFail) → classes ≤ more_classes → methods ≤ more_methods
    → IfErr r (IsFound classes methods) → IfErr r (IsFound more_classes more_methods)
found_within_err classes more_classes methods more_methods (Ok tested) fewer less found = tt
found_within_err classes more_classes methods more_methods (Err e) fewer less found =
    found_within classes more_classes methods more_methods e fewer less found
