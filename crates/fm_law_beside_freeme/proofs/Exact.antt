-- What comes of class files by one set of exact facts comes of them by another.
use Rattle.std.proofs.Common.{◌≡◌, sym, ◌∙◌, ap, ℕ, false, List, [], ◌++◌, replicate, Option}
use Rattle.std.proofs.lemmas.Option.{none-some, same_Some}
use Rattle.fm_code.specs.declared.class_file.ClassDef.{ClassDef}
use Rattle.fm_place.specs.Rewriting.{first_given, marks_with, Plans, rewritten}
use Rattle.fm_place.specs.Safe.{full_plans}
use Rattle.fm_rewrite.specs.Causes.{AreNotWoven, first_cause}
use Rattle.fm_rewrite.specs.Rewritten.{AreRewrittenOf, counts_of}
use Rattle.fm_rewrite.specs.declared.error.RewriteFail.{RewriteFail}
use Rattle.fm_rewrite.specs.declared.rewriting.Rewritten.{Rewritten}
use Rattle.fm_law_beside_freeme.proofs.LeastFacts.{plans_same}
use Rattle.fm_law_beside_freeme.proofs.PlainChains.{cause_plain}
use Rattle.fm_law_beside_freeme.proofs.PlainPlans.{classes_plain, counts_plain, marks_plain, plains}
use Rattle.fm_law_beside_freeme.specs.Exact.{AreLeastFacts, LeastFactsServeAlike, RefusedForOneCause, ServeAlike, WrittenInOneWay, WrittenOrRefused}
use Rattle.fm_world.specs.Programs.{Program}

-- plans that differ only in the numbers of their holders' classes serve alike
pub plain_serve_alike : (given : List ClassDef) (plans others : Plans) → ((method : ℕ) → plains plans method ≡ plains others method) → ServeAlike given plans others
plain_serve_alike given plans others same = record {
  written = sym (classes_plain plans first_given given) ∙ ap (λ (p : Plans). rewritten p given) all ∙ classes_plain others first_given given;
  marks = marks_are plans ∙ ap (λ (p : Plans). marks_with p given) all ∙ sym (marks_are others);
  counts = sym (counts_plain plans first_given given) ∙ ap (λ (p : Plans). counts_of p given) all ∙ counts_plain others first_given given;
  cause = sym (cause_plain plans given) ∙ ap (λ (p : Plans). first_cause p given) all ∙ cause_plain others given;
} where
  all : plains plans ≡ plains others
  all = λ k method. same method k

  marks_are : (own : Plans) → marks_with own given ≡ marks_with (plains own) given
  marks_are own = sym (ap (λ (marks : List (List (Option ℕ))). replicate first_given [] ++ marks) (marks_plain own first_given given))

pub serve_alike : LeastFactsServeAlike
serve_alike given p facts others first second =
    plain_serve_alike given (full_plans p facts) (full_plans p others) (plans_same p facts others first second)

-- the facts by which classes are written
written_by : (given : List ClassDef) (p : Program) (made : Rewritten) (is : AreRewrittenOf p given made) → AreLeastFacts p is.full.facts
written_by given p made is = record { exact = is.full.exact; least = is.least }

-- those by which they are refused
refused_by : (given : List ClassDef) (p : Program) (cause : RewriteFail) (is : AreNotWoven false p given cause) → AreLeastFacts p is.facts
refused_by given p cause is = record { exact = is.exact; least = is.least }

pub written_in_one_way : WrittenInOneWay
written_in_one_way given p made other one another =
    let alike : ServeAlike given (full_plans p one.full.facts) (full_plans p another.full.facts) =
    serve_alike given p one.full.facts another.full.facts (written_by given p made one) (written_by given p other another) in (
      one.full.written_is ∙ alike.written ∙ sym another.full.written_is,
      one.counts_are ∙ alike.counts ∙ sym another.counts_are,
    )

pub written_or_refused : WrittenOrRefused
written_or_refused given p made cause one another =
    let alike : ServeAlike given (full_plans p one.full.facts) (full_plans p another.facts) =
    serve_alike given p one.full.facts another.facts (written_by given p made one) (refused_by given p cause another) in
    none-some cause (sym one.no_cause ∙ alike.cause ∙ another.first)

pub refused_for_one_cause : RefusedForOneCause
refused_for_one_cause given p cause other one another =
    let alike : ServeAlike given (full_plans p one.facts) (full_plans p another.facts) =
    serve_alike given p one.facts another.facts (refused_by given p cause one) (refused_by given p other another) in
    same_Some _ _ (sym one.first ∙ alike.cause ∙ another.first)
