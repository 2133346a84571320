-- One class more, in the loop that compares classes.
use Rattle.std.proofs.Common.{◌≡◌, sym, ◌∙◌, ap, subst, ℕ, ◌+◌, ◌<◌, Bool, true, List, ◌∷◌, length, drop, get_or, Result, Ok, Err, IfOk, IsTrue}
use Rattle.std.specs.List.{AllByRecursion}
use Rattle.fm_base.proofs.ListFacts.{drop_here, same_head, same_tail}
use Rattle.fm_code.specs.Spells.{HasSpelling}
use Rattle.fm_code.specs.declared.class_file.ClassDef.{ClassDef}
use Rattle.fm_place_weave.specs.declared.planned.Planned.{Planned}
use Rattle.fm_audit_classes.specs.declared.error.AuditFail.{AuditFail}
use Rattle.fm_audit_classes.specs.declared.error.AuditFail.TheVariants as fail
use Rattle.fm_audit_classes.specs.inner.Found.{AreLowEach, AreWhollyWritten, IsFalseOf}
use Rattle.fm_audit_classes.specs.inner.Low.{are_low}
use Rattle.fm_audit_classes.specs.inner.Named.{AreStill, IsStill}
use Rattle.fm_rewrite.specs.inner.ByPlans.{classes_by, others, own, rewritten_by}

-- where a class is the written one, and so are those that are left, all are
pub written_more : (classes written : List ClassDef) (place : ℕ) (class new : ClassDef) (done : List Planned) → place < length classes → place < length written
    → class ≡ get_or classes place class → new ≡ get_or written place new → new ≡ rewritten_by (own class done) class
    → drop (place + 1) written ≡ classes_by (others class done) (drop (place + 1) classes) → drop place written ≡ classes_by done (drop place classes)
written_more classes written place class new done within inside class_is new_is same rest =
    drop_here written place new inside new_is ∙ (λ k. same k ∷ rest k) ∙ sym (ap (λ cs. classes_by done cs) (drop_here classes place class within class_is))

-- the classes that are left have spellings
pub spelled_more : (written : List ClassDef) (place : ℕ) (new : ClassDef) → place < length written → new ≡ get_or written place new
    → AllByRecursion HasSpelling (drop place written) → AllByRecursion HasSpelling (new ∷ drop (place + 1) written)
spelled_more written place new inside is spelled = subst (AllByRecursion HasSpelling) (drop_here written place new inside is) spelled

-- where all are written by what is to be done, there is room in this one, it is the written one, and so it is with those that are left
pub record IsWholeStep (classes written : List ClassDef) (place : ℕ) (class new : ClassDef) (done : List Planned) : Type 0 where
  pub low : are_low (own class done) class.methods ≡ true
  pub same : new ≡ rewritten_by (own class done) class
  pub more : AreWhollyWritten (others class done) (drop (place + 1) classes) (drop (place + 1) written)

pub whole_more : (classes written : List ClassDef) (place : ℕ) (class new : ClassDef) (done : List Planned) → place < length classes → place < length written
    → class ≡ get_or classes place class → new ≡ get_or written place new → AreWhollyWritten done (drop place classes) (drop place written)
    → IsWholeStep classes written place class new done
whole_more classes written place class new done within inside class_is new_is whole =
    let old_cut = drop_here classes place class within class_is in
    let new_cut = drop_here written place new inside new_is in
    let low = subst (AreLowEach done) old_cut whole.low in
    let same : new ∷ drop (place + 1) written ≡ rewritten_by (own class done) class ∷ classes_by (others class done) (drop (place + 1) classes) =
    sym new_cut ∙ whole.same ∙ ap (λ cs. classes_by done cs) old_cut in
    record {
      low = low.0;
      same = same_head new (rewritten_by (own class done) class) (drop (place + 1) written) (classes_by (others class done) (drop (place + 1) classes)) same;
      more = record {
        low = low.1;
        same = same_tail new (rewritten_by (own class done) class) (drop (place + 1) written) (classes_by (others class done) (drop (place + 1) classes)) same;
      };
    }

-- and where each class that has its codes stays as it is, so do this one and those that are left
pub still_more : (classes written : List ClassDef) (place : ℕ) (class new : ClassDef) (done : List Planned) → place < length classes → place < length written
    → class ≡ get_or classes place class → new ≡ get_or written place new → AreStill done (drop place classes) (drop place written)
    → IsStill (own class done) class new × AreStill (others class done) (drop (place + 1) classes) (drop (place + 1) written)
still_more classes written place class new done within inside class_is new_is still =
    subst (λ (q : List ClassDef × List ClassDef). AreStill done q.0 q.1)
    (λ k. (drop_here classes place class within class_is k, drop_here written place new inside new_is k)) still

-- a refusal says that something doesn't hold, where it doesn't
pub false_of : (P : Type 0) (e : AuditFail) → (P → ⊥) → IsFalseOf P e
false_of P (fail.CallsFree method offset) never = tt
false_of P (fail.NotSafe class method part) never = never
false_of P fail.NoMemory never = tt

-- what holds anyway, where a test succeeds
pub always_ok : {E P : Type 0} (r : Result Bool E) → P → IfOk r (λ same. IsTrue same → P)
always_ok (Ok same) holds = λ is. holds
always_ok (Err e) holds = tt
