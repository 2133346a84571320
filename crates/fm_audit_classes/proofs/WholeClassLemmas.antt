-- When a written class is the given one by what is to be done with its methods.
use Rattle.std.proofs.Common.{◌≡◌, sym, ◌∙◌, ap, subst, ℕ, ◌<◌, Bool, cond, false, true, List, length, IfOk, Result, Ok, Err, Some, arith}
use Rattle.std.proofs.lemmas.Option.{none-some}
use Rattle.fm_chain.specs.Chaining.{calls_for, entries_for}
use Rattle.fm_chain.specs.declared.calls.Calls.{Calls}
use Rattle.fm_code.specs.FreeEntries.{with_free}
use Rattle.fm_code.specs.Spells.{HasSpelling}
use Rattle.fm_code.specs.declared.class_file.ClassDef.{ClassDef}
use Rattle.fm_place_weave.specs.ClassByPlan.{class_by, first_long}
use Rattle.fm_place_weave.specs.declared.planned.Planned.{Planned}
use Rattle.fm_rewrite.specs.inner.ByPlans.{changes_by, rewritten_by}
use Rattle.fm_audit_classes.specs.inner.Compared.{MayBeCompared}
use Rattle.fm_audit_classes.specs.inner.Low.{are_low}

-- it stays as it is
pub whole_still : {E : Type 0} (done : List Planned) (class written : ClassDef) → changes_by done ≡ false → (r : Result Bool E)
    → IfOk r (λ same. written ≡ class → same ≡ true)
    → IfOk r (λ same. are_low done class.methods ≡ true → written ≡ rewritten_by done class → same ≡ true)
whole_still done class written still (Ok same) is = λ low by. is (by ∙ ap (λ b. cond b (class_by done class) class) still)
whole_still done class written still (Err e) is = tt

-- it is changed
pub whole_by : {E : Type 0} (done : List Planned) (class written : ClassDef) → changes_by done ≡ true → (r : Result Bool E)
    → IfOk r (λ same. are_low done class.methods ≡ true → written ≡ class_by done class → same ≡ true)
    → IfOk r (λ same. are_low done class.methods ≡ true → written ≡ rewritten_by done class → same ≡ true)
whole_by done class written changed (Ok same) is = λ low by. is low (by ∙ ap (λ b. cond b (class_by done class) class) changed)
whole_by done class written changed (Err e) is = tt

-- what is woven is the class by what is to be done
pub woven_whole : {E : Type 0} (done : List Planned) (class written woven : ClassDef) → woven ≡ class_by done class → (r : Result Bool E)
    → IfOk r (λ same. written ≡ woven → same ≡ true) → IfOk r (λ same. are_low done class.methods ≡ true → written ≡ class_by done class → same ≡ true)
woven_whole done class written woven woven_is (Ok same) is = λ low by. is (by ∙ sym woven_is)
woven_whole done class written woven woven_is (Err e) is = tt

-- ---- where bytes spell it

-- its pool isn't full
pub never_full : (done : List Planned) (class written : ClassDef) → MayBeCompared done class → HasSpelling written → written ≡ class_by done class
    → 65535 < length (with_free class.pool.entries) → ⊥
never_full done class written may spelled is full =
    let made : HasSpelling (class_by done class) = subst HasSpelling is spelled in
    let few : length (with_free class.pool.entries) < 65536 =
    subst (λ (chains : Bool). length (entries_for chains class.pool.entries) < 65536) may.plain made.1.pool.fits.count in
    omega (arith, few, full)

-- and none of its methods is too long
pub never_too_long : (done : List Planned) (class written : ClassDef) → MayBeCompared done class → HasSpelling written → written ≡ class_by done class
    → (calls : Calls) (at_place : ℕ × ℕ) → calls ≡ calls_for false class.pool.entries → first_long calls 0 done class.methods ≡ Some at_place → ⊥
never_too_long done class written may spelled is calls at_place calls_are long =
    none-some at_place
    (sym (may.fitting (subst HasSpelling is spelled)) ∙ ap (λ (own : Calls). first_long own 0 done class.methods) (sym calls_are) ∙ long)
