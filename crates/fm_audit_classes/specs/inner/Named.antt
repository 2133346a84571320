-- What is found of the first class that isn't the given one, codes aside, and of the first method that isn't as it has to be.
use Rattle.std.specs.Prelude.{◌≡◌, ℕ, true, false, List, ◌∷◌, Option, Some, None}
use Rattle.fm_audit.specs.declared.parts.Part.TheVariants as part
use Rattle.fm_code.specs.declared.class_file.ClassDef.{ClassDef}
use Rattle.fm_place_weave.specs.declared.planned.Planned.{Planned}
use Rattle.fm_rewrite.specs.inner.ByPlans.{changes_by, others, own, rewritten_by}
use Rattle.fm_audit_classes.specs.Parts.{class_codes, HasClass, HaveClasses, IsFirstOther}
use Rattle.fm_audit_classes.specs.declared.error.AuditFail.{AuditFail}
use Rattle.fm_audit_classes.specs.declared.error.AuditFail.TheVariants as fail
use Rattle.fm_audit_classes.specs.inner.Low.{are_low}

-- there is none, or it is at this place
abbrev pub IsOther : (given written : List ClassDef) → Option ℕ → Type 0
IsOther given written None = HaveClasses given written
IsOther given written (Some place) = IsFirstOther given written place

-- where a class has the codes of the given one, all its methods stay as they are
abbrev pub IsStill : List Planned → (given written : ClassDef) → Type 0
IsStill done c w = class_codes w ≡ class_codes c → changes_by done ≡ false

-- so it is with each class
abbrev pub AreStill : List Planned → (given written : List ClassDef) → Type 0
AreStill done (c ∷ given) (w ∷ written) = IsStill (own c done) c w × AreStill (others c done) given written
AreStill done given written = Unit {0}

-- where no method is found that isn't as it has to be, a class that has the first part is the given one by what is to be done with its methods
abbrev pub IsWholeIf : List Planned → (given written : ClassDef) → Option ℕ → Type 0
IsWholeIf done c w None = HasClass c w → IsStill done c w → (are_low done c.methods ≡ true) × (w ≡ rewritten_by done c)
IsWholeIf done c w (Some place) = Unit {0}

-- a refusal names this class, without a method, and the first part
abbrev pub NamesOnly : (class : ℕ) → AuditFail → Type 0
NamesOnly class (fail.NotSafe named method failed) = (named.0 ≡ class) × (method ≡ None) × (failed ≡ part.Classes)
NamesOnly class e = ⊥
