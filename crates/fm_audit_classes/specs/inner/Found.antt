-- What a refusal of written classes names, and when there is one.
use Rattle.std.specs.Prelude.{◌≡◌, ◌<◌, ℕ, true, List, [], ◌∷◌, length, None, Some, Option, IfSome, Result, Ok, Err}
use Rattle.fm_base.specs.declared.ids.MethodId.{MethodId}
use Rattle.fm_code.specs.declared.class_file.ClassDef.{ClassDef}
use Rattle.fm_conn.specs.Facts.{Facts}
use Rattle.fm_place_weave.specs.declared.planned.Planned.{Planned}
use Rattle.fm_rewrite.specs.FreeCalls.{first_call}
use Rattle.fm_rewrite.specs.inner.ByPlans.{classes_by, others, own}
use Rattle.fm_world.specs.Members.{methods_of}
use Rattle.fm_world.specs.Programs.{Program, program_of}
use Rattle.fm_audit.specs.declared.parts.Part.{Part}
use Rattle.fm_audit_classes.specs.Audited.{AreSafelyWritten, NoneIsSafe}
use Rattle.fm_audit_classes.specs.Parts.{HaveClasses, IsFirstNamed, IsFirstUnsafe}
use Rattle.fm_audit_classes.specs.declared.error.AuditFail.{AuditFail}
use Rattle.fm_audit_classes.specs.declared.error.AuditFail.TheVariants as fail
use Rattle.fm_audit_classes.specs.inner.Low.{are_low}

-- it names one of this many classes, and one of this many methods or none
abbrev pub IsFound : (classes methods : ℕ) → AuditFail → Type 0
IsFound classes methods (fail.CallsFree method offset) = ⊥
IsFound classes methods (fail.NotSafe class method part) = (class.0 < classes) × IfSome method (λ m. m.0 < methods)
IsFound classes methods fail.NoMemory = Unit {0}

-- where classes are refused, this doesn't hold
abbrev pub IsFalseOf : Type 0 → AuditFail → Type 0
IsFalseOf P (fail.CallsFree method offset) = Unit {0}
IsFalseOf P (fail.NotSafe class method part) = P → ⊥
IsFalseOf P fail.NoMemory = Unit {0}

-- there is room in all methods of these classes
abbrev pub AreLowEach : List Planned → List ClassDef → Type 0
AreLowEach done [] = Unit {0}
AreLowEach done (c ∷ classes) = (are_low (own c done) c.methods ≡ true) × AreLowEach (others c done) classes

-- the written classes are the given ones by what is to be done with their methods, and there is room in these
pub record AreWhollyWritten (done : List Planned) (given written : List ClassDef) : Type 0 where
  pub low : AreLowEach done given
  pub same : written ≡ classes_by done given

-- where each class has the first part, a method is named, the first one that isn't safe by these facts
abbrev pub IsFirstMethod : Program → Facts → (given written : List ClassDef) → (class : ℕ) → Option MethodId → Part → Type 0
IsFirstMethod p facts given written class None failed = HaveClasses given written → ⊥
IsFirstMethod p facts given written class (Some method) failed = HaveClasses given written → IsFirstUnsafe p facts given written class method.0 failed

-- what is named is there, and no safe insertions give the written classes
pub record IsNamed (p : Program) (given written : List ClassDef) (class : ℕ) (method : Option MethodId) (failed : Part) : Type 0 where
  pub class_inside : class < length p.outline.classes
  pub method_inside : IfSome method (λ m. m.0 < length (methods_of p.outline.classes))
  pub unsafe : NoneIsSafe p given written
  pub first : IsFirstMethod p unsafe.facts given written class method failed

-- so it is with a refusal
abbrev pub IsRefused : Program → (given written : List ClassDef) → AuditFail → Type 0
IsRefused p given written (fail.CallsFree method offset) = ⊥
IsRefused p given written (fail.NotSafe class method part) = IsNamed p given written class.0 method part
IsRefused p given written fail.NoMemory = Unit {0}

-- the same, but what is named is the first one
pub record IsNamedFirst (p : Program) (given written : List ClassDef) (class : ℕ) (method : Option MethodId) (failed : Part) : Type 0 where
  pub class_inside : class < length p.outline.classes
  pub method_inside : IfSome method (λ m. m.0 < length (methods_of p.outline.classes))
  pub unsafe : NoneIsSafe p given written
  pub named : IsFirstNamed p unsafe.facts given written class method failed

-- so it is with a refusal
abbrev pub IsFirstRefusal : Program → (given written : List ClassDef) → AuditFail → Type 0
IsFirstRefusal p given written (fail.CallsFree method offset) = ⊥
IsFirstRefusal p given written (fail.NotSafe class method failed) = IsNamedFirst p given written class.0 method failed
IsFirstRefusal p given written fail.NoMemory = Unit {0}

-- where the program doesn't call FreeMe, the written classes are safe, or they are refused
abbrev pub ComesOfJudged : Program → (given written : List ClassDef) → Result Unit AuditFail → Type 0
ComesOfJudged p given written (Ok done) = first_call p ≡ None → (main : List ℕ) → p ≡ program_of given main → AreSafelyWritten given main written
ComesOfJudged p given written (Err e) = IsRefused p given written e
