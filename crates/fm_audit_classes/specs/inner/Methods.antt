-- What is found of single methods of written classes, by what is to be done with them.
use Rattle.std.specs.Prelude.{◌≡◌, ℕ, ◌+◌, ◌<◌, ◌≤◌, true, List, length, Option, Some, None, IfSome, slice_get}
use Rattle.std.specs.Option.{option_map}
use Rattle.fm_chain.specs.declared.calls.Calls.{Calls}
use Rattle.fm_code.specs.Members.{code_of}
use Rattle.fm_code.specs.declared.class_file.ClassDef.{ClassDef}
use Rattle.fm_code.specs.declared.class_file.Member.{Member}
use Rattle.fm_code.specs.declared.code_array.Code.{Code}
use Rattle.fm_code.specs.declared.code_array.TheConstants.{MAX_CODE_BYTES}
use Rattle.fm_place_weave.specs.ByPlan.{code_by}
use Rattle.fm_place_weave.specs.ClassByPlan.{MayDo}
use Rattle.fm_place_weave.specs.declared.planned.Planned.{Planned}
use Rattle.fm_place_weave.specs.declared.planned.Planned.TheVariants as planned
use Rattle.fm_rewrite.specs.Plans.{planned_at}
use Rattle.fm_audit.specs.SafeMethods.{failing_at}
use Rattle.fm_audit.specs.declared.parts.Part.{Part}
use Rattle.fm_audit_classes.specs.Parts.{all_methods, HaveClasses, WrittenMethod}
use Rattle.fm_audit_classes.specs.declared.error.AuditFail.{AuditFail}
use Rattle.fm_audit_classes.specs.declared.error.AuditFail.TheVariants as fail
use Rattle.fm_audit_classes.specs.inner.Low.{is_low, is_low_in}

-- ---- one method

-- its new code is the old one by what is to be done with it, and there is room for that
abbrev pub IsAsPlanned : Calls → Planned → (old new : Option Code) → Type 0
IsAsPlanned calls planned.Same old new = new ≡ old
IsAsPlanned calls (planned.Woven plan) old new =
    (is_low_in plan.plan old ≡ true) × (new ≡ option_map (λ (code : Code). code_by calls code plan) old)
IsAsPlanned calls (planned.TooLong bytes chains) old new = ⊥

-- its code, if it has one, has no more bytes than there may be
abbrev pub HasShortCode : Member → Type 0
HasShortCode m = IfSome (code_of m) (λ (code : Code). code.length ≤ MAX_CODE_BYTES)

-- ---- the methods of a class

-- where there is room for what is to be done with a method, it may be done
abbrev pub MayDoEach : Calls → List Planned → List Member → Type 0
MayDoEach calls done methods =
    (place : ℕ) (m : Member) → slice_get methods place ≡ Some m → is_low (planned_at done place) m ≡ true → MayDo calls (planned_at done place) m

-- the method at a place has the code that it has to have
abbrev pub IsAsPlannedAt : Calls → List Planned → (old new : List Member) → (place : ℕ) → Type 0
IsAsPlannedAt calls done old new place =
    (m v : Member) → slice_get old place ≡ Some m → slice_get new place ≡ Some v → IsAsPlanned calls (planned_at done place) (code_of m) (code_of v)

-- this is the first place of a method that hasn't, or isn't there
pub record IsFirstIn (calls : Calls) (done : List Planned) (old new : List Member) (place : ℕ) : Type 0 where
  pub inside : place < length old
  pub earlier : (k : ℕ) → k < place → IsAsPlannedAt calls done old new k
  pub fails : (m v : Member) → slice_get old place ≡ Some m → slice_get new place ≡ Some v
      → IsAsPlanned calls (planned_at done place) (code_of m) (code_of v) → ⊥

-- there is none, or it is this one
abbrev pub IsFirstOf : Calls → List Planned → (old new : List Member) → Option ℕ → Type 0
IsFirstOf calls done old new None = (place : ℕ) → place < length old → IsAsPlannedAt calls done old new place
IsFirstOf calls done old new (Some place) = IsFirstIn calls done old new place

-- ---- all methods

-- by the entry of FreeMe.free alone, without those of chains
abbrev pub free_calls : ℕ → Calls
free_calls free = record { free = free; link = 0; free_chain = 0 }

-- a method's new code is as it has to be
abbrev pub IsPlannedWell : Planned → WrittenMethod → Type 0
IsPlannedWell done m = IsAsPlanned (free_calls m.free) done m.old m.new

-- this is the first method whose new code isn't, with its class, where these are the numbers of the first class and of its first method
pub record IsFirstPlanned (first_class first_method : ℕ) (done : List Planned) (given written : List ClassDef) (class method : ℕ) : Type 0 where
  pub place : ℕ
  pub own : WrittenMethod
  pub is : slice_get (all_methods first_class given written) place ≡ Some own
  pub class_is : class ≡ own.class
  pub method_is : method ≡ first_method + place
  pub earlier : (k : ℕ) (m : WrittenMethod) → k < place → slice_get (all_methods first_class given written) k ≡ Some m → IsPlannedWell (planned_at done k) m
  pub fails : IsPlannedWell (planned_at done place) own → ⊥

-- where this holds, a refusal of classes names a method, and that holds of the number of its class and its own
abbrev pub NamesSo : Type 0 → (F : (class method : ℕ) → Type 0) → AuditFail → Type 0
NamesSo P F (fail.NotSafe class None part) = P → ⊥
NamesSo P F (fail.NotSafe class (Some method) part) = P → F class.0 method.0
NamesSo P F e = Unit {0}

-- where each class has the first part, it names that method
abbrev pub NamesFirst : (first_class first_method : ℕ) → List Planned → (given written : List ClassDef) → AuditFail → Type 0
NamesFirst first_class first_method done given written e =
    NamesSo (HaveClasses given written) (IsFirstPlanned first_class first_method done given written) e

-- where a method is found, of which there are this many, a refusal names this class, and the method by the number of the first one
abbrev pub NamesOf : (class first count : ℕ) → Option ℕ → AuditFail → Type 0
NamesOf class first count None e = Unit {0}
NamesOf class first count (Some place) (fail.NotSafe named (Some method) part) = place < count → (named.0 ≡ class) × (method.0 ≡ first + place)
NamesOf class first count (Some place) e = place < count → ⊥

-- a method is named with the part that it fails, by the list of these
abbrev pub NamesPart : (failing : List Part) → AuditFail → Type 0
NamesPart failing (fail.NotSafe class (Some method) failed) = failed ≡ failing_at failing method.0
NamesPart failing e = Unit {0}
