-- When a written class has the first part of what makes it a safe insertion into a given one: it is the given one, the codes of its methods aside; when a
-- method's new code is its old one with what is safe to insert; and that the first class or method of which this doesn't hold is named.
use Rattle.std.specs.Prelude.{◌≡◌, ◌+◌, ◌++◌, ◌⊎◌, ◌<◌, ◌≤◌, ℕ, List, [], ◌∷◌, length, map, Option, Some, None, slice_get}
use Rattle.fm_audit.specs.SafeParts.{FailsPart}
use Rattle.fm_audit.specs.declared.parts.Part.{Part}
use Rattle.fm_audit.specs.declared.parts.Part.TheVariants as part
use Rattle.fm_base.specs.declared.ids.MethodId.{MethodId}
use Rattle.fm_base.specs.declared.limits.TheConstants.{MAX_STACK_WORDS}
use Rattle.fm_code.specs.FreeEntries.{with_free}
use Rattle.fm_code.specs.Members.{code_of}
use Rattle.fm_code.specs.declared.class_file.ClassDef.{ClassDef}
use Rattle.fm_code.specs.declared.class_file.Member.{Member}
use Rattle.fm_code.specs.declared.class_file.MemberAttr.{MemberAttr}
use Rattle.fm_code.specs.declared.class_file.MemberAttr.TheVariants as attribute
use Rattle.fm_code.specs.declared.code_array.Code.{Code}
use Rattle.fm_code.specs.declared.code_array.Item.{Item}
use Rattle.fm_conn.specs.Facts.{Facts}
use Rattle.fm_conn.specs.Links.{typed_method}
use Rattle.fm_place.specs.Insertions.{Insertions}
use Rattle.fm_place.specs.Rewriting.{first_given, free_index, rewritten_major}
use Rattle.fm_place.specs.Safe.{IsSafeMethod}
use Rattle.fm_place.specs.Woven.{woven_code}
use Rattle.fm_world.specs.BuiltIns.{built_in}
use Rattle.fm_world.specs.Programs.{Program}

-- ---- codes aside

-- one code that is put in the place of each
abbrev pub no_code : Code
no_code = record { max_stack = 0; max_locals = 0; items = []; length = 0; handlers = []; attributes = [] }

-- an attribute of a method, but for its code
abbrev pub bare_attribute : MemberAttr → MemberAttr
bare_attribute (attribute.Coded name code) = attribute.Coded name no_code
bare_attribute a = a

-- a method, but for its code
abbrev pub bare_method : Member → Member
bare_method m = record m { attributes = map bare_attribute m.attributes }

-- a class, but for the codes of its methods
abbrev pub bare_class : ClassDef → ClassDef
bare_class c = record c { methods = map bare_method c.methods }

-- the items of a code, if there is one
abbrev pub code_items : Option Code → List Item
code_items None = []
code_items (Some code) = code.items

-- the codes of its methods
abbrev pub class_codes : ClassDef → List (Option Code)
class_codes c = map code_of c.methods

-- ---- the first part

-- with the version of a changed class, and with the entries of FreeMe.free
abbrev pub with_entries : ClassDef → ClassDef
with_entries c = record c { minor = 0; major = rewritten_major; pool = record { entries = with_free c.pool.entries } }

-- a class whose codes are those of the given one is the given one; else it is a changed one, but for the codes of its methods
pub record HasClass (given written : ClassDef) : Type 0 where
  pub same : class_codes written ≡ class_codes given → written ≡ given
  pub changed : (class_codes written ≡ class_codes given → ⊥) → bare_class written ≡ bare_class (with_entries given)

-- so it is with those at this place
abbrev pub HasClassAt : (given written : List ClassDef) → (place : ℕ) → Type 0
HasClassAt given written place = (c w : ClassDef) → slice_get given place ≡ Some c → slice_get written place ≡ Some w → HasClass c w

-- the class at this place is the first one that hasn't
pub record IsFirstOther (given written : List ClassDef) (place : ℕ) : Type 0 where
  pub inside : place < length given
  pub earlier : (k : ℕ) → k < place → HasClassAt given written k
  pub fails : HasClassAt given written place → ⊥

-- each of them has
abbrev pub HaveClasses : (given written : List ClassDef) → Type 0
HaveClasses given written = (place : ℕ) → place < length given → HasClassAt given written place

-- ---- methods

-- a method of a class file that was given: the number of its class, the index of FreeMe.free there when the class has its entries, its code if it has one, and
-- the code that was written for it
pub record WrittenMethod : Type 0 where
  pub class : ℕ
  pub free : ℕ
  pub old : Option Code
  pub new : Option Code

-- those of a class, in their order
abbrev pub class_methods : (class free : ℕ) → (given written : List Member) → List WrittenMethod
class_methods class free (m ∷ given) (v ∷ written) =
    record { class = class; free = free; old = code_of m; new = code_of v } ∷ class_methods class free given written
class_methods class free given written = []

-- those of classes, of which the first has this number
abbrev pub all_methods : (class : ℕ) → (given written : List ClassDef) → List WrittenMethod
all_methods class (c ∷ given) (w ∷ written) = class_methods class (free_index c) c.methods w.methods ++ all_methods (class + 1) given written
all_methods class given written = []

-- the new code of the method with this number is the old one with insertions that are safe by these facts, and its stack may have a word more
pub record IsSafelyWoven (p : Program) (facts : Facts) (method : ℕ) (m : WrittenMethod) : Type 0 where
  pub code : Code
  pub old : m.old ≡ Some code
  pub plan : Insertions
  pub safe : IsSafeMethod p facts method plan
  pub stack : code.max_stack + 1 ≤ MAX_STACK_WORDS
  pub new : m.new ≡ Some (woven_code m.free code plan)

-- a method is safe where it is as it was, or so
abbrev pub IsSafeNew : Program → Facts → (method : ℕ) → WrittenMethod → Type 0
IsSafeNew p facts method m = (m.new ≡ m.old) ⊎ IsSafelyWoven p facts method m

-- This is the first method, in the order of their numbers, that isn't safe by these facts, with the number of its class, and with the least part that it fails.
pub record IsFirstUnsafe (p : Program) (facts : Facts) (given written : List ClassDef) (class method : ℕ) (failed : Part) : Type 0 where
  pub place : ℕ
  pub own : WrittenMethod
  pub is : slice_get (all_methods (length built_in) given written) place ≡ Some own
  pub class_is : class ≡ own.class
  pub method_is : method ≡ first_given + place
  pub earlier : (k : ℕ) (m : WrittenMethod) → k < place → slice_get (all_methods (length built_in) given written) k ≡ Some m
      → IsSafeNew p facts (first_given + k) m
  pub fails : IsSafeNew p facts method own → ⊥
  pub part : (code : Code) → own.old ≡ Some code
      → FailsPart facts (typed_method p facts.typing method code) own.free code (code_items own.new) failed

-- ---- what is named

-- a class by its number in the program, the first one that hasn't
pub record NamesClass (given written : List ClassDef) (class : ℕ) : Type 0 where
  pub place : ℕ
  pub number : class ≡ length built_in + place
  pub first : IsFirstOther given written place

-- Without a method the first class that hasn't the first part is named, and this part. A method is named only where each class has it, and it is the first one
-- that isn't safe.
abbrev pub IsFirstNamed : Program → Facts → (given written : List ClassDef) → (class : ℕ) → Option MethodId → Part → Type 0
IsFirstNamed p facts given written class None failed = (failed ≡ part.Classes) × NamesClass given written class
IsFirstNamed p facts given written class (Some method) failed = HaveClasses given written × IsFirstUnsafe p facts given written class method.0 failed
