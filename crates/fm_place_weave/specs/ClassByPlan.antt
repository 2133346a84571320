-- A class with what is inserted into its methods, by their plans; and the first method that would
-- be too long.
use Rattle.std.specs.Prelude.{◌≡◌, ℕ, ◌+◌, ◌<◌, Bool, false, List, [], ◌∷◌, length, map, Option, Some, None, nat_lt, if◌then◌else◌}
use Rattle.std.specs.List.{AllByRecursion, list_any}
use Rattle.std.specs.Option.{option_map, option_or}
use Rattle.fm_code.specs.declared.class_file.ClassDef.{ClassDef}
use Rattle.fm_code.specs.declared.class_file.Member.{Member}
use Rattle.fm_code.specs.declared.class_file.MemberAttr.{MemberAttr}
use Rattle.fm_code.specs.declared.class_file.MemberAttr.TheVariants as attribute
use Rattle.fm_code.specs.declared.code_array.Code.{Code}
use Rattle.fm_code.specs.declared.code_array.TheConstants.{MAX_CODE_BYTES}
use Rattle.fm_code.specs.declared.constant_pool.Entry.{Entry}
use Rattle.fm_layout.specs.Laid.{laid_length, refused_length}
use Rattle.fm_layout.specs.declared.error.LayFail.{LayFail}
use Rattle.fm_layout.specs.declared.error.LayFail.TheVariants as fail
use Rattle.fm_place.specs.Rewriting.{rewritten_major}
use Rattle.fm_pool.specs.declared.error.AddFail.{AddFail}
use Rattle.fm_pool.specs.declared.error.AddFail.TheVariants as add_fail
use Rattle.fm_chain.specs.Chaining.{calls_for, entries_for}
use Rattle.fm_chain.specs.Planned.{has_chain}
use Rattle.fm_chain.specs.declared.calls.Calls.{Calls}
use Rattle.fm_chain.specs.declared.plans.ChainPlan.{ChainPlan}
use Rattle.fm_place_weave.specs.ByPlan.{code_by, items_by}
use Rattle.fm_place_weave.specs.Conditions.{MayBeWoven}
use Rattle.fm_place_weave.specs.declared.error.WeaveFail.{WeaveFail}
use Rattle.fm_place_weave.specs.declared.error.WeaveFail.TheVariants as weave_fail
use Rattle.fm_place_weave.specs.declared.planned.Planned.{Planned}
use Rattle.fm_place_weave.specs.declared.planned.Planned.TheVariants as planned

-- ---- methods

-- an attribute of a method that is woven: its code is
abbrev pub attribute_by : Calls → ChainPlan → MemberAttr → MemberAttr
attribute_by calls plan (attribute.Coded name code) = attribute.Coded name (code_by calls code plan)
attribute_by calls plan a = a

-- a method by what is to be done with it
abbrev pub method_by : Calls → Planned → Member → Member
method_by calls (planned.Woven plan) m = record m { attributes = map (attribute_by calls plan) m.attributes }
method_by calls p m = m

-- the methods of a class
abbrev pub methods_by : Calls → List Planned → List Member → List Member
methods_by calls (p ∷ plans) (m ∷ methods) = method_by calls p m ∷ methods_by calls plans methods
methods_by calls plans methods = []

-- ---- classes

-- a method that is woven, or would be too long, has a holder of a chain
abbrev pub chains_in : Planned → Bool
chains_in planned.Same = false
chains_in (planned.Woven plan) = has_chain plan
chains_in (planned.TooLong bytes chains) = chains

-- so has one of these methods
abbrev pub has_chains : List Planned → Bool
has_chains plans = list_any chains_in plans

-- a changed class: with the entries of FreeMe's methods in its pool, and with what is inserted into its methods
abbrev pub class_by : List Planned → ClassDef → ClassDef
class_by plans c = record c {
  minor = 0;
  major = rewritten_major;
  pool = record { entries = entries_for (has_chains plans) c.pool.entries };
  methods = methods_by (calls_for (has_chains plans) c.pool.entries) plans c.methods;
}

-- why the entries aren't put into a pool: with them it has more than 65,535 indices, and this is their number (JVMS 4.1)
abbrev pub IsFull : List Entry → AddFail → Type 0
IsFull entries (add_fail.Full indices) = (65535 < length entries) × (indices ≡ length entries)
IsFull entries add_fail.NoMemory = Unit {0}

-- ---- methods that would be too long

-- how long the code would be, where that is too long
abbrev pub long_code : Calls → ChainPlan → Code → Option ℕ
long_code calls plan code =
    if nat_lt MAX_CODE_BYTES (laid_length code.items (items_by calls code plan))
    then Some (refused_length code.items (items_by calls code plan)) else None

-- the same of an attribute that may be the code
abbrev pub long_attribute : Calls → ChainPlan → MemberAttr → Option ℕ
long_attribute calls plan (attribute.Coded name code) = long_code calls plan code
long_attribute calls plan a = None

-- of the first of these attributes of which it is something
abbrev pub long_attributes : Calls → ChainPlan → List MemberAttr → Option ℕ
long_attributes calls plan [] = None
long_attributes calls plan (a ∷ attributes) = option_or (long_attribute calls plan a) (long_attributes calls plan attributes)

-- the same of a method
abbrev pub long_method : Calls → Planned → Member → Option ℕ
long_method calls planned.Same m = None
long_method calls (planned.TooLong bytes chains) m = Some bytes
long_method calls (planned.Woven plan) m = long_attributes calls plan m.attributes

-- the place of the first one, from a place on, and how long it would be
abbrev pub first_long : Calls → (place : ℕ) → List Planned → List Member → Option (ℕ × ℕ)
first_long calls place (p ∷ plans) (m ∷ methods) =
    option_or (option_map (λ bytes. (place, bytes)) (long_method calls p m)) (first_long calls (place + 1) plans methods)
first_long calls place plans methods = None

-- the length in a refusal is this one
abbrev pub IsLong : Option ℕ → LayFail → Type 0
IsLong long (fail.TooLong bytes) = long ≡ Some bytes
IsLong long fail.NoMemory = Unit {0}

-- and so are the place and the length
abbrev pub IsFirstLong : Option (ℕ × ℕ) → WeaveFail → Type 0
IsFirstLong long (weave_fail.TooLong place bytes) = long ≡ Some (place, bytes)
IsFirstLong long weave_fail.NoMemory = Unit {0}

-- ---- what is required

-- an attribute that is code may be woven
abbrev pub MayWeave : Calls → ChainPlan → MemberAttr → Type 0
MayWeave calls plan (attribute.Coded name code) = MayBeWoven calls code plan
MayWeave calls plan a = Unit {0}

-- what is to be done with the method may be done
abbrev pub MayDo : Calls → Planned → Member → Type 0
MayDo calls (planned.Woven plan) m = AllByRecursion (MayWeave calls plan) m.attributes
MayDo calls p m = Unit {0}

-- the same of all methods, one plan for each
abbrev pub MayDoAll : Calls → List Planned → List Member → Type 0
MayDoAll calls [] [] = Unit {0}
MayDoAll calls (p ∷ plans) (m ∷ methods) = MayDo calls p m × MayDoAll calls plans methods
MayDoAll calls plans methods = ⊥
