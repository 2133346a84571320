-- What is required of a class and of what is inserted into its methods, and that the changed class
-- has a spelling then.
use Rattle.std.specs.Prelude.{ℕ, ◌+◌, ◌≤◌, List, [], ◌∷◌, length, Option, Some, None}
use Rattle.std.specs.List.{AllByRecursion}
use Rattle.fm_base.specs.declared.limits.TheConstants.{MAX_FILE_BYTES, MAX_STACK_WORDS}
use Rattle.fm_code.specs.ClassBytes.{class_bytes}
use Rattle.fm_code.specs.Profile.{Profile}
use Rattle.fm_code.specs.Spells.{HasSpelling}
use Rattle.fm_code.specs.declared.class_file.ClassDef.{ClassDef}
use Rattle.fm_code.specs.declared.class_file.Member.{Member}
use Rattle.fm_code.specs.declared.class_file.MemberAttr.{MemberAttr}
use Rattle.fm_code.specs.declared.class_file.MemberAttr.TheVariants as attribute
use Rattle.fm_code.specs.declared.code_array.Code.{Code}
use Rattle.fm_code.specs.declared.code_array.TheConstants.{MAX_CODE_BYTES}
use Rattle.fm_layout.specs.Conditions.{AreNewItems, AreOldItems}
use Rattle.fm_layout.specs.Laid.{laid_length}
use Rattle.fm_chain.specs.Chained.{added_words, chained}
use Rattle.fm_chain.specs.Chaining.{changed_class, class_calls, class_has_chain, entries_for}
use Rattle.fm_chain.specs.Laws.{CallsSuit}
use Rattle.fm_chain.specs.declared.calls.Calls.{Calls}
use Rattle.fm_place.specs.Insertions.{Insertions}
use Rattle.fm_place.specs.Rewriting.{Plans}

-- ---- what is required

-- of a code and its insertions: there is room for what is inserted, and the code isn't too long with it
pub record CanWeave (calls : Calls) (code : Code) (plan : Insertions) : Type 0 where
  pub old_items : AreOldItems code.items
  pub stack : code.max_stack + added_words plan ≤ MAX_STACK_WORDS
  pub suits : CallsSuit calls code plan
  pub new_items : AreNewItems code.items (chained calls code plan)
  pub short : laid_length code.items (chained calls code plan) ≤ MAX_CODE_BYTES

-- of an attribute of a method, which may be its code
abbrev pub AttributeCan : Calls → Insertions → MemberAttr → Type 0
AttributeCan calls plan (attribute.Coded name code) = CanWeave calls code plan
AttributeCan calls plan a = Unit {0}

-- of a method with its plan, if it has one
abbrev pub MethodCan : Calls → Option Insertions → Member → Type 0
MethodCan calls None m = Unit {0}
MethodCan calls (Some plan) m = AllByRecursion (AttributeCan calls plan) m.attributes

-- of methods, the first of which has this number
abbrev pub MethodsCan : Plans → Calls → (first : ℕ) → List Member → Type 0
MethodsCan plans calls first [] = Unit {0}
MethodsCan plans calls first (m ∷ methods) = MethodCan calls (plans first) m × MethodsCan plans calls (first + 1) methods

-- of a class: its file isn't longer than a file may be
abbrev pub IsShort : ClassDef → Type 0
IsShort c = length (class_bytes c) ≤ MAX_FILE_BYTES

-- ---- the laws

-- some bytes spell a changed class, as long as its pool isn't full (JVMS 4.1)
abbrev pub ChangedHaveSpellings : Type 0
ChangedHaveSpellings =
    (plans : Plans) (first : ℕ) (c : ClassDef) → HasSpelling c → IsShort c
    → length (entries_for (class_has_chain plans first c) c.pool.entries) ≤ 65535
    → MethodsCan plans (class_calls plans first c) first c.methods → HasSpelling (changed_class plans first c)

-- and it is accepted where the class is: its version is 49.0, its counts are within their limits, and all of it is supported
abbrev pub ChangedAreAccepted : Type 0
ChangedAreAccepted =
    (plans : Plans) (first : ℕ) (c : ClassDef) → HasSpelling c → Profile c → MethodsCan plans (class_calls plans first c) first c.methods
    → Profile (changed_class plans first c)
