-- What the checker is asked and what it returns (JVMS 4.10): when counts are too large, and what the least typing of a method is.
use Rattle.std.specs.Prelude.{◌≡◌, ℕ, ◌<◌, ◌≤◌, ◌⊎◌, true, List, length, Option, Some, None, IsSomeAnd}
use Rattle.fm_base.specs.declared.limits.TheConstants.{MAX_LOCAL_WORDS, MAX_STACK_WORDS}
use Rattle.fm_code.specs.Edges.{MeetsCodeRules}
use Rattle.fm_code.specs.declared.code_array.Code.{Code}
use Rattle.fm_check_rows.specs.Members.{UsesNameMembers}
use Rattle.fm_types.specs.Fits.{AreTree}
use Rattle.fm_types.specs.States.{state_fits, TypeState}
use Rattle.fm_types.specs.Typed.{IsTyping, state_at}
use Rattle.fm_world.specs.Members.{methods_of}
use Rattle.fm_world.specs.Programs.{method_info, Outline, Program}
use Rattle.fm_world.specs.declared.records.Body.{Body}
use Rattle.fm_world.specs.declared.records.Body.TheVariants as body

-- ---- which programs and methods are asked of

-- what linking makes sure of: the classes are a tree below Object, and uses name members that are there
pub record IsCheckable (p : Program) : Type 0 where
  pub tree : AreTree p.outline.classes
  pub uses : UsesNameMembers p

-- the code of a method's body, where it has one
abbrev pub coded : Body → Option Code
coded (body.Coded code) = Some code
coded b = None

-- the method is there and has this code, which is in a class file
pub record HasCode (p : Program) (method : ℕ) (code : Code) : Type 0 where
  pub inside : method < length (methods_of p.outline.classes)
  pub body : coded (method_info p method).body ≡ Some code
  pub spelled : MeetsCodeRules code

-- ---- limits

-- the words of the stack are above their limit, or else those of the locals are; and this is their number
abbrev pub IsTooWide : Code → ℕ → Type 0
IsTooWide code count =
    ((MAX_STACK_WORDS < code.max_stack) × (count ≡ code.max_stack))
    ⊎ ((code.max_stack ≤ MAX_STACK_WORDS) × (MAX_LOCAL_WORDS < code.max_locals) × (count ≡ code.max_locals))

-- neither is
pub record IsNarrow (code : Code) : Type 0 where
  pub stack : code.max_stack ≤ MAX_STACK_WORDS
  pub locals : code.max_locals ≤ MAX_LOCAL_WORDS

-- ---- the least typing

-- where the first states have one, the second have one that it fits
abbrev pub AreBelow : Outline → List (Option TypeState) → List (Option TypeState) → Type 0
AreBelow o states others =
    (j : ℕ) (s : TypeState) → state_at states j ≡ Some s → IsSomeAnd (state_at others j) (λ t. state_fits o s t ≡ true)

-- a typing that fits each typing of the method
pub record IsLeastTyping (p : Program) (method : ℕ) (states : List (Option TypeState)) : Type 0 where
  pub typing : IsTyping p method states
  pub least : (others : List (Option TypeState)) → IsTyping p method others → AreBelow p.outline states others
