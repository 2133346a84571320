-- Which methods of a program are typed, and which programs that is asked of.
use Rattle.std.specs.Prelude.{ℕ, ◌<◌, IfSome, IsSome}
use Rattle.fm_check.specs.Checking.{HasCode, IsCheckable, IsNarrow}
use Rattle.fm_types.specs.Typed.{Typed}
use Rattle.fm_world.specs.Programs.{code_at, Program}

-- ---- methods that are typed

-- the method is typed, if it has code
abbrev pub IsTypedIfCoded : Program → ℕ → Type 0
IsTypedIfCoded p method = IsSome (code_at p method) → Typed p method

-- each method with code is
abbrev pub AreTyped : Program → Type 0
AreTyped p = (method : ℕ) → IsTypedIfCoded p method

-- the method has code and isn't typed
pub record IsUntyped (p : Program) (method : ℕ) : Type 0 where
  pub coded : IsSome (code_at p method)
  pub untyped : ¬ Typed p method

-- it is the first such by number
pub record IsFirstUntyped (p : Program) (method : ℕ) : Type 0 where
  pub before : (earlier : ℕ) → earlier < method → IsTypedIfCoded p earlier
  pub untyped : IsUntyped p method

-- ---- programs

-- what reading and linking make sure of: each code is in a class file, for a method that is there, and its counts are within their limits
pub record AreCheckable (p : Program) : Type 0 where
  pub linked : IsCheckable p
  pub codes : (method : ℕ) → IfSome (code_at p method) (λ code. HasCode p method code × IsNarrow code)
