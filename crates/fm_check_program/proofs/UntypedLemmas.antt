-- Which methods have code, and what the checker's results mean for them.
use Rattle.std.proofs.Common.{◌≡◌, refl, sym, ◌∙◌, ap, ℕ, ◌<◌, ◌≤◌, ⊎_elim, inl, inr, length, true, false, Option, Some, None, IfSome, IsSome, IsSomeAnd, is_some, arith}
use Rattle.std.proofs.lemmas.Bool.{cases_lt, false≢true}
use Rattle.fm_code.specs.declared.code_array.Code.{Code}
use Rattle.fm_check.specs.Checking.{coded, HasCode, IsNarrow, IsTooWide}
use Rattle.fm_check_program.specs.Untyped.{AreCheckable, AreTyped, IsFirstUntyped, IsTypedIfCoded}
use Rattle.fm_world.specs.Members.{method_at, methods_of}
use Rattle.fm_world.specs.Programs.{body_of, code_at, method_info, Program}
use Rattle.fm_world.specs.declared.declarations.DeclaredMethod.{DeclaredMethod}

no_body : (m : DeclaredMethod) (row : Option ℕ) → coded (body_of (record m { row = row }) None) ≡ None
no_body m None = refl
no_body m (Some r) = refl

-- a method whose body has code has some
pub has_some : (p : Program) (method : ℕ) → is_some (coded (method_info p method).body) ≡ true → IsSome (code_at p method)
unfolding method_info
has_some p method has = at (code_at p method) refl where
  m : DeclaredMethod
  m = (method_at p.outline.classes method).method

  at : (o : Option Code) → code_at p method ≡ o → IsSome o
  at (Some code) is = refl
  at None is = absurd (false≢true (sym (ap is_some (ap (λ o. coded (body_of m o)) is ∙ no_body m m.row)) ∙ has))

-- and else it has none
pub has_none : (p : Program) (method : ℕ) → AreCheckable p → is_some (coded (method_info p method).body) ≡ false → IsTypedIfCoded p method
has_none p method may has some = absurd (at (code_at p method) (may.codes method) some) where
  at : (o : Option Code) → IfSome o (λ code. HasCode p method code × IsNarrow code) → IsSome o → ⊥
  at None may there = false≢true there
  at (Some code) may there = false≢true (sym has ∙ ap is_some may.0.body)

-- a code that is there may be checked
pub may_check : (p : Program) (method : ℕ) → AreCheckable p → IsSome (code_at p method) → IsSomeAnd (code_at p method) (HasCode p method)
may_check p method may some = at (code_at p method) (may.codes method) some where
  at : (o : Option Code) → IfSome o (λ code. HasCode p method code × IsNarrow code) → IsSome o → IsSomeAnd o (HasCode p method)
  at None may there = absurd (false≢true there)
  at (Some code) may there = may.0

-- and is never too wide
pub not_wide : (p : Program) (method count : ℕ) → AreCheckable p → IsSomeAnd (code_at p method) (λ code. IsTooWide code count) → ⊥
not_wide p method count may wide = at (code_at p method) (may.codes method) wide where
  at : (o : Option Code) → IfSome o (λ code. HasCode p method code × IsNarrow code) → IsSomeAnd o (λ code. IsTooWide code count) → ⊥
  at None may wide = wide
  at (Some code) may (inl w) = let narrow = may.1.stack in let above = w.0 in omega arith
  at (Some code) may (inr w) = let narrow = may.1.locals in let above = w.1 in omega arith

-- past the last method there is no code
pub past_typed : (p : Program) (method : ℕ) → AreCheckable p → length (methods_of p.outline.classes) ≤ method → IsTypedIfCoded p method
past_typed p method may past some = absurd (at (code_at p method) (may.codes method) some) where
  at : (o : Option Code) → IfSome o (λ code. HasCode p method code × IsNarrow code) → IsSome o → ⊥
  at None may there = false≢true there
  at (Some code) may there = let inside = may.0.inside in omega arith

-- all are typed, where those that are there are
pub all_typed : (p : Program) (n : ℕ) → AreCheckable p → length (methods_of p.outline.classes) ≤ n → ((method : ℕ) → method < n → IsTypedIfCoded p method) → AreTyped p
all_typed p n may all before method = ⊎_elim
    (λ (within : method < n). before method within)
    (λ (past : n ≤ method). past_typed p method may (omega (arith, past, all)))
    (cases_lt method n)

-- the first that isn't typed is there
pub first_inside : (p : Program) (method : ℕ) → AreCheckable p → IsFirstUntyped p method → method < length (methods_of p.outline.classes)
first_inside p method may first = at (code_at p method) (may.codes method) first.untyped.coded where
  at : (o : Option Code) → IfSome o (λ code. HasCode p method code × IsNarrow code) → IsSome o → method < length (methods_of p.outline.classes)
  at None may there = absurd (false≢true there)
  at (Some code) may there = may.0.inside
