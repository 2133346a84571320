-- What each instruction but one makes: at most one object, and literals of texts that are there.
use Rattle.std.proofs.Common.{◌≡◌, ℕ, ◌<◌, ◌≤◌, List, [], ◌∷◌, Option, None, refl, sym, ◌∙◌, ap, subst, arith}
use Rattle.std.specs.List.{AllByRecursion}
use Rattle.std.proofs.lemmas.Option.{none-some}
use Rattle.fm_code.specs.declared.instructions.Insn.{Insn}
use Rattle.fm_frames.specs.Effects.{Action, Copy, Effect, Free, FreeChain, Make, MakeFixed, MakeLiteral, Put, SetChain, SetStatic}
use Rattle.fm_frames.specs.NativeRows.{has_text, text_made}
use Rattle.fm_frames.specs.Operands.{thrown}
use Rattle.fm_frames.specs.Rows.{effect_of}
use Rattle.fm_frames.specs.Sights.{Sight}
use Rattle.fm_frames.specs.Steps.{objects_made}
use Rattle.fm_world.specs.Programs.{Outline}
use Rattle.fm_world.specs.declared.uses.Use.{Use}
use Rattle.fm_world.specs.declared.uses.Use.TheVariants as resolved
use Rattle.fm_frames.specs.Runnable.{IsUseIn}
use Rattle.fm_exec_nests.specs.inner.Costs.{nest_of}
use Rattle.fm_frames.proofs.EachRow.{each_row, Leaves}
use Rattle.fm_frames.proofs.Programs.{literal-inside}
use Rattle.fm_frames.specs.Literals.{literal_count}

-- no object is made that lives for ever, but for literals of texts that are there
abbrev pub IsMade : Outline → Action → Type 0
IsMade o (MakeFixed t) = ⊥
IsMade o (MakeLiteral literal) = literal < literal_count o
IsMade o action = Unit {0}

-- the effect makes at most one object beside such literals
pub record IsCheap (o : Outline) (e : Effect) : Type 0 where
  pub few : objects_made e.actions ≤ 1
  pub made : AllByRecursion (IsMade o) e.actions

module _ (o : Outline) where
  counted : (e : Effect) (actions : List Action) → objects_made actions ≤ 1 → AllByRecursion (IsMade o) actions → e.actions ≡ actions → IsCheap o e
  counted e actions few all is = record {
    few = subst (λ these. objects_made these ≤ 1) (sym is) few;
    made = subst (AllByRecursion (IsMade o)) (sym is) all;
  }

  leaves : Leaves o (IsCheap o)
  leaves = record {
    plain = λ e is. counted e [] (omega arith) tt is;
    thrown = λ name. counted (thrown o name) _ (omega arith) (tt, tt) refl;
    made = λ e t len is. counted e (Make t len [] ∷ []) (omega arith) (tt, tt) is;
    text = λ e units is. counted e (text_made o units ∷ []) (omega arith) (tt, tt) is;
    text_put = λ e operand units is. counted e (has_text o operand units) (omega arith) (tt, (tt, tt)) is;
    put = λ e object place k value is. counted e (Put object place k value ∷ []) (omega arith) (tt, tt) is;
    static_put = λ e place k value is. counted e (SetStatic place k value ∷ []) (omega arith) (tt, tt) is;
    chained = λ e operand to is. counted e (SetChain operand to ∷ []) (omega arith) (tt, tt) is;
    given_literal = λ e literal inside is. counted e (MakeLiteral literal ∷ []) (omega arith) (inside, tt) is;
    freed = λ e starts operand is. counted e (Free operand ∷ []) (omega arith) (tt, tt) is;
    chain_freed = λ e starts operand is. counted e (FreeChain operand ∷ []) (omega arith) (tt, tt) is;
    copied = λ e t len operand is. counted e (Copy t len operand ∷ []) (omega arith) (tt, tt) is;
  }

  pub insn-cheap : (s : List Sight) (method : ℕ) (i : Insn) (u : Use) (byte : Option ℕ) → IsUseIn o u → nest_of i ≡ None → IsCheap o (effect_of o method u i byte s)
  insn-cheap s method i u byte inside other =
      each_row o (IsCheap o) leaves s method i u byte
      (λ e literal named is. counted e (MakeLiteral literal ∷ []) (omega arith) (literal-inside o u literal inside named, tt) is)
      (λ index dimensions is_it e t counts is. absurd (none-some _ (sym other ∙ ap nest_of is_it)))
