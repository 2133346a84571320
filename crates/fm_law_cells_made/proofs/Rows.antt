-- No instruction both makes and frees: its actions free nothing, or they do nothing else.
use Rattle.std.proofs.Common.{◌≡◌, ◌⊎◌, inl, inr, ℕ, List, [], ◌∷◌, Option, refl, sym, subst}
use Rattle.std.specs.List.{AllByRecursion}
use Rattle.fm_base.specs.declared.kinds.TypeRef.{TypeRef}
use Rattle.fm_code.specs.declared.instructions.Insn.{Insn}
use Rattle.fm_frames.specs.ArrayRows.{array_actions}
use Rattle.fm_frames.specs.Effects.{Action, Copy, Effect, Free, FreeChain, Make, MakeLiteral, Put, SetChain, SetStatic}
use Rattle.fm_frames.specs.NativeRows.{has_text, text_made}
use Rattle.fm_frames.specs.Operands.{thrown}
use Rattle.fm_frames.specs.Rows.{effect_of}
use Rattle.fm_frames.specs.Sights.{Sight}
use Rattle.fm_world.specs.Programs.{Outline}
use Rattle.fm_world.specs.declared.uses.Use.{Use}
use Rattle.fm_law_cells_made.proofs.Acts.{IsFreeing, IsGrowing, own_content}
use Rattle.fm_frames.proofs.EachRow.{each_row, IsOfRow, Leaves}
use Rattle.fm_frames.proofs.NestedActions.{nested_actions}

-- the actions of an effect free nothing; or they do nothing else, and before it at most the class of a built-in method has to be started
pub record IsApart (o : Outline) (e : Effect) : Type 0 where
  pub apart : AllByRecursion IsGrowing e.actions ⊎ (IsOfRow o e.starts × AllByRecursion IsFreeing e.actions)

-- the arrays of arrays that one instruction makes
pub arrays_grow : (t : TypeRef) (counts : List ℕ) (first : ℕ) → AllByRecursion IsGrowing (array_actions t counts first)
arrays_grow t counts first = nested_actions IsGrowing (λ t count. tt) (λ first place inner k. tt) t counts first

module _ (o : Outline) where
  keeps : (e : Effect) (actions : List Action) → AllByRecursion IsGrowing actions → e.actions ≡ actions → IsApart o e
  keeps e actions all is = record { apart = inl (subst (AllByRecursion IsGrowing) (sym is) all) }

  frees : (e : Effect) → IsOfRow o e.starts → (actions : List Action) → AllByRecursion IsFreeing actions → e.actions ≡ actions → IsApart o e
  frees e starts actions all is = record { apart = inr (starts, subst (AllByRecursion IsFreeing) (sym is) all) }

  leaves : Leaves o (IsApart o)
  leaves = record {
    plain = λ e is. keeps e [] tt is;
    thrown = λ name. keeps (thrown o name) _ (tt, tt) refl;
    made = λ e t len is. keeps e (Make t len [] ∷ []) (tt, tt) is;
    text = λ e units is. keeps e (text_made o units ∷ []) (own_content units, tt) is;
    text_put = λ e operand units is. keeps e (has_text o operand units) (own_content units, (tt, tt)) is;
    put = λ e object place k value is. keeps e (Put object place k value ∷ []) (tt, tt) is;
    static_put = λ e place k value is. keeps e (SetStatic place k value ∷ []) (tt, tt) is;
    chained = λ e operand to is. keeps e (SetChain operand to ∷ []) (tt, tt) is;
    given_literal = λ e literal inside is. keeps e (MakeLiteral literal ∷ []) (tt, tt) is;
    freed = λ e starts operand is. frees e starts (Free operand ∷ []) (tt, tt) is;
    chain_freed = λ e starts operand is. frees e starts (FreeChain operand ∷ []) (tt, tt) is;
    copied = λ e t len operand is. keeps e (Copy t len operand ∷ []) (tt, tt) is;
  }

  pub rows_apart : (s : List Sight) (method : ℕ) (i : Insn) (u : Use) (byte : Option ℕ) → IsApart o (effect_of o method u i byte s)
  rows_apart s method i u byte =
      each_row o (IsApart o) leaves s method i u byte (λ e text named is. keeps e (MakeLiteral text ∷ []) (tt, tt) is)
      (λ index dimensions is_it e t counts is. keeps e (array_actions t counts 0) (arrays_grow t counts 0) is)
