-- A code into which nothing is inserted is laid out as it was.
use Rattle.std.proofs.Common.{◌≡◌, ℕ, ◌+◌, ◌<◌, List, [], ◌∷◌, length, map, Option, Some, refl, sym, ap, ◌∙◌, arith}
use Rattle.fm_chain.specs.declared.calls.Calls.{Calls}
use Rattle.fm_code.specs.SpellsCode.{with_targets}
use Rattle.fm_code.specs.declared.code_array.Code.{Code}
use Rattle.fm_code.specs.declared.code_array.Handler.{Handler}
use Rattle.fm_code.specs.declared.instructions.Insn.{Insn}
use Rattle.fm_code.specs.declared.instructions.Insn.TheVariants as insn
use Rattle.fm_law_unwoven.specs.Laid.{IsLaid, IsWhole, mark_at, moved_to}
use Rattle.fm_law_unwoven.specs.WovenFrom.{nothing_inserted}

same_targets : (targets : List ℕ) → map (λ t. t) targets ≡ targets
same_targets [] = refl
same_targets (t ∷ targets) = ap (λ rest. t ∷ rest) (same_targets targets)

same_insn : (i : Insn) → with_targets (λ t. t) i ≡ i
same_insn (insn.IfInt test target) = refl
same_insn (insn.IfPair test target) = refl
same_insn (insn.IfSame same target) = refl
same_insn (insn.IfNull null target) = refl
same_insn (insn.Goto target) = refl
same_insn (insn.Table low others targets) = ap (insn.Table low others) (same_targets targets)
same_insn (insn.Lookup others keys targets) = ap (insn.Lookup others keys) (same_targets targets)
same_insn i = refl

same_handlers : (handlers : List Handler) → handlers ≡ map (moved_to (λ t. t)) handlers
same_handlers [] = refl
same_handlers (h ∷ handlers) = ap (λ rest. h ∷ rest) (same_handlers handlers)

pub same_laid : (calls : Calls) (old : Code) (marks : List (Option ℕ)) → ((j : ℕ) → j < length old.items → mark_at marks j ≡ Some j)
    → ((n j : ℕ) → mark_at marks n ≡ Some j → (j < length old.items) × (n ≡ j)) → IsLaid calls old nothing_inserted old marks
same_laid calls old marks marked once = record {
  locals = let same : old.max_locals ≡ old.max_locals + 0 = omega arith in same;
  numbers = λ j. j;
  entries = λ j. j;
  behind = λ j. j + 1;
  start = refl;
  entered = λ j inside. refl;
  left = λ joins j more. refl;
  kept = λ j i found. IsWhole (found ∙ ap Some (sym (same_insn i))) refl;
  marked = marked;
  once = once;
  handlers = same_handlers old.handlers;
  covered = λ t j within inside. (λ le. le, λ le. le);
}
