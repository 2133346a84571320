-- The instruction that keeps an old one has its row, whatever its targets are, and where it is the opposite test.
use Rattle.std.proofs.Common.{◌≡◌, refl, sym, ◌∙◌, ap, ℕ, true, false, ◌⊎◌, inl, inr, List, [], ◌∷◌, ◌++◌, Option, Some, None, option_map}
use Rattle.std.proofs.lemmas.Option.{none-some, same_Some}
use Rattle.fm_base.specs.declared.kinds.TypeRef.{TypeRef}
use Rattle.fm_code.specs.SpellsCode.{with_targets}
use Rattle.fm_code.specs.declared.instructions.Insn.{Insn}
use Rattle.fm_code.specs.declared.instructions.Insn.TheVariants as insn
use Rattle.fm_law_woven_flow.specs.Roles.{IsOpposite, IsRetargeted}
use Rattle.fm_layout.specs.Spelling.{conditional, opposite}
use Rattle.fm_layout.specs.declared.rooms.Condition.{Condition}
use Rattle.fm_layout.specs.declared.rooms.Condition.TheVariants as condition
use Rattle.fm_place.proofs.SameTypings.{made_by}
use Rattle.fm_types.specs.Named.{object_slot}
use Rattle.fm_types.specs.Rows.{row_after}
use Rattle.fm_types.specs.States.{int_word, taken, TypeState, worked}
use Rattle.fm_types.specs.Typed.{use_by}
use Rattle.fm_types.specs.declared.slots.Slot.{Slot}
use Rattle.fm_world.specs.Programs.{Outline, Program}
use Rattle.fm_code.specs.Operands.{pool_index}
use Rattle.fm_world.specs.declared.uses.Use.{Use}

-- what is required of an instruction that keeps another one
pub record IsSameRow (i kept : Insn) : Type 0 where
  pub row : (o : Outline) (method item : ℕ) (news : ℕ → Option TypeRef) (u : Use) (s : TypeState)
      → row_after o method item news u kept s ≡ row_after o method item news u i s
  pub used : (p : Program) (method : ℕ) → use_by p method kept ≡ use_by p method i
  pub made : (p : Program) (method : ℕ) → made_by p method kept ≡ made_by p method i
  pub operand : pool_index kept ≡ pool_index i

target_row : (o : Outline) (method item : ℕ) (news : ℕ → Option TypeRef) (u : Use) (s : TypeState) (f : ℕ → ℕ) (i : Insn)
    → row_after o method item news u (with_targets f i) s ≡ row_after o method item news u i s
unfolding row_after
target_row o method item news u s f (insn.IfInt test target) = refl
target_row o method item news u s f (insn.IfPair test target) = refl
target_row o method item news u s f (insn.IfSame same target) = refl
target_row o method item news u s f (insn.IfNull null target) = refl
target_row o method item news u s f (insn.Goto target) = refl
target_row o method item news u s f (insn.Table low others targets) = refl
target_row o method item news u s f (insn.Lookup others keys targets) = refl
target_row o method item news u s f i = refl

target_use : (p : Program) (method : ℕ) (f : ℕ → ℕ) (i : Insn) → use_by p method (with_targets f i) ≡ use_by p method i
target_use p method f (insn.IfInt test target) = refl
target_use p method f (insn.IfPair test target) = refl
target_use p method f (insn.IfSame same target) = refl
target_use p method f (insn.IfNull null target) = refl
target_use p method f (insn.Goto target) = refl
target_use p method f (insn.Table low others targets) = refl
target_use p method f (insn.Lookup others keys targets) = refl
target_use p method f i = refl

target_made : (p : Program) (method : ℕ) (f : ℕ → ℕ) (i : Insn) → made_by p method (with_targets f i) ≡ made_by p method i
target_made p method f (insn.IfInt test target) = refl
target_made p method f (insn.IfPair test target) = refl
target_made p method f (insn.IfSame same target) = refl
target_made p method f (insn.IfNull null target) = refl
target_made p method f (insn.Goto target) = refl
target_made p method f (insn.Table low others targets) = refl
target_made p method f (insn.Lookup others keys targets) = refl
target_made p method f i = refl

target_operand : (f : ℕ → ℕ) (i : Insn) → pool_index (with_targets f i) ≡ pool_index i
target_operand f (insn.IfInt test target) = refl
target_operand f (insn.IfPair test target) = refl
target_operand f (insn.IfSame same target) = refl
target_operand f (insn.IfNull null target) = refl
target_operand f (insn.Goto target) = refl
target_operand f (insn.Table low others targets) = refl
target_operand f (insn.Lookup others keys targets) = refl
target_operand f i = refl

branch_operand : (c : Condition) (a b : ℕ) → pool_index (conditional (opposite c) a) ≡ pool_index (conditional c b)
branch_operand (condition.Int t) a b = refl
branch_operand (condition.Pair t) a b = refl
branch_operand (condition.Same true) a b = refl
branch_operand (condition.Same false) a b = refl
branch_operand (condition.Null true) a b = refl
branch_operand (condition.Null false) a b = refl

branch_row : (o : Outline) (method item : ℕ) (news : ℕ → Option TypeRef) (u : Use) (s : TypeState) (c : Condition) (a b : ℕ)
    → row_after o method item news u (conditional (opposite c) a) s ≡ row_after o method item news u (conditional c b) s
unfolding row_after
branch_row o method item news u s (condition.Int t) a b = refl
branch_row o method item news u s (condition.Pair t) a b = refl
branch_row o method item news u s (condition.Same true) a b = refl
branch_row o method item news u s (condition.Same false) a b = refl
branch_row o method item news u s (condition.Null true) a b = refl
branch_row o method item news u s (condition.Null false) a b = refl

branch_use : (p : Program) (method : ℕ) (c : Condition) (a b : ℕ) → use_by p method (conditional (opposite c) a) ≡ use_by p method (conditional c b)
branch_use p method (condition.Int t) a b = refl
branch_use p method (condition.Pair t) a b = refl
branch_use p method (condition.Same true) a b = refl
branch_use p method (condition.Same false) a b = refl
branch_use p method (condition.Null true) a b = refl
branch_use p method (condition.Null false) a b = refl

branch_made : (p : Program) (method : ℕ) (c : Condition) (a b : ℕ) → made_by p method (conditional (opposite c) a) ≡ made_by p method (conditional c b)
branch_made p method (condition.Int t) a b = refl
branch_made p method (condition.Pair t) a b = refl
branch_made p method (condition.Same true) a b = refl
branch_made p method (condition.Same false) a b = refl
branch_made p method (condition.Null true) a b = refl
branch_made p method (condition.Null false) a b = refl

pub same_row : (i kept : Insn) → IsRetargeted i kept ⊎ IsOpposite i kept → IsSameRow i kept
same_row i kept (inl r) = record {
  row = λ o method item news u s. ap (λ x. row_after o method item news u x s) r.is ∙ target_row o method item news u s r.targets i;
  used = λ p method. ap (use_by p method) r.is ∙ target_use p method r.targets i;
  made = λ p method. ap (made_by p method) r.is ∙ target_made p method r.targets i;
  operand = ap pool_index r.is ∙ target_operand r.targets i;
}
same_row i kept (inr r) = record {
  row = λ o method item news u s.
      ap (λ x. row_after o method item news u x s) r.test ∙ branch_row o method item news u s r.condition r.other r.target
      ∙ sym (ap (λ x. row_after o method item news u x s) r.branch);
  used = λ p method. ap (use_by p method) r.test ∙ branch_use p method r.condition r.other r.target ∙ sym (ap (use_by p method) r.branch);
  made = λ p method. ap (made_by p method) r.test ∙ branch_made p method r.condition r.other r.target ∙ sym (ap (made_by p method) r.branch);
  operand = ap pool_index r.test ∙ branch_operand r.condition r.other r.target ∙ sym (ap pool_index r.branch);
}

-- ---- branches on conditions

-- nothing but the stack changes
pub record KeepsLocals (s after : TypeState) : Type 0 where
  pub locals : after.locals ≡ s.locals
  pub built : after.built ≡ s.built

pub worked_keeps : (o : Outline) (wanted given : List Slot) (s after : TypeState) → worked o wanted given s ≡ Some after → KeepsLocals s after
worked_keeps o wanted given s after is = by_rest (taken o wanted s.stack) is where
  by_rest : (found : Option (List Slot)) → option_map (λ (stack : List Slot). record s { stack = given ++ stack }) found ≡ Some after → KeepsLocals s after
  by_rest None there = absurd (none-some after there)
  by_rest (Some rest) there =
      let same = same_Some (record s { stack = given ++ rest }) after there in
      record { locals = ap (λ (t : TypeState). t.locals) (sym same); built = ap (λ (t : TypeState). t.built) (sym same) }

pub branch_keeps : (o : Outline) (method item : ℕ) (news : ℕ → Option TypeRef) (u : Use) (c : Condition) (t : ℕ) (s after : TypeState)
    → row_after o method item news u (conditional c t) s ≡ Some after → KeepsLocals s after
unfolding row_after
branch_keeps o method item news u (condition.Int test) t s after is = worked_keeps o int_word [] s after is
branch_keeps o method item news u (condition.Pair test) t s after is = worked_keeps o (int_word ++ int_word) [] s after is
branch_keeps o method item news u (condition.Same same) t s after is = worked_keeps o (object_slot o ∷ object_slot o ∷ []) [] s after is
branch_keeps o method item news u (condition.Null null) t s after is = worked_keeps o (object_slot o ∷ []) [] s after is
