-- The rows of moves of the stack, jumps, switches, returns and athrow lead where the checker's rows do.
use Rattle.std.proofs.Common.{◌≡◌, position, ℕ, ℤ, ◌<◌, Bool, true, false, List, [], ◌∷◌, ◌++◌, length, take, cond, codes, Option, Some, None, option_to_list, refl, sym, ◌∙◌, subst, arith}
use Rattle.std.proofs.lemmas.Bool.{false≢true}
use Rattle.std.specs.Ordering.{int_eq}
use Rattle.std.proofs.lemmas.Option.{same_Some}
use Rattle.fm_base.proofs.OptionFacts.{cond-some_then, option_map-some}
use Rattle.fm_base.specs.declared.kinds.Kind.{Kind}
use Rattle.fm_base.specs.declared.kinds.Kind.TheVariants as kind
use Rattle.fm_code.specs.Edges.{falls_through}
use Rattle.fm_code.specs.SpellsCode.{targets_of}
use Rattle.fm_code.specs.StackWords.{reg_words}
use Rattle.fm_code.specs.declared.instructions.Insn.{Insn}
use Rattle.fm_code.specs.declared.instructions.Insn.TheVariants as insn
use Rattle.fm_code.specs.declared.operations.Reg.{Reg}
use Rattle.fm_code.specs.declared.operations.Reg.TheVariants as reg
use Rattle.fm_code.specs.declared.operations.Test.{Test}
use Rattle.fm_types.specs.CallRows.{return_row, returned_by, same_reg}
use Rattle.fm_types.specs.Named.{object_slot, result_of, throwable_type}
use Rattle.fm_types.specs.Moves.{Moves, moves_of}
use Rattle.fm_types.specs.NumberRows.{move_row}
use Rattle.fm_types.specs.ObjectRows.{throw_row}
use Rattle.fm_types.specs.States.{is_whole, stack_slots, taken, TypeState, worked}
use Rattle.fm_types.specs.declared.slots.Slot.TheVariants as slot
use Rattle.fm_world.specs.Programs.{Outline}
use Rattle.fm_frames.specs.Effects.{Falls, going, Jumps}
use Rattle.fm_frames.specs.JumpRows.{int_jump_effect, jumps_if, null_jump_effect, pair_jump_effect, key_target, lookup_effect, return_effect, same_jump_effect, table_effect, table_target, throw_effect}
use Rattle.fm_frames.specs.NumberRows.{move_effect, moved_words}
use Rattle.fm_frames.specs.Sights.{Sight}
use Rattle.fm_frames.specs.States.{Frame}
pub use Rattle.fm_frames.proofs.SwitchTargets.{between, few_keys, key_within, table_if, table_within, within_if}
use Rattle.fm_law_sound.specs.Leading.{LeavesAs}
use Rattle.fm_law_sound.specs.Sound.{FrameHasKinds, HaveKinds}
use Rattle.fm_law_sound.proofs.Cases.{by_int, by_object, by_reference}
use Rattle.fm_law_sound.proofs.FramesLeft.{moved_row}
use Rattle.fm_law_sound.proofs.InsnActs.{kind_is_whole}
use Rattle.fm_law_sound.proofs.KindLemmas.{taken_words}
use Rattle.fm_law_sound.proofs.Leaving.{moved_leaves, reference_taken, same_leaves, worked_leaves}
use Rattle.fm_law_sound.proofs.NumberRows.{Leads, thrown_leads}

-- ---- results

result_count : (r : Reg) (k : Kind) → same_reg r (returned_by k) ≡ true → length (stack_slots (k ∷ [])) ≡ reg_words r
result_count reg.Long kind.Long same = refl
result_count reg.Long k same = absurd (false≢true same)
result_count reg.Int kind.Long same = absurd (false≢true same)
result_count reg.Int k same = refl
result_count reg.Ref kind.Long same = absurd (false≢true same)
result_count reg.Ref k same = refl

-- the state after a return, by the kind of the result
abbrev pub return_by : Outline → TypeState → Reg → Option Kind → Option TypeState
return_by o s r None = None
return_by o s r (Some k) = cond (same_reg r (returned_by k)) (worked o (stack_slots (k ∷ [])) [] s) None

pub return_is : (o : Outline) (method : ℕ) (r : Reg) (s : TypeState) → return_row o method (Some r) s ≡ return_by o s r (result_of o method)
unfolding return_row
return_is o method r s = refl

abbrev plain_return_by : TypeState → Option Kind → Option TypeState
plain_return_by s None = cond s.built (Some s) None
plain_return_by s (Some k) = None

plain_return_is : (o : Outline) (method : ℕ) (s : TypeState) → return_row o method None s ≡ plain_return_by s (result_of o method)
unfolding return_row
plain_return_is o method s = refl

module _ (o : Outline) (s : TypeState) (f : Frame) (h : FrameHasKinds s f.locals f.stack) (after : TypeState) where
  -- ---- moves

  pub move_leads : (i : Insn) (m : Moves) → moves_of i ≡ Some m → falls_through i ≡ true → move_row i s ≡ Some after → Leads o s f h after i (move_effect i)
  unfolding move_effect
  move_leads i m is falls row =
      subst (λ found. Leads o s f h after i (moved_words found)) (sym is) (falls, moved_leaves o s f h m after (moved_row s after i m is row))

  -- ---- jumps

  jump_if : (i : Insn) → 0 < length (targets_of i) → falls_through i ≡ true → (takes : ℕ) (b : Bool) → LeavesAs o after f (going takes Falls)
      → Leads o s f h after i (going takes (jumps_if b))
  jump_if i some falls takes true leaves = (some, leaves)
  jump_if i some falls takes false leaves = (falls, leaves)

  pub int_jump_leads : (test : Test) (target : ℕ) (sights : List Sight) → worked o (slot.Int ∷ []) [] s ≡ Some after
      → Leads o s f h after (insn.IfInt test target) (int_jump_effect test sights)
  unfolding int_jump_effect
  int_jump_leads test target sights row =
      by_int (Leads o s f h after (insn.IfInt test target)) sights 0 _ tt
      (λ a. jump_if (insn.IfInt test target) (omega arith) refl 1 _
      (worked_leaves o s f h (slot.Int ∷ []) [] after (going 1 Falls) row refl refl (λ areas made statics. tt)))

  pub pair_jump_leads : (test : Test) (target : ℕ) (sights : List Sight) → worked o (slot.Int ∷ slot.Int ∷ []) [] s ≡ Some after
      → Leads o s f h after (insn.IfPair test target) (pair_jump_effect test sights)
  unfolding pair_jump_effect
  pair_jump_leads test target sights row =
      by_int (Leads o s f h after (insn.IfPair test target)) sights 0 _ tt (λ b. by_int (Leads o s f h after (insn.IfPair test target)) sights 1 _ tt
      (λ a. jump_if (insn.IfPair test target) (omega arith) refl 2 _
      (worked_leaves o s f h (slot.Int ∷ slot.Int ∷ []) [] after (going 2 Falls) row refl refl (λ areas made statics. tt))))

  pub same_jump_leads : (same : Bool) (target : ℕ) → worked o (object_slot o ∷ object_slot o ∷ []) [] s ≡ Some after
      → Leads o s f h after (insn.IfSame same target) (same_jump_effect same)
  same_jump_leads same target row = (
    omega arith,
    refl,
    worked_leaves o s f h (object_slot o ∷ object_slot o ∷ []) [] after (same_jump_effect same) row refl refl (λ areas made statics. tt),
  )

  pub null_jump_leads : (null : Bool) (target : ℕ) (sights : List Sight) → worked o (object_slot o ∷ []) [] s ≡ Some after
      → Leads o s f h after (insn.IfNull null target) (null_jump_effect null sights)
  unfolding null_jump_effect
  null_jump_leads null target sights row =
      by_reference (Leads o s f h after (insn.IfNull null target)) sights 0 _ tt
      (λ b. jump_if (insn.IfNull null target) (omega arith) refl 1 _
      (worked_leaves o s f h (object_slot o ∷ []) [] after (going 1 Falls) row refl refl (λ areas made statics. tt)))

  pub goto_leads : (target : ℕ) → Some s ≡ Some after → Leads o s f h after (insn.Goto target) (going 0 (Jumps 0))
  goto_leads target row =
      (omega arith, subst (λ t. LeavesAs o t f (going 0 (Jumps 0))) (same_Some s after row) (same_leaves o s f h (going 0 (Jumps 0)) refl refl refl))

  pub table_leads : (low : ℤ) (others : ℕ) (targets : List ℕ) (sights : List Sight) → worked o (slot.Int ∷ []) [] s ≡ Some after
      → Leads o s f h after (insn.Table low others targets) (table_effect low (length targets) sights)
  unfolding table_effect
  table_leads low others targets sights row =
      by_int (Leads o s f h after (insn.Table low others targets)) sights 0 _ tt
      (λ key. (
        table_within low (length targets) key,
        worked_leaves o s f h (slot.Int ∷ []) [] after (going 1 (Jumps (table_target low (length targets) key))) row refl refl (λ areas made statics. tt),
      ))

  pub lookup_leads : (others : ℕ) (keys : List ℤ) (targets : List ℕ) (sights : List Sight) → worked o (slot.Int ∷ []) [] s ≡ Some after
      → Leads o s f h after (insn.Lookup others keys targets) (lookup_effect keys (length targets) sights)
  unfolding lookup_effect
  lookup_leads others keys targets sights row =
      by_int (Leads o s f h after (insn.Lookup others keys targets)) sights 0 _ tt
      (λ key. (
        key_within (take (length targets) keys) key (length targets) (few_keys keys (length targets)),
        worked_leaves o s f h (slot.Int ∷ []) [] after (going 1 (Jumps (key_target (position (int_eq key) (take (length targets) keys))))) row refl refl
            (λ areas made statics. tt),
      ))

  -- ---- returns and athrow

  returned_words : is_whole s.stack ≡ true → (r : Reg) (result : Option Kind) → return_by o s r result ≡ Some after
      → HaveKinds (stack_slots (option_to_list result)) (take (reg_words r) f.stack)
  returned_words whole r None row = absurd (cc)
  returned_words whole r (Some k) row =
      let parts = cond-some_then (same_reg r (returned_by k)) (worked o (stack_slots (k ∷ [])) [] s) after row in
      let rest = option_map-some (λ stack. record s { stack = [] ++ stack }) (taken o (stack_slots (k ∷ [])) s.stack) after parts.1 in
      subst (λ n. HaveKinds (stack_slots (k ∷ [])) (take n f.stack)) (result_count r k parts.0)
      (taken_words o (stack_slots (k ∷ [])) s.stack rest.0 f.stack (kind_is_whole k) whole rest.1 h.in_stack)

  returned_nothing : (result : Option Kind) → plain_return_by s result ≡ Some after → HaveKinds (stack_slots (option_to_list result)) (take 0 f.stack)
  returned_nothing None row = tt
  returned_nothing (Some k) row = absurd (cc)

  pub return_leads : is_whole s.stack ≡ true → (value : Option Reg) → return_row o f.method value s ≡ Some after
      → Leads o s f h after (insn.Return value) (return_effect value)
  unfolding return_effect
  return_leads whole None row = returned_nothing (result_of o f.method) (sym (plain_return_is o f.method s) ∙ row)
  return_leads whole (Some reg.Int) row = returned_words whole reg.Int (result_of o f.method) (sym (return_is o f.method reg.Int s) ∙ row)
  return_leads whole (Some reg.Long) row = returned_words whole reg.Long (result_of o f.method) (sym (return_is o f.method reg.Long s) ∙ row)
  return_leads whole (Some reg.Ref) row = returned_words whole reg.Ref (result_of o f.method) (sym (return_is o f.method reg.Ref s) ∙ row)

  pub throw_leads : (sights : List Sight) → throw_row o s ≡ Some after → Leads o s f h after insn.Throw (throw_effect o sights)
  unfolding throw_row throw_effect
  throw_leads sights row =
      let rest = option_map-some (λ stack. record s { stack = [] ++ stack }) (taken o (slot.Ref (throwable_type o) ∷ []) s.stack) after row in
      by_object (Leads o s f h after insn.Throw) o (throwable_type o) sights 0 _
      (thrown_leads o s f h after insn.Throw (codes "java/lang/NullPointerException")) tt tt
      (λ it seen fits_it areas made. (reference_taken o (throwable_type o) (throwable_type o) s.stack rest.0 f.stack rest.1 h.in_stack).0)
