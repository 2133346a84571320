-- All rows together: each effect of the table leads where the checker's row does.
use Rattle.std.proofs.Common.{◌≡◌, ℕ, true, false, List, [], ◌∷◌, Option, Some, refl, sym, subst}
use Rattle.std.proofs.lemmas.Bool.{false≢true}
use Rattle.std.proofs.lemmas.Option.{same_Some}
use Rattle.fm_base.specs.declared.kinds.TypeRef.{TypeRef}
use Rattle.fm_code.specs.declared.instructions.Insn.{Insn}
use Rattle.fm_code.specs.declared.instructions.Insn.TheVariants as insn
use Rattle.fm_types.specs.NumberRows.{convert_row}
use Rattle.fm_types.specs.Rows.{row_after}
use Rattle.fm_types.specs.States.{is_whole, TypeState}
use Rattle.fm_types.specs.declared.slots.Slot.TheVariants as slot
use Rattle.fm_world.specs.Programs.{Outline}
use Rattle.fm_world.specs.declared.uses.Use.{Use}
use Rattle.fm_frames.specs.Effects.{int_word, long_words, null_word, words}
use Rattle.fm_frames.specs.Rows.{effect_of}
use Rattle.fm_frames.specs.Sights.{Sight}
use Rattle.fm_frames.specs.States.{Frame}
use Rattle.fm_law_sound.specs.Leading.{is_call, LeavesAs, NamesField}
use Rattle.fm_law_sound.specs.Sound.{FrameHasKinds}
use Rattle.fm_law_sound.proofs.ArrayRows.{array_load_leads, array_store_leads, length_leads, multi_array_leads, new_array_leads, new_references_leads}
use Rattle.fm_law_sound.proofs.JumpRows.{goto_leads, int_jump_leads, lookup_leads, move_leads, null_jump_leads, pair_jump_leads, return_leads, same_jump_leads, table_leads, throw_leads}
use Rattle.fm_law_sound.proofs.Leaving.{pushed_leaves, same_leaves}
use Rattle.fm_law_sound.proofs.NumberRows.{constant_leads, increment_leads, int_gives, Leads, load_leads, long_gives, number_leads, store_leads}
use Rattle.fm_law_sound.proofs.ObjectRows.{cast_leads, get_field_leads, get_static_leads, is_a_leads, new_leads, put_field_leads, put_static_leads}

module _ (o : Outline) (s : TypeState) (f : Frame) (h : FrameHasKinds s f.locals f.stack) (after : TypeState) where
  pub effect_leads : (i : Insn) (u : Use) (news : ℕ → Option TypeRef) (byte : Option ℕ) (sights : List Sight) → is_whole s.stack ≡ true
      → NamesField o u i → is_call i ≡ false → row_after o f.method f.item news u i s ≡ Some after
      → Leads o s f h after i (effect_of o f.method u i byte sights)
  unfolding convert_row row_after effect_of
  effect_leads insn.Nop u news byte sights whole names call row =
      (refl, subst (λ t. LeavesAs o t f (words 0 [])) (same_Some s after row) (same_leaves o s f h (words 0 []) refl refl refl))
  effect_leads insn.Null u news byte sights whole names call row =
      (refl, pushed_leaves o s f h (slot.Null ∷ []) after (words 0 null_word) row refl refl (λ areas made statics. (tt, tt)))
  effect_leads (insn.Const n) u news byte sights whole names call row =
      (refl, pushed_leaves o s f h (slot.Int ∷ []) after (words 0 (int_word n)) row refl refl (int_gives o f n))
  effect_leads (insn.LongConst n) u news byte sights whole names call row =
      (refl, pushed_leaves o s f h (slot.Top ∷ slot.Long ∷ []) after (words 0 (long_words n)) row refl refl (long_gives o f n))
  effect_leads (insn.LoadPool index) u news byte sights whole names call row = constant_leads o s f h after index u row
  effect_leads (insn.Load r k) u news byte sights whole names call row = load_leads o s f h after r k row
  effect_leads (insn.Store r k) u news byte sights whole names call row = store_leads o s f h after r k row
  effect_leads (insn.Inc k by) u news byte sights whole names call row = increment_leads o s f h after k by row
  effect_leads insn.Pop u news byte sights whole names call row = move_leads o s f h after insn.Pop _ refl refl row
  effect_leads insn.Pop2 u news byte sights whole names call row = move_leads o s f h after insn.Pop2 _ refl refl row
  effect_leads insn.Dup u news byte sights whole names call row = move_leads o s f h after insn.Dup _ refl refl row
  effect_leads insn.DupX1 u news byte sights whole names call row = move_leads o s f h after insn.DupX1 _ refl refl row
  effect_leads insn.DupX2 u news byte sights whole names call row = move_leads o s f h after insn.DupX2 _ refl refl row
  effect_leads insn.Dup2 u news byte sights whole names call row = move_leads o s f h after insn.Dup2 _ refl refl row
  effect_leads insn.Dup2X1 u news byte sights whole names call row = move_leads o s f h after insn.Dup2X1 _ refl refl row
  effect_leads insn.Dup2X2 u news byte sights whole names call row = move_leads o s f h after insn.Dup2X2 _ refl refl row
  effect_leads insn.Swap u news byte sights whole names call row = move_leads o s f h after insn.Swap _ refl refl row
  effect_leads (insn.IfInt test target) u news byte sights whole names call row = int_jump_leads o s f h after test target sights row
  effect_leads (insn.IfPair test target) u news byte sights whole names call row = pair_jump_leads o s f h after test target sights row
  effect_leads (insn.IfSame same target) u news byte sights whole names call row = same_jump_leads o s f h after same target row
  effect_leads (insn.IfNull null target) u news byte sights whole names call row = null_jump_leads o s f h after null target sights row
  effect_leads (insn.Goto target) u news byte sights whole names call row = goto_leads o s f h after target row
  effect_leads (insn.Table low others targets) u news byte sights whole names call row = table_leads o s f h after low others targets sights row
  effect_leads (insn.Lookup others keys targets) u news byte sights whole names call row =
      lookup_leads o s f h after others keys targets sights row
  effect_leads (insn.Return value) u news byte sights whole names call row = return_leads o s f h after whole value row
  effect_leads insn.Throw u news byte sights whole names call row = throw_leads o s f h after sights row
  effect_leads (insn.New index) u news byte sights whole names call row = new_leads o s f h after index f.item u row
  effect_leads (insn.GetStatic index) u news byte sights whole names call row = get_static_leads o s f h after index u names row
  effect_leads (insn.PutStatic index) u news byte sights whole names call row = put_static_leads o s f h after index u row
  effect_leads (insn.GetField index) u news byte sights whole names call row = get_field_leads o s f h after index u sights row
  effect_leads (insn.PutField index) u news byte sights whole names call row = put_field_leads o s f h after index u sights row
  effect_leads (insn.Cast index) u news byte sights whole names call row = cast_leads o s f h after index u sights row
  effect_leads (insn.IsA index) u news byte sights whole names call row = is_a_leads o s f h after index u sights row
  effect_leads (insn.ArrayLoad e) u news byte sights whole names call row = array_load_leads o s f h after e sights row
  effect_leads (insn.ArrayStore e) u news byte sights whole names call row = array_store_leads o s f h after e sights row
  effect_leads insn.Length u news byte sights whole names call row = length_leads o s f h after sights row
  effect_leads (insn.NewArray e) u news byte sights whole names call row = new_array_leads o s f h after e sights row
  effect_leads (insn.NewRefs index) u news byte sights whole names call row = new_references_leads o s f h after index u sights row
  effect_leads (insn.MultiArray index dimensions) u news byte sights whole names call row =
      multi_array_leads o s f h after index dimensions u sights row
  effect_leads (insn.Virtual index) u news byte sights whole names call row = absurd (false≢true (sym call))
  effect_leads (insn.Interface index) u news byte sights whole names call row = absurd (false≢true (sym call))
  effect_leads (insn.Special index) u news byte sights whole names call row = absurd (false≢true (sym call))
  effect_leads (insn.Static index) u news byte sights whole names call row = absurd (false≢true (sym call))
  effect_leads (insn.LeftOut opcode) u news byte sights whole names call row = absurd (cc)
  effect_leads i u news byte sights whole names call row = number_leads o s f h after i f.method u byte sights refl refl row
