-- All rows but those of calls: the effect of each leads on to cells that fit, and none is a fault.
use Rattle.std.proofs.Common.{◌≡◌, ℕ, ℤ, Bool, true, false, List, [], ◌∷◌, codes, length, position, take, Option, Some, refl, sym, subst}
use Rattle.std.specs.Ordering.{int_eq}
use Rattle.std.proofs.lemmas.Bool.{false≢true}
use Rattle.fm_code.specs.StackWords.{number_given}
use Rattle.fm_code.specs.declared.instructions.Insn.{Insn}
use Rattle.fm_code.specs.declared.instructions.Insn.TheVariants as insn
use Rattle.fm_types.proofs.EachCheckRow.{given_by, is_number, wanted_by}
use Rattle.fm_types.specs.Named.{class_of_method, object_slot}
use Rattle.fm_types.specs.NumberRows.{convert_row, number_slots}
use Rattle.fm_types.specs.Rows.{row_after}
use Rattle.fm_types.specs.States.{worked}
use Rattle.fm_types.specs.Typed.{type_of_use}
use Rattle.fm_types.specs.declared.slots.Slot.{Slot}
use Rattle.fm_types.specs.declared.slots.Slot.TheVariants as slot
use Rattle.fm_world.specs.Programs.{Outline}
use Rattle.fm_world.specs.declared.uses.Use.{Use}
use Rattle.fm_frames.proofs.EachNumber.{each_number}
use Rattle.fm_frames.specs.Effects.{Falls, given_number, going, int_word, Jumps, JumpsIfSame, long_words, Next, null_word, words}
use Rattle.fm_frames.specs.JumpRows.{int_jump_effect, jumps_if, key_target, lookup_effect, null_jump_effect, pair_jump_effect, table_effect, table_target}
use Rattle.fm_frames.specs.Rows.{effect_of}
use Rattle.fm_frames.specs.Runnable.{IsUseIn}
use Rattle.fm_frames.specs.Sights.{Sight, sights}
use Rattle.fm_law_sound.specs.Leading.{is_call, NamesField}
use Rattle.fm_law_sound.specs.Resolved.{IsNamed}
use Rattle.fm_law_no_fault.proofs.ArrayRows.{array_load_whole, array_store_whole, length_whole, new_array_whole, new_references_whole}
use Rattle.fm_law_no_fault.proofs.JumpRows.{return_whole, throw_whole}
use Rattle.fm_law_no_fault.proofs.MoveRows.{constant_whole, given_whole, increment_whole, load_whole, move_whole, store_whole}
use Rattle.fm_law_no_fault.proofs.NestedSuits.{multi_array_whole}
use Rattle.fm_law_no_fault.proofs.ObjectRows.{cast_whole, get_field_whole, get_static_whole, is_a_whole, new_whole, put_field_whole, put_static_whole}
use Rattle.fm_law_no_fault.proofs.RowCases.{asked_int, asked_long, asked_reference, int_given, Leaves, long_given, Row, same_leaves, thrown_whole, Whole, worked_leaves}

-- where the item is a `new`, the method's items make what it names
abbrev pub MakesNamed : Row → Use → Insn → Type 0
MakesNamed r u (insn.New index) = r.news r.frame.item ≡ type_of_use r.program.outline u
MakesNamed r u i = Unit {0}

module _ (r : Row) where
  abbrev o : Outline
  o = r.program.outline

  abbrev seen : List Sight
  seen = sights o r.areas.store r.frame.stack

  -- ---- numbers and jumps

  abbrev one_int : List Slot
  one_int = slot.Int ∷ []

  abbrev two_ints : List Slot
  two_ints = slot.Int ∷ slot.Int ∷ []

  abbrev one_long : List Slot
  one_long = slot.Top ∷ slot.Long ∷ []

  number_gives : (wanted : List Slot) (is_long : Bool) (n : ℤ) → worked o wanted (number_slots is_long) r.before ≡ Some r.after
      → Whole r (words (length wanted) (given_number is_long n))
  number_gives wanted true n typed = long_given r wanted n typed
  number_gives wanted false n typed = int_given r wanted n typed

  -- what takes numbers and gives one
  number_whole : (i : Insn) (u : Use) (byte : Option ℕ) → is_number i ≡ true → worked o (wanted_by i) (given_by i) r.before ≡ Some r.after
      → Whole r (effect_of o r.frame.method u i byte seen)
  number_whole i u byte is typed =
      each_number o seen r.frame.method u byte (Whole r) i is (record {
        int = λ n at k each. asked_int r (wanted_by i) (given_by i) typed n at k each;
        long = λ n at k each. asked_long r (wanted_by i) (given_by i) typed n at k each;
        thrown = thrown_whole r (codes "java/lang/ArithmeticException") r.cells.built_in.thrown.1.0;
        gives = λ n. number_gives (wanted_by i) (number_given i) n typed;
      })

  jump_if : (takes : ℕ) (b : Bool) → Leaves r (going takes Falls) → Whole r (going takes (jumps_if b))
  jump_if takes true leaves = record { acts = tt; next = leaves }
  jump_if takes false leaves = record { acts = tt; next = leaves }

  -- words are taken, and the frame goes on
  taken_leaves : (wanted : List Slot) (next : Next) → worked o wanted [] r.before ≡ Some r.after → Leaves r (going (length wanted) next)
  taken_leaves wanted next typed = worked_leaves r wanted [] (going (length wanted) next) typed refl refl (λ y made went. tt)

  -- ---- all rows but those of calls

  pub plain_whole : (i : Insn) (u : Use) (byte : Option ℕ) → NamesField o u i → IsNamed r.program r.frame.method i u → MakesNamed r u i → is_call i ≡ false
      → row_after o r.frame.method r.frame.item r.news u i r.before ≡ Some r.after → Whole r (effect_of o r.frame.method u i byte seen)
  unfolding convert_row row_after effect_of int_jump_effect pair_jump_effect null_jump_effect table_effect lookup_effect
  plain_whole insn.Nop u byte names named makes call typed = record { acts = tt; next = same_leaves r (words 0 []) typed refl refl refl }
  plain_whole insn.Null u byte names named makes call typed = given_whole r (slot.Null ∷ []) null_word typed (λ y made went. (refl, tt))
  plain_whole (insn.Const n) u byte names named makes call typed = given_whole r one_int (int_word n) typed (λ y made went. (tt, tt))
  plain_whole (insn.LongConst n) u byte names named makes call typed = given_whole r one_long (long_words n) typed (λ y made went. (tt, (tt, tt)))
  plain_whole (insn.LoadPool index) u byte names named makes call typed =
      constant_whole r u (subst (IsUseIn o) named.use_is (r.steps.calls.runnable.uses (class_of_method o r.frame.method) index)) typed
  plain_whole (insn.Load q k) u byte names named makes call typed = load_whole r q k typed
  plain_whole (insn.Store q k) u byte names named makes call typed = store_whole r q k typed
  plain_whole (insn.Inc k by) u byte names named makes call typed = increment_whole r k by typed
  plain_whole insn.Pop u byte names named makes call typed = move_whole r insn.Pop _ refl typed
  plain_whole insn.Pop2 u byte names named makes call typed = move_whole r insn.Pop2 _ refl typed
  plain_whole insn.Dup u byte names named makes call typed = move_whole r insn.Dup _ refl typed
  plain_whole insn.DupX1 u byte names named makes call typed = move_whole r insn.DupX1 _ refl typed
  plain_whole insn.DupX2 u byte names named makes call typed = move_whole r insn.DupX2 _ refl typed
  plain_whole insn.Dup2 u byte names named makes call typed = move_whole r insn.Dup2 _ refl typed
  plain_whole insn.Dup2X1 u byte names named makes call typed = move_whole r insn.Dup2X1 _ refl typed
  plain_whole insn.Dup2X2 u byte names named makes call typed = move_whole r insn.Dup2X2 _ refl typed
  plain_whole insn.Swap u byte names named makes call typed = move_whole r insn.Swap _ refl typed
  plain_whole (insn.IfInt test target) u byte names named makes call typed = asked_int r one_int [] typed 0 refl _ (λ a. jump_if 1 _ (taken_leaves one_int Falls typed))
  plain_whole (insn.IfPair test target) u byte names named makes call typed =
      asked_int r two_ints [] typed 0 refl _ (λ b. asked_int r two_ints [] typed 1 refl _ (λ a. jump_if 2 _ (taken_leaves two_ints Falls typed)))
  plain_whole (insn.IfSame same target) u byte names named makes call typed =
      record { acts = tt; next = taken_leaves (object_slot o ∷ object_slot o ∷ []) (JumpsIfSame same) typed }
  plain_whole (insn.IfNull null target) u byte names named makes call typed =
      asked_reference r (object_slot o ∷ []) [] typed 0 _ refl _ (λ b. jump_if 1 _ (taken_leaves (object_slot o ∷ []) Falls typed))
  plain_whole (insn.Goto target) u byte names named makes call typed = record { acts = tt; next = same_leaves r (going 0 (Jumps 0)) typed refl refl refl }
  plain_whole (insn.Table low others targets) u byte names named makes call typed =
      asked_int r one_int [] typed 0 refl _ (λ key. record { acts = tt; next = taken_leaves one_int (Jumps (table_target low (length targets) key)) typed })
  plain_whole (insn.Lookup others keys targets) u byte names named makes call typed =
      asked_int r one_int [] typed 0 refl _
      (λ key. record { acts = tt; next = taken_leaves one_int (Jumps (key_target (position (int_eq key) (take (length targets) keys)))) typed })
  plain_whole (insn.Return value) u byte names named makes call typed = return_whole r value typed
  plain_whole insn.Throw u byte names named makes call typed = throw_whole r typed
  plain_whole (insn.New index) u byte names named makes call typed = new_whole r u makes typed
  plain_whole (insn.GetStatic index) u byte names named makes call typed = get_static_whole r index u names typed
  plain_whole (insn.PutStatic index) u byte names named makes call typed = put_static_whole r u typed
  plain_whole (insn.GetField index) u byte names named makes call typed = get_field_whole r index u named typed
  plain_whole (insn.PutField index) u byte names named makes call typed = put_field_whole r u typed
  plain_whole (insn.Cast index) u byte names named makes call typed = cast_whole r u typed
  plain_whole (insn.IsA index) u byte names named makes call typed = is_a_whole r u typed
  plain_whole (insn.ArrayLoad e) u byte names named makes call typed = array_load_whole r e typed
  plain_whole (insn.ArrayStore e) u byte names named makes call typed = array_store_whole r e typed
  plain_whole insn.Length u byte names named makes call typed = length_whole r typed
  plain_whole (insn.NewArray e) u byte names named makes call typed = new_array_whole r e typed
  plain_whole (insn.NewRefs index) u byte names named makes call typed = new_references_whole r u typed
  plain_whole (insn.MultiArray index dimensions) u byte names named makes call typed = multi_array_whole r dimensions u typed
  plain_whole (insn.Virtual index) u byte names named makes call typed = absurd (false≢true (sym call))
  plain_whole (insn.Interface index) u byte names named makes call typed = absurd (false≢true (sym call))
  plain_whole (insn.Special index) u byte names named makes call typed = absurd (false≢true (sym call))
  plain_whole (insn.Static index) u byte names named makes call typed = absurd (false≢true (sym call))
  plain_whole (insn.LeftOut opcode) u byte names named makes call typed = absurd (cc)
  plain_whole i u byte names named makes call typed = number_whole i u byte refl typed
