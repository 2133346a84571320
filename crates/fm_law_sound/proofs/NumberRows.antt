-- The rows of constants, locals, moves of the stack and numbers leave what the checker's rows give.
use Rattle.std.proofs.Common.{◌≡◌, ℕ, ℤ, Bool, true, false, List, [], ◌∷◌, codes, length, Option, Some, refl, ap}
use Rattle.fm_code.specs.StackWords.{number_given}
use Rattle.fm_code.specs.declared.instructions.Insn.{Insn}
use Rattle.fm_code.specs.declared.instructions.Insn.TheVariants as insn
use Rattle.fm_code.specs.declared.operations.Reg.{Reg}
use Rattle.fm_code.specs.declared.operations.Reg.TheVariants as reg
use Rattle.fm_types.proofs.EachCheckRow.{given_by, is_number, wanted_by}
use Rattle.fm_types.specs.NumberRows.{constant_row, increment_row, load_row, number_slots, store_row}
use Rattle.fm_types.specs.States.{local_at, TypeState, worked}
use Rattle.fm_types.specs.declared.slots.Slot.TheVariants as slot
use Rattle.fm_world.specs.Programs.{Outline}
use Rattle.fm_world.specs.declared.uses.Use.{Use}
use Rattle.fm_world.specs.declared.uses.Use.TheVariants as resolved
use Rattle.fm_code.specs.Edges.{falls_through}
use Rattle.fm_frames.proofs.EachNumber.{each_number}
use Rattle.fm_frames.specs.Acts.{sum_of}
use Rattle.fm_frames.specs.Effects.{Effect, given_number, int_word, long_words, words}
use Rattle.fm_frames.specs.NumberRows.{constant_effect, increment_effect, load_effect, store_effect}
use Rattle.fm_frames.specs.Operands.{thrown}
use Rattle.fm_frames.specs.Rows.{effect_of}
use Rattle.fm_frames.specs.Sights.{Sight}
use Rattle.fm_frames.specs.States.{Frame, word_at}
use Rattle.fm_law_sound.specs.Leading.{LeadsAs, LeavesAs, sources_of}
use Rattle.fm_law_sound.specs.Sound.{FrameHasKinds, HasKind, LocalHasKind}
use Rattle.fm_law_sound.proofs.Cases.{by_int, by_long}
use Rattle.fm_law_sound.proofs.FramesLeft as left
use Rattle.fm_law_sound.proofs.KindLemmas.{as_local, from_int, int_local, local_kind_or, suited}
use Rattle.fm_law_sound.proofs.Leaving.{kinds_before, kinds_left, pushed_leaves, worked_leaves}
use Rattle.fm_law_sound.specs.BuiltIns.{GivesSlots}

-- ---- words of numbers

pub int_gives : (o : Outline) (f : Frame) (n : ℤ) → GivesSlots o f (slot.Int ∷ []) (int_word n)
int_gives o f n areas made statics = ((n, refl), tt)

pub long_gives : (o : Outline) (f : Frame) (n : ℤ) → GivesSlots o f (slot.Top ∷ slot.Long ∷ []) (long_words n)
long_gives o f n areas made statics = (refl, ((n, refl), tt))

number_gives : (o : Outline) (f : Frame) (is_long : Bool) (n : ℤ) → GivesSlots o f (number_slots is_long) (given_number is_long n)
number_gives o f true n = long_gives o f n
number_gives o f false n = int_gives o f n

module _ (o : Outline) (s : TypeState) (f : Frame) (h : FrameHasKinds s f.locals f.stack) (after : TypeState) where
  -- the effect leads where the checker's row does
  abbrev pub Leads : Insn → Effect → Type 0
  Leads i e = LeadsAs o i after f e e.next

  pub thrown_leads : (i : Insn) (name : List ℕ) → Leads i (thrown o name)
  thrown_leads i name areas made = tt

  -- ---- constants

  pub constant_leads : (index : ℕ) (u : Use) → constant_row o u s ≡ Some after → Leads (insn.LoadPool index) (constant_effect o u)
  unfolding constant_row constant_effect
  constant_leads index (resolved.OfType t) row =
      (refl, pushed_leaves o s f h (slot.Ref _ ∷ []) after (constant_effect o (resolved.OfType t)) row refl refl (λ areas made statics. (tt, tt)))
  constant_leads index (resolved.OfField g t) row = absurd (cc)
  constant_leads index (resolved.OfMethod m t) row = absurd (cc)
  constant_leads index (resolved.OfInt n) row =
      (refl, pushed_leaves o s f h (slot.Int ∷ []) after (words 0 (int_word n)) row refl refl (int_gives o f n))
  constant_leads index (resolved.OfLong n) row =
      (refl, pushed_leaves o s f h (slot.Top ∷ slot.Long ∷ []) after (words 0 (long_words n)) row refl refl (long_gives o f n))
  constant_leads index (resolved.OfText text) row =
      (refl, pushed_leaves o s f h (slot.Ref _ ∷ []) after (constant_effect o (resolved.OfText text)) row refl refl (λ areas made statics. (tt, tt)))
  constant_leads index resolved.Unused row = absurd (cc)

  -- ---- locals

  load_leaves : (r : Reg) (k : ℕ) → load_row r k s ≡ Some after → LeavesAs o after f (load_effect r k)
  load_leaves r k row areas made statics =
      kinds_left o s f h _ _ _
      (left.load_leaves LocalHasKind HasKind s after (sources_of f areas made) (kinds_before o s f h) (λ v. tt) refl as_local suited r k row)

  pub load_leads : (r : Reg) (k : ℕ) → load_row r k s ≡ Some after → Leads (insn.Load r k) (load_effect r k)
  unfolding load_effect
  load_leads reg.Int k row = (refl, load_leaves reg.Int k row)
  load_leads reg.Long k row = (refl, load_leaves reg.Long k row)
  load_leads reg.Ref k row = (refl, load_leaves reg.Ref k row)

  store_leaves : (r : Reg) (k : ℕ) → store_row o r k s ≡ Some after → LeavesAs o after f (store_effect r k)
  store_leaves r k row areas made statics =
      kinds_left o s f h _ _ _
      (left.store_leaves LocalHasKind HasKind s after (sources_of f areas made) (kinds_before o s f h) (λ v. tt) refl as_local suited o r k row)

  pub store_leads : (r : Reg) (k : ℕ) → store_row o r k s ≡ Some after → Leads (insn.Store r k) (store_effect r k)
  unfolding store_effect
  store_leads reg.Int k row = (refl, store_leaves reg.Int k row)
  store_leads reg.Long k row = (refl, store_leaves reg.Long k row)
  store_leads reg.Ref k row = (refl, store_leaves reg.Ref k row)

  pub increment_leads : (k : ℕ) (by : ℤ) → increment_row k s ≡ Some after → Leads (insn.Inc k by) (increment_effect k by)
  increment_leads k by row = (
    refl,
    λ areas made statics. kinds_left o s f h _ _ _
        (left.increment_leaves LocalHasKind HasKind s after (sources_of f areas made) (kinds_before o s f h) k by row
        (λ is. let int = int_local (local_at s.locals k) (word_at f.locals k) is (local_kind_or s.locals f.locals k h.in_locals) in
        from_int (local_at s.locals k) (sum_of (word_at f.locals k) by) is (_, ap (λ v. sum_of v by) int.1))),
  )

  -- ---- numbers

  -- what takes numbers and gives one
  pub number_leads : (i : Insn) (method : ℕ) (u : Use) (byte : Option ℕ) (sights : List Sight) → is_number i ≡ true → falls_through i ≡ true
      → worked o (wanted_by i) (given_by i) s ≡ Some after → Leads i (effect_of o method u i byte sights)
  number_leads i method u byte sights is falls row =
      each_number o sights method u byte (Leads i) i is (record {
        int = λ n at k each. by_int (Leads i) sights n k tt each;
        long = λ n at k each. by_long (Leads i) sights n k tt each;
        thrown = thrown_leads i (codes "java/lang/ArithmeticException");
        gives = λ n. (
          falls,
          worked_leaves o s f h (wanted_by i) (given_by i) after (words (length (wanted_by i)) (given_number (number_given i) n)) row refl refl
              (number_gives o f (number_given i) n),
        );
      })
