-- The rows of constants, locals and moves of the stack: what is moved goes on fitting, and a text is given once its object is there.
use Rattle.std.proofs.Common.{◌≡◌, ◌∙◌, sym, ℕ, ℤ, true, List, [], ◌∷◌, map, cond, Option, Some, None, option_and_then, refl, subst}
use Rattle.std.proofs.lemmas.Bool.{false≢true}
use Rattle.fm_base.specs.declared.kinds.TypeRef.{TypeRef}
use Rattle.fm_cells.specs.Stores.{Store}
use Rattle.fm_code.specs.declared.instructions.Insn.{Insn}
use Rattle.fm_code.specs.declared.operations.Reg.{Reg}
use Rattle.fm_code.specs.declared.operations.Reg.TheVariants as reg
use Rattle.fm_frames.proofs.LiteralSteps.{class-literal, text-literal}
use Rattle.fm_types.specs.Fits.{fits_type}
use Rattle.fm_types.specs.Moves.{moved, Moves, moves_of}
use Rattle.fm_types.specs.NumberRows.{constant_row, increment_row, is_int, load_row, move_row, store_row}
use Rattle.fm_types.specs.States.{is_whole, local_at, pushed, TypeState}
use Rattle.fm_types.specs.declared.slots.Slot.{Slot}
use Rattle.fm_types.specs.declared.slots.Slot.TheVariants as slot
use Rattle.fm_world.specs.Programs.{Outline}
use Rattle.fm_world.specs.declared.uses.Use.{Use}
use Rattle.fm_world.specs.declared.uses.Use.TheVariants as resolved
use Rattle.fm_frames.specs.Acts.{literal_type, Sources, sum_of}
use Rattle.fm_frames.specs.Effects.{giving_literal, int_word, long_words, OfOperand, Source, words}
use Rattle.fm_frames.specs.Literals.{class_literal}
use Rattle.fm_frames.specs.NativeRows.{class_type, text_type}
use Rattle.fm_frames.specs.NumberRows.{constant_effect, increment_effect, load_effect, move_effect, moved_words, store_effect}
use Rattle.fm_frames.specs.Runnable.{IsUseIn}
use Rattle.fm_frames.specs.States.{Areas, word_at}
use Rattle.fm_frames.specs.declared.values.Value.{Value}
use Rattle.fm_same.proofs.StoreChanges.{Extends}
use Rattle.fm_law_sound.specs.Leading.{sources_of}
use Rattle.fm_law_sound.proofs.FramesLeft as left
use Rattle.fm_law_sound.proofs.FramesLeft.{AreAs}
use Rattle.fm_law_no_fault.proofs.ActsSuits.{leads_weaker}
use Rattle.fm_law_no_fault.proofs.CellsLeave.{cells_before, cells_left}
use Rattle.fm_law_no_fault.proofs.Owing.{Cell, CellsFit}
use Rattle.fm_law_no_fault.proofs.RowCases.{Gives, Leaves, pushed_leaves, Row, Whole}
use Rattle.fm_types.proofs.LeastJoins.{same_type-eq}
use Rattle.fm_types.proofs.Order.{type-refl}
use Rattle.fm_world.specs.Chains.{same_type}

-- an int is written where an int was
int_cell : (o : Outline) (store : Store) (own : ℕ) (news : ℕ → Option TypeRef) (s : Slot) (v : Value) → is_int s ≡ true → Cell o store own news s v
int_cell o store own news slot.Int v is = tt
int_cell o store own news s v is = absurd (false≢true is)

module _ (r : Row) where
  abbrev o : Outline
  o = r.program.outline

  -- ---- constants

  -- words are put on top
  pub given_whole : (slots : List Slot) (gives : List Source) → Some (pushed slots r.before) ≡ Some r.after → Gives r [] slots gives → Whole r (words 0 gives)
  given_whole slots gives row fits = record { acts = tt; next = pushed_leaves r slots (words 0 gives) row refl refl fits }

  -- a literal of a type is given
  literal_whole : (literal : ℕ) (t : TypeRef) → literal_type o literal ≡ t → Some (pushed (slot.Ref t ∷ []) r.before) ≡ Some r.after
      → Whole r (giving_literal 0 literal)
  literal_whole literal t is row = record {
    acts = tt;
    next = pushed_leaves r (slot.Ref t ∷ []) (giving_literal 0 literal) row refl refl
        (λ y made went. (
          leads_weaker o y.store (same_type (literal_type o literal)) (λ u. fits_type o.classes u t)
              (λ u same. subst (λ w. fits_type o.classes w t ≡ true) (sym is ∙ same_type-eq (literal_type o literal) u same)
              (type-refl o.classes r.steps.tree t)) _ (went.areas.literals literal),
          tt,
        ));
  }

  pub constant_whole : (u : Use) → IsUseIn o u → constant_row o u r.before ≡ Some r.after → Whole r (constant_effect o u)
  unfolding constant_row constant_effect
  constant_whole (resolved.OfType t) inside row = literal_whole (class_literal o t.0) (class_type o) (class-literal o t.0) row
  constant_whole (resolved.OfField g t) inside row = absurd (cc)
  constant_whole (resolved.OfMethod m t) inside row = absurd (cc)
  constant_whole (resolved.OfInt n) inside row = given_whole (slot.Int ∷ []) (int_word n) row (λ y made went. (tt, tt))
  constant_whole (resolved.OfLong n) inside row = given_whole (slot.Top ∷ slot.Long ∷ []) (long_words n) row (λ y made went. (tt, (tt, tt)))
  constant_whole (resolved.OfText text) inside row = literal_whole text (text_type o) (text-literal o text inside) row
  constant_whole resolved.Unused inside row = absurd (cc)

  -- ---- locals

  abbrev Later : Areas → Slot → Value → Type 0
  Later y s v = Cell o y.store r.own r.news s v

  abbrev from : Areas → List ℕ → Sources
  from y made = sources_of r.frame y made

  before : (y : Areas) → Extends r.areas.store y.store → AreAs (Later y) (Later y) r.before r.frame.locals r.frame.stack
  before y more = cells_before o r.areas.store r.own r.news r.before r.frame r.locals r.stack y more

  fit : (y : Areas) (known : TypeState) (locals stack : List Value) → AreAs (Later y) (Later y) known locals stack
      → CellsFit o y.store r.own r.news known locals stack
  fit y known locals stack are = cells_left o r.areas.store r.own r.news r.before r.frame r.locals r.stack y known locals stack are

  load_cells : (q : Reg) (k : ℕ) → load_row q k r.before ≡ Some r.after → Leaves r (load_effect q k)
  load_cells q k row y made went =
      fit y _ _ _ (left.load_leaves (Later y) (Later y) r.before r.after (from y made) (before y went.extends) (λ v. tt) tt (λ s v h. h) (λ q s v is h. h) q k row)

  pub load_whole : (q : Reg) (k : ℕ) → load_row q k r.before ≡ Some r.after → Whole r (load_effect q k)
  unfolding load_effect
  load_whole reg.Int k row = record { acts = tt; next = load_cells reg.Int k row }
  load_whole reg.Long k row = record { acts = tt; next = load_cells reg.Long k row }
  load_whole reg.Ref k row = record { acts = tt; next = load_cells reg.Ref k row }

  store_cells : (q : Reg) (k : ℕ) → store_row o q k r.before ≡ Some r.after → Leaves r (store_effect q k)
  store_cells q k row y made went =
      fit y _ _ _ (left.store_leaves (Later y) (Later y) r.before r.after (from y made) (before y went.extends) (λ v. tt) tt (λ s v h. h) (λ q s v is h. h) o q k row)

  pub store_whole : (q : Reg) (k : ℕ) → store_row o q k r.before ≡ Some r.after → Whole r (store_effect q k)
  unfolding store_effect
  store_whole reg.Int k row = record { acts = tt; next = store_cells reg.Int k row }
  store_whole reg.Long k row = record { acts = tt; next = store_cells reg.Long k row }
  store_whole reg.Ref k row = record { acts = tt; next = store_cells reg.Ref k row }

  pub increment_whole : (k : ℕ) (by : ℤ) → increment_row k r.before ≡ Some r.after → Whole r (increment_effect k by)
  increment_whole k by row = record {
    acts = tt;
    next = λ y made went. fit y _ _ _
        (left.increment_leaves (Later y) (Later y) r.before r.after (from y made) (before y went.extends) k by row
        (λ is. int_cell o y.store r.own r.news (local_at r.before.locals k) (sum_of (word_at r.frame.locals k) by) is));
  }

  -- ---- moves

  moved_whole : (m : Moves)
      → option_and_then (λ stack. cond (is_whole stack) (Some (record r.before { stack = stack })) None) (moved m r.before.stack) ≡ Some r.after
      → Whole r (words m.takes (map OfOperand m.gives))
  moved_whole m row = record {
    acts = tt;
    next = λ y made went. fit y _ _ _ (left.moved_leaves (Later y) (Later y) r.before r.after (from y made) (before y went.extends) m row);
  }

  pub move_whole : (i : Insn) (m : Moves) → moves_of i ≡ Some m → move_row i r.before ≡ Some r.after → Whole r (move_effect i)
  unfolding move_effect
  move_whole i m is row = subst (λ found. Whole r (moved_words found)) (sym is) (moved_whole m (left.moved_row r.before r.after i m is row))
