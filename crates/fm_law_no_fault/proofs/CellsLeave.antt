-- The cells of the frame that an effect leaves fit the state that the row of the checker gives: one lemma for each way in which rows are made.
use Rattle.std.proofs.Common.{◌≡◌, ℕ, ◌+◌, List, [], ◌++◌, length, drop, map, Option, Some, refl}
use Rattle.std.specs.List.{AllZip}
use Rattle.fm_base.specs.declared.kinds.TypeRef.{TypeRef}
use Rattle.fm_cells.specs.Stores.{Store}
use Rattle.fm_types.specs.States.{TypeState, worked, worked_below}
use Rattle.fm_types.specs.declared.slots.Slot.{Slot}
use Rattle.fm_types.proofs.Zips.{zip-implied, zip-drop}
use Rattle.fm_world.specs.Programs.{Outline}
use Rattle.fm_frames.specs.Acts.{cell_of, value_of}
use Rattle.fm_frames.specs.Effects.{Effect, words}
use Rattle.fm_frames.specs.States.{Areas, Frame}
use Rattle.fm_frames.specs.declared.values.Value.{Value}
use Rattle.fm_same.proofs.StoreChanges.{Extends}
use Rattle.fm_law_sound.specs.Leading.{sources_of}
use Rattle.fm_law_sound.proofs.FramesLeft as left
use Rattle.fm_law_sound.proofs.FramesLeft.{AreAs}
use Rattle.fm_law_no_fault.specs.Whole.{LocalFits, WordFits}
use Rattle.fm_law_no_fault.proofs.ActsKeep.{types_after, Went}
use Rattle.fm_law_no_fault.proofs.Owing.{Cell, CellsFit, CellsLeave, GivesCells}
use Rattle.fm_law_no_fault.proofs.StoresKeep.{cell-later}

-- ---- cells that stay

pub cells-later : (o : Outline) (store later : Store) (own : ℕ) (news : ℕ → Option TypeRef) → Extends store later → (xs : List Slot) (words : List Value)
    → AllZip (Cell o store own news) xs words → AllZip (Cell o later own news) xs words
cells-later o store later own news more xs words h =
    zip-implied (Cell o store own news) (Cell o later own news) (λ s v fits. cell-later o store later more own news s (cell_of v) fits) xs words h

pub stack_cells : (o : Outline) (store : Store) (own : ℕ) (news : ℕ → Option TypeRef) (xs : List Slot) (words : List Value)
    → AllZip (WordFits o store own news) xs words → AllZip (Cell o store own news) xs words
stack_cells o store own news xs words h = zip-implied (WordFits o store own news) (Cell o store own news) (λ s v fits. fits.cell) xs words h

pub local_cells : (o : Outline) (store : Store) (own : ℕ) (news : ℕ → Option TypeRef) (xs : List Slot) (locals : List Value)
    → AllZip (LocalFits o store own news) xs locals → AllZip (Cell o store own news) xs locals
local_cells o store own news xs locals h = zip-implied (LocalFits o store own news) (Cell o store own news) (λ s v fits. fits.cell) xs locals h

-- ---- states that rows give

module _ (o : Outline) (store : Store) (own : ℕ) (news : ℕ → Option TypeRef) (s : TypeState) (f : Frame) (locals : AllZip (LocalFits o store own news) s.locals f.locals) (stack : AllZip (WordFits o store own news) s.stack f.stack) where
  -- the locals as they are later
  pub locals_left : (y : Areas) → Extends store y.store → AllZip (Cell o y.store own news) s.locals f.locals
  locals_left y more = cells-later o store y.store own news more s.locals f.locals (local_cells o store own news s.locals f.locals locals)

  -- and the words below those that are taken
  pub stack_left : (y : Areas) → Extends store y.store → (n : ℕ) → AllZip (Cell o y.store own news) (drop n s.stack) (drop n f.stack)
  stack_left y more n =
      zip-drop (Cell o y.store own news) n s.stack f.stack
      (cells-later o store y.store own news more s.stack f.stack (stack_cells o store own news s.stack f.stack stack))

  -- the frame relates to the state by cells as it did before
  pub cells_before : (y : Areas) → Extends store y.store → AreAs (Cell o y.store own news) (Cell o y.store own news) s f.locals f.stack
  cells_before y more = record { in_locals = locals_left y more; in_stack = stack_left y more 0 }

  pub cells_left : (y : Areas) (known : TypeState) (in_locals in_stack : List Value)
      → AreAs (Cell o y.store own news) (Cell o y.store own news) known in_locals in_stack → CellsFit o y.store own news known in_locals in_stack
  cells_left y known in_locals in_stack are = record { in_locals = are.in_locals; in_stack = are.in_stack }

  abbrev Gives : Effect → List Slot → Type 0
  Gives e slots = GivesCells o store own news f (types_after [] e.actions) slots e.gives

  -- the locals stay, and the stack is this one
  pub leaves_cells : (after : TypeState) (given : List Slot) (e : Effect) → record s { stack = given } ≡ after → e.writes ≡ []
      → ((y : Areas) (made : List ℕ) → Went o store (types_after [] e.actions) y made
      → AllZip (Cell o y.store own news) given (map (value_of (sources_of f y made)) e.gives ++ drop e.takes f.stack))
      → CellsLeave o store own news after f e
  leaves_cells after given e is writes gives y made went =
      cells_left y _ _ _
      (left.stack_leaves (Cell o y.store own news) (Cell o y.store own news) s after (sources_of f y made) (cells_before y went.extends) given e is writes
      (gives y made went))

  pub same_cells : (e : Effect) → e.takes ≡ 0 → e.gives ≡ [] → e.writes ≡ [] → CellsLeave o store own news s f e
  same_cells e takes gives writes y made went =
      cells_left y _ _ _
      (left.same_leaves (Cell o y.store own news) (Cell o y.store own news) s s (sources_of f y made) (cells_before y went.extends) e refl takes gives writes)

  -- more on top
  pub pushed_cells : (given : List Slot) (after : TypeState) (e : Effect) → Some (record s { stack = given ++ s.stack }) ≡ Some after → e.takes ≡ 0
      → e.writes ≡ [] → Gives e given → CellsLeave o store own news after f e
  pushed_cells given after e is takes writes gives y made went =
      cells_left y _ _ _
      (left.pushed_leaves (Cell o y.store own news) (Cell o y.store own news) s after (sources_of f y made) (cells_before y went.extends) given e is takes writes
      (gives y made went))

  -- other slots in place of those on top
  pub worked_cells : (wanted given : List Slot) (after : TypeState) (e : Effect) → worked o wanted given s ≡ Some after → e.takes ≡ length wanted
      → e.writes ≡ [] → Gives e given → CellsLeave o store own news after f e
  worked_cells wanted given after e row takes writes gives y made went =
      cells_left y _ _ _
      (left.worked_leaves (Cell o y.store own news) (Cell o y.store own news) s after (sources_of f y made) (cells_before y went.extends) o wanted given e row
      takes writes (gives y made went))

  -- ---- the same in place of the slot below them too

  -- what the row finds: the slots on top are taken, and this one is below them
  abbrev pub Below : List Slot → (Slot → Option (List Slot)) → TypeState → Type 0
  Below wanted given after = left.Below o s wanted given after

  pub below_found : (wanted : List Slot) (given : Slot → Option (List Slot)) (after : TypeState) → worked_below o wanted given s ≡ Some after
      → Below wanted given after
  below_found wanted given after row = left.below_found o s wanted given after row

  pub worked_below_cells : (wanted : List Slot) (given : Slot → Option (List Slot)) (after : TypeState) (e : Effect) (b : Below wanted given after)
      → e.takes ≡ length wanted + 1 → e.writes ≡ [] → Gives e b.slots → CellsLeave o store own news after f e
  worked_below_cells wanted given after e b takes writes gives y made went =
      cells_left y _ _ _
      (left.below_leaves (Cell o y.store own news) (Cell o y.store own news) s after (sources_of f y made) (cells_before y went.extends) o wanted given e b takes
      writes (gives y made went))
