-- What the effect of a row owes, so that no cell is met in a way in which it can't be: its actions
-- put what fits, and the frame that goes on, the words of a result, what is thrown and the
-- arguments of a call lead to cells that fit. Kinds are left out: they are known beside.
use Rattle.std.specs.Prelude.{◌≡◌, ℕ, ◌⊎◌, Bool, true, List, [], ◌∷◌, ◌++◌, map, reverse, take, Option, Some, slice_get}
use Rattle.std.specs.List.{AllZip}
use Rattle.fm_base.specs.declared.kinds.Kind.{Kind}
use Rattle.fm_base.specs.declared.kinds.Kind.TheVariants as kind
use Rattle.fm_base.specs.declared.kinds.TypeRef.{TypeRef}
use Rattle.fm_cells.specs.Stores.{Store}
use Rattle.fm_code.specs.declared.code_array.Code.{Code}
use Rattle.fm_types.specs.Fits.{fits_type}
use Rattle.fm_types.specs.Named.{result_words, this_class, throwable_type}
use Rattle.fm_types.specs.States.{TypeState}
use Rattle.fm_types.specs.Typed.{entry_slots, made_at}
use Rattle.fm_types.specs.declared.slots.Slot.{Slot}
use Rattle.fm_world.specs.Programs.{code_at, Outline, Program}
use Rattle.fm_frames.specs.Acts.{cell_of, value_of}
use Rattle.fm_frames.specs.Effects.{Action, Copy, Calls, Effect, Enters, Exits, Falls, Faults, Free, FreeChain, Jumps, JumpsIfSame, Make, MakeFixed, MakeLiteral, Next, OfMade, OfOperand, Put, Returns, SetChain, SetStatic, Source, Start, Throws}
use Rattle.fm_frames.specs.NativeRows.{text_type}
use Rattle.fm_frames.specs.States.{Areas, Frame, word_at}
use Rattle.fm_frames.specs.Steps.{stack_after, written}
use Rattle.fm_frames.specs.declared.values.Value.{Value}
use Rattle.fm_law_sound.specs.Leading.{sources_of}
use Rattle.fm_law_no_fault.specs.Doing.{HoldsNoCell, SourceLeadsTo}
use Rattle.fm_law_no_fault.specs.Whole.{CellFits, HoldsA}
use Rattle.fm_law_no_fault.proofs.ActsKeep.{types_after, Went}

-- ---- cells

-- the cell of a value fits a slot
abbrev pub Cell : Outline → Store → ℕ → (ℕ → Option TypeRef) → Slot → Value → Type 0
Cell o store own news s v = CellFits o store own news s (cell_of v)

-- the cells of the locals and of the words fit a state
pub record CellsFit (o : Outline) (store : Store) (own : ℕ) (news : ℕ → Option TypeRef) (known : TypeState) (locals stack : List Value) : Type 0 where
  pub in_locals : AllZip (Cell o store own news) known.locals locals
  pub in_stack : AllZip (Cell o store own news) known.stack stack

-- ---- sources, where objects of these types are made, in a step that begins with this store and this stack

-- the source leads to null or to an object that fits the kind, where this is one of references
abbrev pub Suits : Outline → Store → List Value → List TypeRef → Kind → Source → Type 0
Suits o store stack types (kind.Ref t) v = SourceLeadsTo o store stack types (λ u. fits_type o.classes u t) v
Suits o store stack types k v = Unit {0}

-- the source leads to an object of a type that passes a test
abbrev pub SourceIsA : Outline → Store → List Value → List TypeRef → (TypeRef → Bool) → Source → Type 0
SourceIsA o store stack types test (OfOperand n) = HoldsA o store test (cell_of (word_at stack n))
SourceIsA o store stack types test (OfMade n) = (t : TypeRef) × (slice_get types n ≡ Some t) × (test t ≡ true)
SourceIsA o store stack types test other = ⊥

-- the sources give words whose cells fit the slots, after all actions
abbrev pub GivesCells : Outline → Store → ℕ → (ℕ → Option TypeRef) → Frame → List TypeRef → List Slot → List Source → Type 0
GivesCells o store own news f types slots gives =
    (y : Areas) (made : List ℕ) → Went o store types y made
    → AllZip (Cell o y.store own news) slots (map (value_of (sources_of f y made)) gives)

-- ---- actions

-- One after the other: what is put suits its kind, and content is named only of texts; nothing is
-- freed or chained.
abbrev pub ActsSuit : Outline → Store → List Value → List TypeRef → List Action → Type 0
ActsSuit o store stack types [] = Unit {0}
ActsSuit o store stack types (Make t len content ∷ more) = ((content ≡ []) ⊎ (t ≡ text_type o)) × ActsSuit o store stack (types ++ t ∷ []) more
ActsSuit o store stack types (MakeFixed t ∷ more) = HoldsNoCell o t × ActsSuit o store stack (types ++ t ∷ []) more
ActsSuit o store stack types (MakeLiteral text ∷ more) = ActsSuit o store stack types more
ActsSuit o store stack types (Put object place k v ∷ more) = Suits o store stack types k v × ActsSuit o store stack types more
ActsSuit o store stack types (SetStatic field k v ∷ more) = Suits o store stack types k v × ActsSuit o store stack types more
ActsSuit o store stack types (Start class ∷ more) = ActsSuit o store stack types more
ActsSuit o store stack types (Free operand ∷ more) = ⊥
ActsSuit o store stack types (SetChain operand to ∷ more) = ⊥
ActsSuit o store stack types (FreeChain operand ∷ more) = ⊥
ActsSuit o store stack types (Copy t len operand ∷ more) = ActsSuit o store stack (types ++ t ∷ []) more

-- ---- what comes next

-- after the actions, the cells of the frame that goes on fit the state
abbrev pub CellsLeave : Outline → Store → ℕ → (ℕ → Option TypeRef) → TypeState → Frame → Effect → Type 0
CellsLeave o store own news after f e =
    (y : Areas) (made : List ℕ) → Went o store (types_after [] e.actions) y made
    → CellsFit o y.store own news after (written (sources_of f y made) e.writes f.locals) (stack_after (sources_of f y made) e f.stack)

-- the cells of the words of a call fit the first locals of the method that is called
abbrev pub ArgumentsSuit : Program → Store → ℕ → List Value → Type 0
ArgumentsSuit p store target arguments =
    (code : Code) → code_at p target ≡ Some code
    → AllZip (Cell p.outline store (this_class p.outline target) (made_at p target code)) (entry_slots p.outline target) arguments

abbrev pub NextSuits : Program → Store → ℕ → (ℕ → Option TypeRef) → TypeState → Frame → Effect → Next → Type 0
NextSuits p store own news after f e Falls = CellsLeave p.outline store own news after f e
NextSuits p store own news after f e (Jumps n) = CellsLeave p.outline store own news after f e
NextSuits p store own news after f e (JumpsIfSame same) = CellsLeave p.outline store own news after f e
NextSuits p store own news after f e (Calls target) = ArgumentsSuit p store target (reverse (take e.takes f.stack))
NextSuits p store own news after f e (Returns n) = AllZip (Cell p.outline store own news) (result_words p.outline f.method) (take n f.stack)
NextSuits p store own news after f e (Throws s) =
    SourceIsA p.outline store f.stack (types_after [] e.actions) (λ u. fits_type p.outline.classes u (throwable_type p.outline)) s
NextSuits p store own news after f e (Enters methods) = Unit {0}
NextSuits p store own news after f e (Exits n) = Unit {0}
NextSuits p store own news after f e (Faults s) = ⊥

-- what an effect owes all together
pub record RowIsWhole (p : Program) (store : Store) (own : ℕ) (news : ℕ → Option TypeRef) (after : TypeState) (f : Frame) (e : Effect) : Type 0 where
  pub acts : ActsSuit p.outline store f.stack [] e.actions
  pub next : NextSuits p store own news after f e e.next
