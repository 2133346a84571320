-- The laws that the functions of `laws` prove.
use Rattle.std.specs.Prelude.{◌≡◌, ◌+◌, ◌⊎◌, ℕ, true, List, [], ◌∷◌, length, map, Some, Contains, slice_get}
use Rattle.std.specs.List.{AllByRecursion}
use Rattle.fm_cells.specs.Choices.{lawful}
use Rattle.fm_cells.specs.Soundness.{IsOrderly}
use Rattle.fm_cells.specs.Stores.{Store}
use Rattle.fm_chain.specs.Chained.{looped_at}
use Rattle.fm_code.specs.declared.code_array.Code.{Code}
use Rattle.fm_conn.specs.Facts.{Facts}
use Rattle.fm_conn.specs.Links.{typed_method}
use Rattle.fm_frames.specs.Acts.{cell_of, Choose}
use Rattle.fm_frames.specs.States.{Areas, Frame, null, State, word_at}
use Rattle.fm_frames.specs.Steps.{step}
use Rattle.fm_frames.specs.declared.values.Value.{Value}
use Rattle.fm_law_held_objects.specs.Freeing.{HoldersAreFreed, AreRetired}
use Rattle.fm_law_held_objects.specs.Held.{AreHeld}
use Rattle.fm_law_held_objects.specs.Initialised.{IsInitialised}
use Rattle.fm_law_held_objects.specs.Keeping.{HoldersKeep}
use Rattle.fm_law_holders.specs.Holding.{holder_value, Holding, HoldsFreeable}
use Rattle.fm_law_holders.specs.NewResults.{GoesOnBehind, HasNewResult, KeepsObjects}
use Rattle.fm_law_holders.specs.Uninitialised.{AreMade, AreMadeIn, Made}
use Rattle.fm_law_no_fault.specs.CellsResolved.{CellsAreResolved}
use Rattle.fm_law_no_fault.specs.Whole.{IsWholeBy}
use Rattle.fm_law_sound.specs.Making.{MakesAreResolved, MakesFew}
use Rattle.fm_law_sound.specs.Resolved.{StepsAreResolved}
use Rattle.fm_law_sound.specs.Sound.{Typings}
use Rattle.fm_law_two_memories.specs.Pairing.{AreasPaired, Gone}
use Rattle.fm_law_unwoven.specs.Doing.{all_areas_after, all_locals_after, areas_after, IsLost, joins_in, locals_after}
use Rattle.fm_law_unwoven.specs.Laid.{to_free, to_keep, Todo}
use Rattle.fm_place.specs.Insertions.{Holder, Insertions}
use Rattle.fm_place.specs.Places.{is_busy}
use Rattle.fm_place.specs.Safe.{IsSafeHolder}
use Rattle.fm_place.specs.Safe as safe
use Rattle.fm_same.specs.Advances.{GoesOver}
use Rattle.fm_same.specs.Colours.{Colour, Coloured}
use Rattle.fm_same.specs.DeadRegions.{IsMethodAt}
use Rattle.fm_same.specs.Resolved.{CallsNoFreeMe, IsResolved}
use Rattle.fm_same.specs.Standing.{Stand}
use Rattle.fm_types.specs.States.{TypeState}
use Rattle.fm_types.specs.Typed.{state_at}
use Rattle.fm_world.specs.Programs.{code_at, Outline, Program}

-- ---- frees

-- each of these holders is freed, one after the other
abbrev pub frees_of : Insertions → List ℕ → List Todo
frees_of plan hs = map (λ h. to_free (looped_at plan h) h) hs

-- each of these holders is there
abbrev pub AreThere : Insertions → List ℕ → Type 0
AreThere plan hs = (h : ℕ) → Contains hs h → (holder : Holder) × (slice_get plan.holders h ≡ Some holder)

-- Where a frame frees some of its holders, each free meets a cell that is held, and each walk along a chain finds its end: nothing is lost.
abbrev pub NothingIsLost : Type 0
NothingIsLost =
    (gone : Gone) (o : Outline) (typings : Typings) (x : State) (colour : Colour) (depth : ℕ) (y : Areas) → AreasPaired gone o x.areas y
    → (code : Code) (plan : Insertions) (g : Frame) (hs : List ℕ) → AreThere plan hs → length g.locals ≡ code.max_locals + length plan.holders
    → AreHeld typings x colour depth y.store code plan g.locals → ¬ IsLost code g y (frees_of plan hs)

-- And what all frames hold, and what the memories are to each other, stays so.
abbrev pub FreesKeepHeld : Type 0
FreesKeepHeld =
    (gone : Gone) (o : Outline) (typings : Typings) (x : State) (colour : Colour) (depth : ℕ) (y : Areas) → AreasPaired gone o x.areas y
    → (code : Code) (plan : Insertions) (g : Frame) (hs : List ℕ) → AreThere plan hs → length g.locals ≡ code.max_locals + length plan.holders
    → AreHeld typings x colour depth y.store code plan g.locals
    → HoldersAreFreed o typings x colour depth code plan hs gone y (all_areas_after code g.stack (frees_of plan hs) g.locals y) g.locals
    (all_locals_after code g.stack (frees_of plan hs) g.locals)

-- ---- what was freed is retired

-- Once a frame has freed holders whose classes aren't busy at its item, these may be retired.
abbrev pub FreedClassesRetire : Type 0
FreedClassesRetire =
    (p : Program) (facts : Facts) (x : State) (colour : Colour) → Coloured p facts x colour → Stand p facts x.frames
    → (f : Frame) (callers : List Frame) → x.frames ≡ f ∷ callers → (code : Code) → code_at p f.method ≡ Some code → (plan : Insertions) (hs : List ℕ)
    → ((h : ℕ) → Contains hs h → safe.MayFree facts (typed_method p facts.typing f.method code) plan f.item h)
    → AreRetired p facts x colour (length callers) plan hs

-- What all frames hold stays so: of the frame itself each holder is null or its class is busy, and so another one.
abbrev pub RetiringKeepsHeld : Type 0
RetiringKeepsHeld =
    (p : Program) (facts : Facts) (x : State) (colour : Colour) (depth : ℕ) (plan : Insertions) (hs : List ℕ) → (r : AreRetired p facts x colour depth plan hs)
    → (method item : ℕ) (code : Code) → ((h : ℕ) → Contains hs h → safe.MayFree facts (typed_method p facts.typing method code) plan item h)
    → (other : ℕ) (second : Code) (inserted : Insertions) (locals : List Value) (store : Store) → IsOrderly store
    → (other ≡ depth → (h : ℕ) (holder : Holder) → slice_get inserted.holders h ≡ Some holder
    → (holder_value second locals h ≡ null) ⊎ (is_busy facts (typed_method p facts.typing method code) holder.class item ≡ true))
    → AreHeld facts.typing x colour other store second inserted locals → AreHeld facts.typing x r.other other store second inserted locals

-- ---- steps

-- A step of the first program keeps what a frame that is there holds, where the second memory keeps what is held: no return gives up the region of a captured class.
abbrev pub StepsKeepHeld : Type 0
StepsKeepHeld =
    (p : Program) (facts : Facts) → IsResolved p → StepsAreResolved p → MakesAreResolved p → CellsAreResolved p → CallsNoFreeMe p → (choose : Choose) (x : State)
    (made : Made) → IsWholeBy p facts.typing x → MakesFew p x → AreMade facts.typing x made
    → (colour : Colour) (over : GoesOver p facts x (step p (lawful choose) x).state colour)
    → (store later : Store) → IsOrderly store → IsOrderly later → store.births ≡ x.areas.store.births → KeepsObjects store later
    → (depth method : ℕ) → IsMethodAt method depth x.frames → (code : Code) (plan : Insertions)
    → AllByRecursion (IsSafeHolder facts (typed_method p facts.typing method code)) plan.holders
    → (locals : List Value) → AreHeld facts.typing x colour depth store code plan locals
    → AreHeld facts.typing (step p (lawful choose) x).state over.other depth later code plan locals

-- ---- what is kept

-- A holder that gets a new result, in place of what it had or before its chain, leaves what all holders hold, where that result is initialised: it is on top of
-- the stack, as the second memory has it.
abbrev pub KeepingKeepsHeld : Type 0
KeepingKeepsHeld =
    (p : Program) (facts : Facts) (x next : State) (colour other : Colour) (made : Made) (known : TypeState) (f : Frame) (callers : List Frame)
    → GoesOnBehind p x f callers → state_at (facts.typing f.method) f.item ≡ Some known
    → (r : HasNewResult facts x next colour known f callers) → IsOrderly next.areas.store → AreMadeIn x.areas.store made known f
    → (gone : Gone) (o : Outline) (before : Store) (y : Areas) → IsOrderly before → AreasPaired gone o next.areas y
    → before.births ≡ x.areas.store.births → KeepsObjects before y.store
    → (code : Code) (plan : Insertions) (locals : List Value) → AreHeld facts.typing x colour (length callers) before code plan locals
    → AreHeld facts.typing next other (length callers) y.store code plan locals → length locals ≡ code.max_locals + length plan.holders
    → (kept : ℕ) (holder : Holder) → slice_get plan.holders kept ≡ Some holder
    → (stack : List Value) → Holding y.store other (length callers) holder.class (word_at stack 0)
    → ((birth : ℕ) → HoldsFreeable y.store (word_at stack 0) birth → HoldsFreeable next.areas.store r.result birth)
    → ((birth : ℕ) → HoldsFreeable next.areas.store r.result birth → IsInitialised facts.typing next birth)
    → HoldersKeep o facts.typing next other (length callers) code plan (kept ∷ []) (word_at stack 0) gone y
    (areas_after code stack locals (to_keep (looped_at plan kept) (joins_in y.store (cell_of (word_at stack 0))) kept) y) locals
    (locals_after code stack (to_keep (looped_at plan kept) (joins_in y.store (cell_of (word_at stack 0))) kept) locals)
