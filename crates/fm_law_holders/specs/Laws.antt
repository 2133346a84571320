-- The laws that the functions of `laws` prove.
use Rattle.std.specs.Prelude.{◌≡◌, ◌≢◌, ℕ, ◌+◌, true, List, ◌∷◌, length, Some, None, is_some, slice_get, slice_set}
use Rattle.fm_cells.specs.Choices.{lawful}
use Rattle.fm_cells.specs.Soundness.{IsOrderly}
use Rattle.fm_cells.specs.Stores.{Store}
use Rattle.fm_code.specs.declared.code_array.Code.{Code}
use Rattle.fm_conn.specs.Facts.{AreFacts, Facts}
use Rattle.fm_conn.specs.Links.{typed_method}
use Rattle.fm_types.specs.States.{TypeState}
use Rattle.fm_types.specs.Typed.{state_at}
use Rattle.fm_types.specs.declared.slots.Slot.TheVariants as slot
use Rattle.fm_world.specs.Programs.{code_at, Program}
use Rattle.fm_frames.specs.Acts.{cell_of, Choose}
use Rattle.fm_frames.specs.States.{Frame, State}
use Rattle.fm_frames.specs.Steps.{step}
use Rattle.fm_frames.specs.declared.values.Value.{Value}
use Rattle.fm_place.specs.Insertions.{Holder, Insertions}
use Rattle.fm_place.specs.Woven.{local_of}
use Rattle.fm_place.specs.Sites.{is_captured_site, site_class, site_kind}
use Rattle.fm_same.specs.Colours.{Colour, Coloured}
use Rattle.fm_same.specs.Covering.{CoversAt}
use Rattle.fm_same.specs.Resolved.{CallsNoFreeMe, IsResolved}
use Rattle.fm_same.specs.Standing.{Stand}
use Rattle.fm_law_sound.specs.Resolved.{StepsAreResolved}
use Rattle.fm_law_holders.specs.Holding.{HoldersHold, Holding, IsUnshared, HoldsFreeable}
use Rattle.fm_law_holders.specs.NewResults.{frame_behind, GoesOnBehind, HasNewResult, KeepsObjects}
use Rattle.fm_law_holders.specs.Uninitialised.{AreMade, AreMadeIn, FramesAreBelow, Made, made_after, ValueIsMade}
use Rattle.fm_frames.specs.Runs.{Job, opening}
use Rattle.fm_law_sound.specs.Making.{MakesAreResolved, MakesFew}
use Rattle.fm_law_sound.specs.Sound.{IsSoundBy, Typings}
use Rattle.fm_law_no_fault.specs.CellsResolved.{CellsAreResolved}
use Rattle.fm_law_no_fault.specs.Whole.{IsWholeBy}

-- ---- objects that aren't initialised

-- two places that the checker has for objects of two items never lead to one object
abbrev pub UninitialisedAreApart : Type 0
UninitialisedAreApart =
    (store : Store) (made : Made) (item other : ℕ) (v w : Value) → ValueIsMade store made (slot.Uninit item) v
    → ValueIsMade store made (slot.Uninit other) w → item ≢ other → cell_of v ≢ cell_of w

-- Each place that the checker has for the object of a `new` goes on leading to an object that was made at its item: by each step of a typed and linked
-- program that calls no FreeMe, unless it makes an object of too many words. What is born in the step was made at the item of the topmost frame.
abbrev pub StepsKeepMade : Type 0
StepsKeepMade =
    (p : Program) (typings : Typings) → IsResolved p → StepsAreResolved p → MakesAreResolved p → CellsAreResolved p → CallsNoFreeMe p → (choose : Choose) (x : State)
    (made : Made) → IsWholeBy p typings x → MakesFew p x → AreMade typings x made → AreMade typings (step p (lawful choose) x).state (made_after x made)

-- At the opening there are no such places, so it holds whatever is beside the births.
abbrev pub OpeningIsMade : Type 0
OpeningIsMade =
    (p : Program) (typings : Typings) (choose : Choose) (job : Job) (store : Store) (made : Made) → IsSoundBy p typings (opening p (lawful choose) job store).state
    → AreMade typings (opening p (lawful choose) job store).state made

-- where such a place is live, its object has no own region of a frame above: so what a method that is called gives out is another object
abbrev pub UninitialisedAreBelow : Type 0
UninitialisedAreBelow =
    (p : Program) (facts : Facts) (x : State) (colour : Colour) (made : Made) → Coloured p facts x colour → AreMade facts.typing x made
    → FramesAreBelow facts x.areas.store colour x.frames

-- ---- sites

-- Behind a site of a frame the next state has a new result on top.
abbrev pub SitesGiveNew : Type 0
SitesGiveNew =
    (p : Program) (facts : Facts) → AreFacts p facts → IsResolved p → StepsAreResolved p
    → (choose : Choose) (x : State) (colour : Colour) (made : Made) → x.ended ≡ None → (step p (lawful choose) x).state.ended ≡ None
    → Coloured p facts x colour → Stand p facts x.frames → CoversAt p facts x x.frames → Stand p facts (step p (lawful choose) x).state.frames
    → (f : Frame) (callers : List Frame) → GoesOnBehind p x f callers
    → (code : Code) → code_at p f.method ≡ Some code → is_some (site_kind facts (typed_method p facts.typing f.method code) f.item) ≡ true
    → (known : TypeState) → state_at (facts.typing f.method) f.item ≡ Some known
    → AreMadeIn x.areas.store made known f
    → HasNewResult facts x (step p (lawful choose) x).state colour known f callers

-- Where the site is captured, the result is what a holder for its class holds.
abbrev pub KeptResultsAreOwn : Type 0
KeptResultsAreOwn =
    (p : Program) (facts : Facts) → AreFacts p facts → StepsAreResolved p
    → (x next : State) (colour other : Colour) (known : TypeState) (f : Frame) (callers : List Frame)
    → (h : HasNewResult facts x next colour known f callers) → Coloured p facts next other → Stand p facts next.frames
    → (code : Code) → code_at p f.method ≡ Some code → is_captured_site facts (typed_method p facts.typing f.method code) f.item ≡ true
    → Holding next.areas.store other (length callers) (site_class facts (typed_method p facts.typing f.method code) f.item) h.result

-- And no holder of the frame has it yet, on a memory that made as many objects: so no two holders of a frame ever hold one object.
abbrev pub NewResultsAreUnheld : Type 0
NewResultsAreUnheld =
    (facts : Facts) (x next : State) (colour : Colour) (made : Made) (known : TypeState) (f : Frame) (callers : List Frame)
    → (h : HasNewResult facts x next colour known f callers) → IsOrderly next.areas.store → AreMadeIn x.areas.store made known f
    → (store : Store) → IsOrderly store → store.births ≡ x.areas.store.births
    → (class : ℕ) (v : Value) → Holding store colour (length callers) class v
    → ((birth : ℕ) → HoldsFreeable store v birth → IsUnshared facts x.areas.store known f birth)
    → (birth : ℕ) → HoldsFreeable next.areas.store h.result birth → HoldsFreeable store v birth → ⊥

-- So a holder that gets such a result in place of what it had keeps what holds of all holders of its frame, where that holds after the step of what they had
-- before: the value that it gets leads to the result's object, or to nothing that may be freed.
abbrev pub KeepingKeepsHolders : Type 0
KeepingKeepsHolders =
    (facts : Facts) (x next : State) (colour other : Colour) (made : Made) (known after : TypeState) (f : Frame) (callers : List Frame)
    → (h : HasNewResult facts x next colour known f callers) → IsOrderly next.areas.store → AreMadeIn x.areas.store made known f
    → state_at (facts.typing f.method) (f.item + 1) ≡ Some after
    → (before later : Store) → IsOrderly before → IsOrderly later → before.births ≡ x.areas.store.births → KeepsObjects before later
    → (code : Code) (plan : Insertions) (locals : List Value)
    → HoldersHold facts colour x.areas.store known f (length callers) before code plan locals
    → HoldersHold facts other next.areas.store after (frame_behind f (h.result ∷ h.below)) (length callers) later code plan locals
    → length locals ≡ code.max_locals + length plan.holders
    → (kept : ℕ) (holder : Holder) → slice_get plan.holders kept ≡ Some holder
    → (w : Value) → Holding later other (length callers) holder.class w
    → ((birth : ℕ) → HoldsFreeable later w birth → HoldsFreeable next.areas.store h.result birth)
    → HoldersHold facts other next.areas.store after (frame_behind f (h.result ∷ h.below)) (length callers) later code plan (slice_set locals (local_of code kept) w)
