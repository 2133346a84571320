-- Runs of items, level by level, with entries whose ranges hold all of one, and what the handlers of these have room for.
use Rattle.std.specs.Prelude.{◌≡◌, ℕ, zero, suc, ◌+◌, ◌-◌, ◌/◌, ◌%◌, ◌<◌, ◌≤◌, ◌⊎◌, ◌||◌, not, Bool, true, false, List, [], length, map, Option, Some, None, All, Contains}
use Rattle.std.specs.List.{slice_index_or, AllByRecursion}
use Rattle.fm_base.specs.declared.kinds.TypeRef.{TypeRef}
use Rattle.fm_types.specs.declared.known_state.KnownState.{KnownState}
use Rattle.fm_types.specs.declared.known_state.SlotPlace.{SlotPlace}
use Rattle.fm_check_walk.specs.declared.risen.Rise.{Rise}
use Rattle.fm_check_handlers.specs.declared.catching.Giving.{Giving}
use Rattle.fm_check_handlers.specs.declared.catching.Giving.TheVariants as giving
use Rattle.fm_check_handlers.specs.declared.runs.Level.{Level}
use Rattle.fm_check_handlers.specs.declared.runs.Run.{Run}
use Rattle.fm_check_handlers.specs.declared.runs.Span.{Span}
use Rattle.fm_check_walk.specs.inner.Risen.{AreBeside, IsAlikeBut, is_local, rise_of}
use Rattle.fm_types.specs.inner.Places.{slot_at, without_words}
use Rattle.fm_check_walk.specs.inner.Walks.{CanCarry, HasRoom, IsForced, IsKept, Walked, Went}
use Rattle.fm_check_walk.specs.inner.Tasks.{Task}
use Rattle.fm_code.specs.declared.code_array.Handler.{Handler}
use Rattle.fm_types.specs.Fits.{fits}
use Rattle.fm_types.specs.States.{TypeState}
use Rattle.fm_types.specs.Typings.{known_state, type_state}
use Rattle.fm_types.specs.Typed.{caught_type, FitsAt, FitsHandler, handler_state}

-- ---- runs

-- the place of an item's run among the runs of a level
abbrev pub halved : ℕ → ℕ → ℕ
halved zero item = item
halved (suc level) item = halved level item / 2

-- the entries of each run
abbrev pub entries_of : List Run → List (List Handler)
entries_of runs = map (λ (run : Run). run.entries.items) runs

-- the entries of the run at a place
abbrev pub entries_in : List Run → ℕ → List Handler
entries_in runs place = slice_index_or (entries_of runs) place []

-- the entries of all runs, level by level
abbrev pub shape : List Level → List (List (List Handler))
shape levels = map (λ (level : Level). entries_of level.runs.items) levels

-- those of the run of a level that holds an item
abbrev pub entries_at : List (List (List Handler)) → ℕ → ℕ → List Handler
entries_at entries level item = slice_index_or (slice_index_or entries level []) (halved level item) []

-- ---- how they are laid

-- the entry, and all items of its range
abbrev pub span_of : Handler → Span
span_of h = record { entry = h; first = h.start; end = h.end }

-- the same of each
abbrev pub spans_of : List Handler → List Span
spans_of handlers = map span_of handlers

-- the runs of the next level that it holds
abbrev pub wider : Span → Span
wider span = record span { first = span.first / 2 + span.first % 2; end = span.end / 2 }

-- it has no more runs than this
abbrev pub IsShort : ℕ → Span → Type 0
IsShort most span = span.end - span.first ≤ most

-- nothing was given to their handlers
abbrev pub AreFresh : List Run → Type 0
AreFresh runs = (run : Run) → Contains runs run → run.given ≡ None

-- more entries are at runs: those for which this holds
pub record AreMore (P : ℕ → Handler → Type 0) (old new : List Run) : Type 0 where
  pub still : (place : ℕ) (h : Handler) → Contains (entries_in old place) h → Contains (entries_in new place) h
  pub only : (place : ℕ) (h : Handler) → Contains (entries_in new place) h → Contains (entries_in old place) h ⊎ P place h
  pub fresh : AreFresh old → AreFresh new

-- there is a run at the place, and no more entries are at any
pub record IsMade (place : ℕ) (old new : List Run) : Type 0 where
  pub more : AreMore (λ other h. ⊥) old new
  pub inside : place < length new

-- one more entry is at the run of this place
pub record IsOneMore (place : ℕ) (entry : Handler) (old new : List Run) : Type 0 where
  pub more : AreMore (λ other h. (other ≡ place) × (entry ≡ h)) old new
  pub there : Contains (entries_in new place) entry

-- the span holds the run of this place
pub record Spans (place : ℕ) (span : Span) : Type 0 where
  pub after_first : span.first ≤ place
  pub before_end : place < span.end

-- the span's entry is at the first and the last of its runs
pub record IsPut (span : Span) (runs : List Run) : Type 0 where
  pub first : span.first < span.end → Contains (entries_in runs span.first) span.entry
  pub last : span.first < span.end → Contains (entries_in runs (span.end - 1)) span.entry

-- it was put there
pub record Puts (span : Span) (old new : List Run) : Type 0 where
  pub more : AreMore (λ place h. (span.entry ≡ h) × Spans place span) old new
  pub put : IsPut span new

-- an entry with a span that holds the run of this place is one of these
abbrev pub IsSpanned : List Span → ℕ → Handler → Type 0
IsSpanned spans place h = (span : Span) × Contains spans span × (span.entry ≡ h) × Spans place span

-- entries are where some spans have them: at the first and the last run of each, and at no run that none of them holds
pub record IsNoted (spans : List Span) (runs : List Run) : Type 0 where
  pub put : (span : Span) → Contains spans span → IsPut span runs
  pub only : (place : ℕ) (h : Handler) → Contains (entries_in runs place) h → IsSpanned spans place h
  pub fresh : AreFresh runs

-- the entry is one of these, and its range holds the item
pub record Holds (handlers : List Handler) (item : ℕ) (h : Handler) : Type 0 where
  pub listed : Contains handlers h
  pub after_start : h.start ≤ item
  pub before_end : item < h.end

-- an entry is at one of the runs that hold the item
abbrev pub IsMet : List (List (List Handler)) → ℕ → Handler → Type 0
IsMet entries item h = (level : ℕ) × Contains (entries_at entries level item) h

-- each entry is at a run of each item of its range, and at none of another item
pub record IsCovered (handlers : List Handler) (entries : List (List (List Handler))) : Type 0 where
  pub covers : (item : ℕ) (h : Handler) → Holds handlers item h → IsMet entries item h
  pub holds : (level item : ℕ) (h : Handler) → Contains (entries_at entries level item) h → Holds handlers item h

-- nothing was given to the handlers of any run
abbrev pub AreAllFresh : List Level → Type 0
AreAllFresh levels = (level : Level) → Contains levels level → AreFresh level.runs.items

-- the levels of a method with these entries, at first
pub record IsLaid (handlers : List Handler) (levels : List Level) : Type 0 where
  pub covered : IsCovered handlers (shape levels)
  pub fresh : AreAllFresh levels

-- some of these levels, and what is left of the entries' ranges
pub record IsLaidSoFar (handlers : List Handler) (spans : List Span) (levels : List Level) : Type 0 where
  pub covers : (item : ℕ) (h : Handler) → Holds handlers item h → IsMet (shape levels) item h ⊎ IsSpanned spans (halved (length levels) item) h
  pub holds : (level item : ℕ) (h : Handler) → Contains (entries_at (shape levels) level item) h → Holds handlers item h
  pub left : (item : ℕ) (h : Handler) → IsSpanned spans (halved (length levels) item) h → Holds handlers item h
  pub fresh : AreAllFresh levels

-- ---- what was given to the handlers of runs

-- a state was given to the handlers of a run's entries, but for the words of its stack
pub record Keeps (s : TypeState) (run given : Run) : Type 0 where
  pub known : KnownState
  pub is : given.given ≡ Some known
  pub bare : known_state known ≡ without_words s
  pub same : given.entries.items ≡ run.entries.items

-- an entry's handler has room for the locals of a state, and in each typing it does
pub record IsHeld (t : Task) (states : List (Option TypeState)) (s : TypeState) (h : Handler) : Type 0 where
  pub caught : TypeRef
  pub is : caught_type t.program t.number h ≡ Some caught
  pub forced : IsForced t h.handler (handler_state caught s)
  pub fits : FitsAt t.program states h.handler (handler_state caught s)

-- the same of the handlers of all entries of a run, and what was given to them
abbrev pub IsGiven : Task → List (Option TypeState) → Run → Type 0
IsGiven t states run = (given : KnownState) → run.given ≡ Some given → (h : Handler) → Contains run.entries.items h → IsHeld t states (known_state given) h

-- the same of all runs
abbrev pub AreGiven : Task → List (Option TypeState) → List Run → Type 0
AreGiven t states runs = (run : Run) → Contains runs run → IsGiven t states run

-- the levels of runs of a method, and what was given to them
pub record IsGuarded (t : Task) (states : List (Option TypeState)) (levels : List Level) : Type 0 where
  pub covered : IsCovered t.code.handlers (shape levels)
  pub given : (level : Level) → Contains levels level → AreGiven t states level.runs.items

-- the state of an item was brought to the handler of an entry whose range holds the item
pub record BringsCaught (t : Task) (item : ℕ) (s : TypeState) (h : Handler) (old new : Walked) : Type 0 where
  pub went : Went t old new
  pub fits : FitsHandler t.program t.number new.states item s h

-- and to those of several entries
pub record BringsHandlers (t : Task) (item : ℕ) (s : TypeState) (handlers : List Handler) (old new : Walked) : Type 0 where
  pub went : Went t old new
  pub fits : AllByRecursion (FitsHandler t.program t.number new.states item s) handlers

-- slots were carried to the handlers of several entries
pub record CarriesHandlers (t : Task) (rises : List Rise) (handlers : List Handler) (old new : Walked) : Type 0 where
  pub went : Went t old new
  pub room : (h : Handler) → Contains handlers h → All (HasRoom t new.states h.handler) rises

-- what is wanted of an entry's handler
abbrev pub Wanted : Type 1
Wanted = List (Option TypeState) → Handler → Type 0

-- its state has room for slots
abbrev pub has_room : Task → List Rise → Wanted
has_room t rises states h = All (HasRoom t states h.handler) rises

-- it fits what an item brings
abbrev pub is_brought : Task → ℕ → TypeState → Wanted
is_brought t item s states h = FitsHandler t.program t.number states item s h

-- what is in the locals of a state, of which there are a number, but for some in which the same is as in what was given to a run
abbrev pub AreLeft : ℕ → Run → TypeState → List Rise → Type 0
AreLeft count run s rises = (given : KnownState) → run.given ≡ Some given → AreBeside count given.locals s rises

-- slots of locals that the handlers of an item can take
pub record AreWanted (t : Task) (w : Walked) (item : ℕ) (rises : List Rise) : Type 0 where
  pub local : (rise : Rise) → Contains rises rise → is_local rise.place ≡ true
  pub carried : (h : Handler) → Holds t.code.handlers item h → CanCarry t w h.handler rises

-- an item may give this
abbrev pub MayGive : Task → Walked → ℕ → Giving → Type 0
MayGive t w item (giving.State s) = IsKept t item (type_state s.now)
MayGive t w item (giving.Locals rises) = AreWanted t w item rises.now

-- a handler has taken it
abbrev pub is_taken : Task → ℕ → Giving → Wanted
is_taken t item (giving.State s) = is_brought t item (type_state s.now)
is_taken t item (giving.Locals rises) = has_room t rises.now

-- the handlers of a run's entries have what is wanted
pub record GivesRun (W : Wanted) (t : Task) (run given : Run) (old new : Walked) : Type 0 where
  pub went : Went t old new
  pub same : given.entries.items ≡ run.entries.items
  pub held : IsGiven t new.states given
  pub done : (h : Handler) → Contains run.entries.items h → W new.states h

-- the same of the run at a place
pub record GivesLevel (W : Wanted) (t : Task) (place : ℕ) (runs given : List Run) (old new : Walked) : Type 0 where
  pub went : Went t old new
  pub same : entries_of given ≡ entries_of runs
  pub held : AreGiven t new.states given
  pub done : (h : Handler) → Contains (entries_in runs place) h → W new.states h

-- the same of the runs of a number of levels that hold an item
pub record GivesLevels (W : Wanted) (t : Task) (item count : ℕ) (levels given : List Level) (old new : Walked) : Type 0 where
  pub went : Went t old new
  pub guarded : IsGuarded t new.states given
  pub same : shape given ≡ shape levels
  pub done : (level : ℕ) (h : Handler) → level < count → Contains (entries_at (shape levels) level item) h → W new.states h

-- the handlers of the entries whose ranges hold an item have what is wanted
pub record GivesAll (W : Wanted) (t : Task) (item : ℕ) (given : List Level) (old new : Walked) : Type 0 where
  pub went : Went t old new
  pub guarded : IsGuarded t new.states given
  pub done : (h : Handler) → Holds t.code.handlers item h → W new.states h

-- what was given has room for a state that is built or isn't
abbrev pub is_open_to : Bool → Option KnownState → Bool
is_open_to built None = false
is_open_to built (Some given) = built || not given.built

-- the same of what was given to a run
abbrev pub is_open : Run → Bool → Bool
is_open run built = is_open_to built run.given

-- in each typing the item's state has these slots at their places
pub record IsAsked (t : Task) (item : ℕ) (rises : List Rise) : Type 0 where
  pub brought : TypeState
  pub forced : IsForced t item brought
  pub slots : (rise : Rise) → Contains rises rise → slot_at brought rise.place ≡ rise.slot

-- a state rose to where it has room for a slot, at its place if at all
pub record RaisesOne (t : Task) (rise : Rise) (a b : TypeState) (old new : List SlotPlace) : Type 0 where
  pub still : (p : SlotPlace) → Contains old p → Contains new p
  pub only : (p : SlotPlace) → Contains new p → Contains old p ⊎ (rise.place ≡ p)
  pub alike : IsAlikeBut new b a
  pub above : (p : SlotPlace) → fits t.program.outline (slot_at a p) (slot_at b p) ≡ true
  pub room : fits t.program.outline rise.slot (slot_at b rise.place) ≡ true
  pub forced :
      (item : ℕ) (caught : TypeRef) (brought : TypeState) → IsForced t item (handler_state caught a) → IsForced t item brought
      → slot_at brought rise.place ≡ rise.slot → IsForced t item (handler_state caught b)

-- a state rose to where it has room for these slots, at these places
pub record IsRaised (t : Task) (rises : List Rise) (old new : TypeState) (places : List SlotPlace) : Type 0 where
  pub alike : IsAlikeBut places new old
  pub local : (p : SlotPlace) → Contains places p → is_local p ≡ true
  pub room : (rise : Rise) → Contains rises rise → fits t.program.outline rise.slot (slot_at new rise.place) ≡ true
  pub forced :
      (item : ℕ) (caught : TypeRef) → IsForced t item (handler_state caught old) → IsAsked t item rises
      → IsForced t item (handler_state caught new)

-- nothing was given to a run, and all slots are left
pub record LeavesAll (rises : List Rise) (run given : Run) (left : List Rise) : Type 0 where
  pub none : run.given ≡ None
  pub same : given ≡ run
  pub all : left ≡ rises

-- what was given to it rose, and what is where it did is left
pub record RaisesRun (t : Task) (rises : List Rise) (run given : Run) (left : List Rise) : Type 0 where
  pub before : KnownState
  pub after : KnownState
  pub places : List SlotPlace
  pub was : run.given ≡ Some before
  pub is : given.given ≡ Some after
  pub same : given.entries.items ≡ run.entries.items
  pub raised : IsRaised t rises (known_state before) (known_state after) places
  pub left_is : left ≡ map (rise_of (known_state after)) places
