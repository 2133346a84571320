-- Steps of the walk over the items of a method, up to its end.
use Rattle.std.specs.Prelude.{◌≡◌, ℕ, ◌+◌, ◌<◌, ◌⊎◌, ◌==◌, ◌&&◌, Bool, true, false, List, [], ◌∷◌, ◌++◌, length, Option, Some, IsSomeAnd, All, Contains, slice_set, if◌then◌else◌}
use Rattle.std.specs.List.{AllByRecursion}
use Rattle.fm_check_handlers.specs.inner.Runs.{IsGuarded}
use Rattle.fm_code.specs.Edges.{Catches, falls_through, insn_of, IsReachable, LeadsTo}
use Rattle.fm_code.specs.SpellsCode.{targets_of}
use Rattle.fm_code.specs.declared.code_array.Code.{Code}
use Rattle.fm_code.specs.declared.code_array.Handler.{Handler}
use Rattle.fm_code.specs.declared.instructions.Insn.{Insn}
use Rattle.fm_check_walk.specs.inner.Tasks.{Task}
use Rattle.fm_check_walk.specs.inner.Risen.{IsAlikeBut, locals_of}
use Rattle.fm_types.specs.declared.known_state.SlotPlace.{SlotPlace}
use Rattle.fm_check_walk.specs.declared.risen.Rise.{Rise}
use Rattle.fm_types.specs.States.{state_fits, TypeState}
use Rattle.fm_types.specs.Typed.{FitsAt, IsTypingOf, MeetsItem, state_at}
use Rattle.fm_check_handlers.specs.declared.runs.Level.{Level}
use Rattle.fm_check_walk.specs.inner.Turns.{Leaves}
use Rattle.fm_check_walk.specs.inner.Walks.{CanCarry, HasRoom, is_marked, NoneWaits, risen_at, Stands, Walked, Went}

-- ---- the walk

-- the item waited and does no longer, and from here on nothing rose there
pub record Takes (item : ℕ) (old new : Walked) : Type 0 where
  pub states : new.states ≡ old.states
  pub leaves : Leaves item old.marks new.marks
  pub risen : new.risen ≡ slice_set old.risen item (Some [])

-- ---- steps of the walk

-- a state was brought to several items
pub record BringsAll (t : Task) (items : List ℕ) (s : TypeState) (old new : Walked) : Type 0 where
  pub went : Went t old new
  pub fits : (item : ℕ) → Contains items item → FitsAt t.program new.states item s

-- the targets of an instruction, and the item after it where control can go on to it
abbrev pub next_items : Insn → ℕ → List ℕ
next_items i item = targets_of i ++ (if falls_through i then (item + 1) ∷ [] else [])

-- control can go on past the last item
abbrev pub falls_off : Code → Insn → ℕ → Bool
falls_off code i item = falls_through i && (item + 1 == length code.items)

-- a reachable item has this instruction
pub record IsItem (t : Task) (item : ℕ) (i : Insn) : Type 0 where
  pub reachable : IsReachable t.code item
  pub is : insn_of t.code item ≡ Some i

-- the state after an item was brought to the items that follow it
pub record BringsOn (t : Task) (item : ℕ) (i : Insn) (after : TypeState) (old new : Walked) : Type 0 where
  pub went : Went t old new
  pub fits : (next : ℕ) → LeadsTo i item next → next < length t.code.items → FitsAt t.program new.states next after
  pub stays : falls_off t.code i item ≡ false

-- the state of an item meets all that is asked of it, and control doesn't go on past the last item
pub record IsMet (t : Task) (states : List (Option TypeState)) (j : ℕ) (s : TypeState) : Type 0 where
  pub meets : MeetsItem t.program t.number t.code states j s
  pub inside : IsSomeAnd (insn_of t.code j) (λ i. falls_through i ≡ true → j + 1 < length t.code.items)

-- the item was gone over, at the state that it had
pub record GoesOver (t : Task) (item : ℕ) (old new : Walked) : Type 0 where
  pub went : Went t old new
  pub met : (s : TypeState) → state_at old.states item ≡ Some s → IsMet t new.states item s

-- a state below this one, and the same but for these places, met all that is asked of the item
pub record IsNearlyMet (t : Task) (states : List (Option TypeState)) (places : List SlotPlace) (j : ℕ) (s : TypeState) : Type 0 where
  pub before : TypeState
  pub met : IsMet t states j before
  pub alike : IsAlikeBut places s before
  pub below : state_fits t.program.outline before s ≡ true

-- what is known of an item's state where this rose since the item was gone over
abbrev pub IsMetBut : Task → List (Option TypeState) → Option (List SlotPlace) → ℕ → Type 0
IsMetBut t states rose j =
    (s : TypeState) (places : List SlotPlace) → state_at states j ≡ Some s → rose ≡ Some places → IsNearlyMet t states places j s

-- each item with a state is met but for what rose there, and waits where something did
pub record Walking (t : Task) (w : Walked) : Type 0 where
  pub stands : Stands t w
  pub closed : (j : ℕ) → IsMetBut t w.states (risen_at w j) j
  pub quiet : (j : ℕ) (s : TypeState) → state_at w.states j ≡ Some s → (risen_at w j ≡ Some []) ⊎ (is_marked w j ≡ true)

-- ---- slots that are carried on

-- slots were carried to several items
pub record CarriesAll (t : Task) (items : List ℕ) (rises : List Rise) (old new : Walked) : Type 0 where
  pub went : Went t old new
  pub room : (item : ℕ) → Contains items item → All (HasRoom t new.states item) rises

-- where an entry's range holds the item, its handler has room
abbrev pub HandlerHasRoom : Task → List (Option TypeState) → ℕ → List Rise → Handler → Type 0
HandlerHasRoom t states item rises h = Catches item h.handler h → All (HasRoom t states h.handler) rises

-- the handlers of an item can take what is in its locals, and the items that follow it what is at its places
pub record IsReady (t : Task) (w : Walked) (item : ℕ) (i : Insn) (rises : List Rise) : Type 0 where
  pub small : item < 65535
  pub handlers : (h : Handler) → Contains t.code.handlers h → Catches item h.handler h → CanCarry t w h.handler (locals_of rises)
  pub items : (next : ℕ) → Contains (next_items i item) next → CanCarry t w next rises

-- what is at places of an item was carried on
pub record CarriesOn (t : Task) (item : ℕ) (i : Insn) (rises : List Rise) (old new : Walked) : Type 0 where
  pub went : Went t old new
  pub handlers : AllByRecursion (HandlerHasRoom t new.states item (locals_of rises)) t.code.handlers
  pub items : (next : ℕ) → Contains (next_items i item) next → All (HasRoom t new.states next) rises

-- what is at places of an item was carried on, and what was given to runs stays so
pub record CarriesOnGuarded (t : Task) (item : ℕ) (i : Insn) (rises : List Rise) (given : List Level) (old new : Walked) : Type 0 where
  pub carries : CarriesOn t item i rises old new
  pub guarded : IsGuarded t new.states given

-- the item was gone over, and what was given to runs stays so
pub record GoesOverGuarded (t : Task) (item : ℕ) (given : List Level) (old new : Walked) : Type 0 where
  pub goes : GoesOver t item old new
  pub guarded : IsGuarded t new.states given

-- none waits any longer
pub record HasSettled (t : Task) (w : Walked) : Type 0 where
  pub walking : Walking t w
  pub done : NoneWaits w

-- the states are a typing, and fit those of each typing
pub record IsLeast (t : Task) (states : List (Option TypeState)) : Type 0 where
  pub typing : IsTypingOf t.program t.number t.code states
  pub least :
      (others : List (Option TypeState)) → IsTypingOf t.program t.number t.code others
      → (j : ℕ) (s : TypeState) → state_at states j ≡ Some s → FitsAt t.program others j s
