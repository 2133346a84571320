-- What an item brings and carries to handlers, and what that shows of typings.
use Rattle.std.proofs.Common.{◌≡◌, refl, sym, inr, ⊎_elim, ℕ, ◌+◌, ◌<◌, ◌≤◌, true, List, [], ◌∷◌, length, take, get_or, Option, Some, None, Contains, subst, arith, All}
use Rattle.std.specs.Prelude.{IsSomeAnd}
use Rattle.std.specs.List.{AllByRecursion, filter}
use Rattle.std.proofs.lemmas.Bool.{false≢true}
use Rattle.std.proofs.lemmas.List.{take_more}
use Rattle.std.proofs.lemmas.List.Elements.{All-contains, All-from_recursion, Contains-push_cases, Contains-get_or}
use Rattle.fm_check_walk.proofs.CarryLemmas.{all_room_later}
use Rattle.fm_base.proofs.ListFacts.{AllByRecursion-append, AllByRecursion-weaker}
use Rattle.fm_base.proofs.OptionFacts.{IsSomeAnd-at_some, IsSomeAnd-from_some, Some-from_some_and}
use Rattle.fm_check_walk.proofs.MergingLemmas.{fits-from, fits-parts, state-trans}
use Rattle.fm_check_walk.proofs.WalkLemmas.{fits_at, fits_later, fits_one, reachable-more, Went-none, Went-then}
use Rattle.fm_types.specs.declared.known_state.SlotPlace.{SlotPlace}
use Rattle.fm_check_walk.specs.inner.Risen.{IsAlikeBut, is_local, IsCarried, locals_of}
use Rattle.fm_types.specs.inner.Places.{slot_at}
use Rattle.fm_check_walk.specs.inner.Walks.{Brings, IsForced, Rises, Stands, Untypable, Walked, Carries, HasRoom}
use Rattle.fm_check_handlers.specs.inner.Runs.{BringsCaught, BringsHandlers, CarriesHandlers}
use Rattle.fm_check_walk.specs.inner.Tasks.{IsSound, Task}
use Rattle.fm_code.specs.CodeRules.{HandlerIsValid}
use Rattle.fm_code.specs.Edges.{Catches, IsHandlerEdge}
use Rattle.fm_code.specs.declared.code_array.Handler.{Handler}
use Rattle.fm_base.specs.declared.kinds.TypeRef.{TypeRef}
use Rattle.fm_types.proofs.Order.{fits-refl}
use Rattle.fm_types.specs.States.{state_fits, TypeState}
use Rattle.fm_types.specs.Typed.{caught_type, FitsAt, FitsHandler, handler_state}
use Rattle.fm_types.specs.declared.slots.Slot.TheVariants as slot
use Rattle.fm_types.specs.declared.known_state.SlotPlace.TheVariants as place
use Rattle.fm_check_walk.specs.declared.risen.Rise.{Rise}
use Rattle.fm_code.proofs.EdgesLemmas.{Contains-filter, Contains-from_filter}
use Rattle.fm_types.specs.Fits.{fits}
use Rattle.fm_types.specs.declared.slots.Slot.{Slot}
use Rattle.fm_flow.proofs.HandlerLemmas.{blank}

-- ---- states that are brought

handler-fits : (t : Task) (caught : TypeRef) (s u : TypeState) → IsSound t → state_fits t.program.outline s u ≡ true
    → state_fits t.program.outline (handler_state caught s) (handler_state caught u) ≡ true
handler-fits t caught s u sound fits =
    let parts = fits-parts t.program.outline s u fits in
    fits-from t.program.outline (handler_state caught s) (handler_state caught u) (record {
      locals = parts.locals;
      stack = (fits-refl t.program.outline sound.tree (slot.Ref caught), tt);
      built = parts.built;
    })

pub each_handler : (P : Handler → Type 0) (handlers : List Handler) (h : Handler) → Contains handlers h → AllByRecursion P handlers → P h
each_handler P handlers h found all = All-contains P handlers h (All-from_recursion P handlers all) found

-- what an item brings to a handler
pub caught_forced : (t : Task) (j : ℕ) (h : Handler) (caught : TypeRef) (s : TypeState) → IsSound t → IsForced t j s → Contains t.code.handlers h
    → h.start ≤ j → j < h.end → caught_type t.program t.number h ≡ Some caught → IsForced t h.handler (handler_state caught s)
caught_forced t j h caught s sound forced listed after before is =
    let catches : Catches j h.handler h = record { after_start = after; before_end = before; handler_is = refl } in
    let valid = each_handler (HandlerIsValid sound.rules.0 (length t.code.items)) t.code.handlers h listed (sound.rules.1).handlers in
    let edge : IsHandlerEdge t.code j h.handler = record {
      inside = valid.handler;
      from_item = forced.inside;
      caught = (listed.0, h, listed.1, listed.2, catches);
    } in
    record {
      reachable = reachable-more t.code j h.handler forced.reachable (inr edge);
      inside = valid.handler;
      whole = refl;
      below = λ states typing.
          let found = fits_one t states j s (forced.below states typing) in
          let meets = typing.items j found.state found.is in
          let fits = each_handler (FitsHandler t.program t.number states j found.state) t.code.handlers h listed meets.handlers catches in
          let at = fits_one t states h.handler (handler_state caught found.state)
          (IsSomeAnd-at_some (caught_type t.program t.number h) (λ c. FitsAt t.program states h.handler (handler_state c found.state)) caught is fits) in
          fits_at t states h.handler (handler_state caught s) at.state at.is
          (state-trans t.program.outline sound.tree (handler_state caught s) (handler_state caught found.state) at.state
          (handler-fits t caught s found.state sound found.fits) at.fits);
    }

-- an entry whose range holds the item, and that catches nothing that is thrown
pub uncaught : (t : Task) (j : ℕ) (h : Handler) (s : TypeState) → IsForced t j s → Contains t.code.handlers h
    → h.start ≤ j → j < h.end → caught_type t.program t.number h ≡ None → Untypable t
uncaught t j h s forced listed after before is states typing =
    let catches : Catches j h.handler h = record { after_start = after; before_end = before; handler_is = refl } in
    let found = fits_one t states j s (forced.below states typing) in
    let meets = typing.items j found.state found.is in
    let fits = each_handler (FitsHandler t.program t.number states j found.state) t.code.handlers h listed meets.handlers catches in
    subst (λ (c : Option TypeRef). IsSomeAnd c (λ c. FitsAt t.program states h.handler (handler_state c found.state))) is fits

-- its state is brought to the handler
pub BringsCaught-brings : (t : Task) (j : ℕ) (s : TypeState) (h : Handler) (caught : TypeRef) (old new : Walked)
    → caught_type t.program t.number h ≡ Some caught → Brings t h.handler (handler_state caught s) old new → BringsCaught t j s h old new
BringsCaught-brings t j s h caught old new is brings = record {
  went = brings.went;
  fits = λ catches.
      IsSomeAnd-from_some (caught_type t.program t.number h) (λ c. FitsAt t.program new.states h.handler (handler_state c s)) caught is brings.fits;
}

handler_later : (t : Task) (a b : Walked) (j : ℕ) (s : TypeState) (h : Handler) → IsSound t → Rises t.program.outline a b
    → FitsHandler t.program t.number a.states j s h → FitsHandler t.program t.number b.states j s h
handler_later t a b j s h sound rises fits catches =
    let found = Some-from_some_and (caught_type t.program t.number h) (λ c. FitsAt t.program a.states h.handler (handler_state c s)) (fits catches) in
    IsSomeAnd-from_some (caught_type t.program t.number h) (λ c. FitsAt t.program b.states h.handler (handler_state c s)) found.0 found.1
    (fits_later t a b h.handler (handler_state found.0 s) sound rises found.2)

pub handlers_later : (t : Task) (a b : Walked) (j : ℕ) (s : TypeState) (handlers : List Handler) → IsSound t → Rises t.program.outline a b
    → AllByRecursion (FitsHandler t.program t.number a.states j s) handlers → AllByRecursion (FitsHandler t.program t.number b.states j s) handlers
handlers_later t a b j s handlers sound rises all =
    AllByRecursion-weaker (FitsHandler t.program t.number a.states j s) (FitsHandler t.program t.number b.states j s)
    (λ h fits. handler_later t a b j s h sound rises fits) handlers all

pub BringsHandlers-none : (t : Task) (j : ℕ) (s : TypeState) (w : Walked) → IsSound t → Stands t w → BringsHandlers t j s [] w w
BringsHandlers-none t j s w sound stands = record { went = Went-none t w sound stands; fits = tt }

pub BringsHandlers-more : (t : Task) (j : ℕ) (s : TypeState) (handlers : List Handler) (k : ℕ) (a b c : Walked) → IsSound t → k < length handlers
    → BringsHandlers t j s (take k handlers) a b → BringsCaught t j s (get_or handlers k blank) b c → BringsHandlers t j s (take (k + 1) handlers) a c
BringsHandlers-more t j s handlers k a b c sound inside so_far one = record {
  went = Went-then t a b c sound so_far.went one.went;
  fits = subst (λ (hs : List Handler). AllByRecursion (FitsHandler t.program t.number c.states j s) hs) (sym (take_more handlers k blank inside))
      (AllByRecursion-append (FitsHandler t.program t.number c.states j s) (take k handlers) (get_or handlers k blank ∷ [])
      (handlers_later t b c j s (take k handlers) sound one.went.rises so_far.fits) (one.fits, tt));
}

-- ---- slots that are carried

pub CarriesHandlers-none : (t : Task) (rises : List Rise) (w : Walked) → IsSound t → Stands t w → CarriesHandlers t rises [] w w
CarriesHandlers-none t rises w sound stands =
    record { went = Went-none t w sound stands; room = λ h found. absurd (let inside = found.1 in omega arith) }

pub CarriesHandlers-more : (t : Task) (rises : List Rise) (handlers : List Handler) (k : ℕ) (a b c : Walked) → IsSound t → k < length handlers
    → CarriesHandlers t rises (take k handlers) a b → Carries t (get_or handlers k blank).handler rises b c
    → CarriesHandlers t rises (take (k + 1) handlers) a c
CarriesHandlers-more t rises handlers k a b c sound inside so_far one = record {
  went = Went-then t a b c sound so_far.went one.went;
  room = λ h found.
      ⊎_elim (λ (early : Contains (take k handlers) h). all_room_later t b c h.handler rises sound one.went.rises (so_far.room h early))
      (λ (same : get_or handlers k blank ≡ h). subst (λ (x : Handler). All (HasRoom t c.states x.handler) rises) same one.room)
      (Contains-push_cases (take k handlers) (get_or handlers k blank) h
      (subst (λ (hs : List Handler). Contains hs h) (take_more handlers k blank inside) found));
}

-- a handler's state has those of locals
pub locals_held : (s : TypeState) (caught : TypeRef) (rises : List Rise) → All (λ rise. slot_at s rise.place ≡ rise.slot) rises
    → All (λ rise. slot_at (handler_state caught s) rise.place ≡ rise.slot) (locals_of rises)
locals_held s caught rises all = λ n d below.
    let rise = get_or (locals_of rises) n d in
    let found = Contains-from_filter (λ (r : Rise). is_local r.place) rises rise (Contains-get_or (locals_of rises) n d below) in
    by_place (rise.slot) rise.place (All-contains (λ r. slot_at s r.place ≡ r.slot) rises rise all found.0) found.1 where
      by_place : (x : Slot) (p : SlotPlace) → slot_at s p ≡ x → is_local p ≡ true → slot_at (handler_state caught s) p ≡ x
      by_place x (place.Local k) held local = held
      by_place x (place.Word k) held local = absurd (false≢true local)

-- ---- states that are alike

-- those of the places that are locals
abbrev pub locals_in : List SlotPlace → List SlotPlace
locals_in places = filter is_local places

-- what handlers get of states that are alike
pub caught_alike : (places : List SlotPlace) (s before : TypeState) (caught : TypeRef) → IsAlikeBut places s before
    → IsCarried (λ p. Contains (locals_in places) p) (slot_at s) (handler_state caught s) (handler_state caught before)
caught_alike places s before caught alike = record {
  locals = record {
    size = alike.locals.size;
    among = λ k within. refl;
    apart = λ k without.
        alike.locals.apart k (λ found. without (Contains-filter is_local places (place.Local k) found refl));
  };
  words = record {
    size = refl;
    among = λ k within. absurd (false≢true (Contains-from_filter is_local places (place.Word k) within).1);
    apart = λ k without. refl;
  };
  built = alike.built;
}
