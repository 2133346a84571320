-- The state of each item of code with insertions, by what it is for, and what is known where such code is typed again.
use Rattle.std.proofs.Common.{◌≡◌, ℕ, zero, suc, ◌+◌, ◌<◌, ◌≤◌, ◌⊎◌, true, false, List, [], ◌∷◌, ◌++◌, length, map, Option, Some, option_and_then, option_map, Contains}
use Rattle.std.specs.Prelude.{if◌then◌else◌, slice_get}
use Rattle.std.specs.List.{AllByRecursion}
use Rattle.fm_base.specs.declared.kinds.TypeRef.{TypeRef}
use Rattle.fm_chain.specs.Chained.{added_words, looped_at}
use Rattle.fm_chain.specs.declared.calls.Calls.{Calls}
use Rattle.fm_code.specs.Edges.{insn_of}
use Rattle.fm_code.specs.SpellsCode.{LocalsFit}
use Rattle.fm_code.specs.declared.code_array.Code.{Code}
use Rattle.fm_code.specs.declared.code_array.Handler.{Handler}
use Rattle.fm_code.specs.declared.code_array.Item.{Item}
use Rattle.fm_code.specs.declared.instructions.Insn.{Insn}
use Rattle.fm_code.specs.declared.instructions.Insn.TheVariants as insn
use Rattle.fm_law_relinked.specs.Rows.{state_with}
use Rattle.fm_law_woven_flow.specs.Roles.{CanStand, DupAfter, FreeBefore, JumpOf, Keep, LinkAfter, LoadAfter, LoadBefore, NullBefore, Role, StandsFor, StartNull, StartStore, StoreAfter, StoreBefore}
use Rattle.fm_place.proofs.SameTypings.{made_by}
use Rattle.fm_place.specs.Insertions.{after_at, before_at, Insertions}
use Rattle.fm_law_retyped.proofs.Trimmed.{trimmed}
use Rattle.fm_types.specs.Fits.{AreTree}
use Rattle.fm_types.specs.Named.{object_slot}
use Rattle.fm_types.specs.Rows.{row_after}
use Rattle.fm_types.specs.States.{local_at, pushed, TypeState}
use Rattle.fm_types.specs.Typed.{after_item, entry_state, IsTypingOf, state_at, use_by, use_in}
use Rattle.fm_types.specs.declared.slots.Slot.{Slot}
use Rattle.fm_types.specs.declared.slots.Slot.TheVariants as slot
use Rattle.fm_world.specs.Programs.{Program}

-- ---- what is typed again

-- A method of two programs: its code with a typing, and that code with insertions, by the roles of its items; and of each holder the type of what it
-- holds, and of what its site gives.
pub record Retyping : Type 0 where
  pub given : Program
  pub written : Program
  pub method : ℕ
  pub calls : Calls
  pub code : Code
  pub plan : Insertions
  pub woven : Code
  pub states : List (Option TypeState)
  pub types : List TypeRef
  pub gives : List TypeRef
  pub roles : List Role
  pub numbers : ℕ → ℕ
  pub moved : Handler → Handler

-- the slots of holders that hold something
abbrev pub held_slots : List TypeRef → List Slot
held_slots types = map (λ t. slot.Ref t) types

-- the slot of a holder
abbrev pub held_slot : Retyping → ℕ → Slot
held_slot w h = local_at (held_slots w.types) h

-- the slot of what the holder's site gives
abbrev pub given_slot : Retyping → ℕ → Slot
given_slot w h = local_at (held_slots w.gives) h

-- this many holders hold something, the later ones nothing yet
abbrev pub begun : ℕ → List TypeRef → List Slot
begun holders [] = []
begun zero (t ∷ types) = slot.Top ∷ begun zero types
begun (suc holders) (t ∷ types) = slot.Ref t ∷ begun holders types

-- ---- states

-- the state of an old item, where all holders hold something
abbrev pub kept_state : Retyping → TypeState → TypeState
kept_state w s = state_with w.numbers (held_slots w.types) s

-- at the start, where this many holders do
abbrev pub start_state : Retyping → ℕ → List Slot → TypeState
start_state w holders stack =
    let entry = entry_state w.given.outline w.method w.code in
    record { locals = entry.locals ++ begun holders w.types; stack = stack; built = entry.built }

-- the state after an old item
abbrev pub state_after : Retyping → ℕ → Option TypeState
state_after w j = option_and_then (after_item w.given w.method w.code j) (state_at w.states j)

abbrev pub role_state : Retyping → Role → Option TypeState
role_state w (StartNull h) = Some (start_state w h [])
role_state w (StartStore h) = Some (start_state w h (slot.Null ∷ []))
role_state w (LoadBefore j h) = option_map (kept_state w) (state_at w.states j)
role_state w (FreeBefore j h) = option_map (λ s. pushed (held_slot w h ∷ []) (kept_state w s)) (state_at w.states j)
role_state w (NullBefore j h) = option_map (kept_state w) (state_at w.states j)
role_state w (StoreBefore j h) = option_map (λ s. pushed (slot.Null ∷ []) (kept_state w s)) (state_at w.states j)
role_state w (Keep j) = option_map (kept_state w) (state_at w.states j)
role_state w (JumpOf j) = option_map (kept_state w) (state_after w j)
role_state w (DupAfter j h) = option_map (kept_state w) (state_after w j)
role_state w (LoadAfter j h) = option_map (λ s. pushed (given_slot w h ∷ []) (kept_state w s)) (state_after w j)
role_state w (LinkAfter j h) = option_map (λ s. pushed (held_slot w h ∷ given_slot w h ∷ []) (kept_state w s)) (state_after w j)
role_state w (StoreAfter j h) = option_map (λ s. pushed (held_slot w h ∷ []) (kept_state w s)) (state_after w j)

-- the typing written out
abbrev pub role_states : Retyping → List (Option TypeState)
role_states w = map (role_state w) w.roles

-- ---- what is known

-- each range of the exception table that holds the item holds the next one too
abbrev pub AllGoOn : List Handler → ℕ → Type 0
AllGoOn handlers j = (handler : Handler) → Contains handlers handler → handler.start ≤ j → j < handler.end → j + 1 < handler.end

-- after an item that gives an object to a holder: it is on top, the locals are as many, and they are as they were if a handler's range ends
-- right behind it
pub record IsHeld (w : Retyping) (j h : ℕ) (s after : TypeState) : Type 0 where
  pub rest : List Slot
  pub top : after.stack ≡ given_slot w h ∷ rest
  pub count : length after.locals ≡ length s.locals
  pub short : trimmed after.locals ≡ after.locals
  pub locals : (after.locals ≡ s.locals) ⊎ AllGoOn w.code.handlers j
  pub built : after.built ≡ s.built

-- the method of this entry takes what a holder holds
abbrev pub Frees : Retyping → (call : ℕ) → Type 0
Frees w call =
    (item : ℕ) (news : ℕ → Option TypeRef) (t : TypeRef) (s : TypeState)
    → row_after w.given.outline w.method item news (use_by w.written w.method (insn.Static call)) (insn.Static call) (pushed (slot.Ref t ∷ []) s) ≡ Some s

-- FreeMe.link takes two objects, and gives one of no narrower type than Object
abbrev pub Links : Retyping → Type 0
Links w =
    (item : ℕ) (news : ℕ → Option TypeRef) (a b : TypeRef) (s : TypeState)
    → row_after w.given.outline w.method item news (use_by w.written w.method (insn.Static w.calls.link)) (insn.Static w.calls.link)
    (pushed (slot.Ref a ∷ slot.Ref b ∷ []) s)
    ≡ Some (pushed (object_slot w.given.outline ∷ []) s)

-- all that is asked
pub record CanRetype (w : Retyping) : Type 0 where
  pub tree : AreTree w.given.outline.classes
  pub outline : w.written.outline ≡ w.given.outline
  pub typing : IsTypingOf w.given w.method w.code w.states
  pub fit : AllByRecursion (λ (item : Item). LocalsFit w.code.max_locals item.insn) w.code.items
  pub short : (j : ℕ) (s : TypeState) → state_at w.states j ≡ Some s → trimmed s.locals ≡ s.locals
  pub can : CanStand w.code w.plan
  pub stands : StandsFor w.calls w.code w.plan w.woven w.roles w.numbers w.moved
  pub more_locals : w.woven.max_locals ≡ w.code.max_locals + length w.plan.holders
  pub more_stack : w.woven.max_stack ≡ w.code.max_stack + added_words w.plan
  pub uses : (j : ℕ) (i : Insn) (s : TypeState) → insn_of w.code j ≡ Some i → state_at w.states j ≡ Some s
      → use_by w.written w.method i ≡ use_by w.given w.method i
  pub made : (j : ℕ) (i : Insn) → insn_of w.code j ≡ Some i → made_by w.written w.method i ≡ made_by w.given w.method i
  pub caught : (h : Handler) → Contains w.code.handlers h → use_in w.written w.method h.catch_class ≡ use_in w.given w.method h.catch_class
  pub frees : (n j h : ℕ) → slice_get w.roles n ≡ Some (FreeBefore j h) → Frees w (if looped_at w.plan h then w.calls.free_chain else w.calls.free)
  pub links : (n j h : ℕ) → slice_get w.roles n ≡ Some (LinkAfter j h) → Links w
  pub counted : length w.types ≡ length w.plan.holders
  pub given_counted : length w.gives ≡ length w.plan.holders
  -- a holder holds what its site gives, and one of a chain holds objects of any type
  pub plain : (h : ℕ) → h < length w.plan.holders → looped_at w.plan h ≡ false → held_slot w h ≡ given_slot w h
  pub chained : (h : ℕ) → h < length w.plan.holders → looped_at w.plan h ≡ true → held_slot w h ≡ object_slot w.given.outline
  pub before : (j h : ℕ) → Contains (before_at w.plan j) h → h < length w.plan.holders
  pub after : (j h : ℕ) → Contains (after_at w.plan j) h → h < length w.plan.holders
  pub held : (j h : ℕ) (s after : TypeState) → Contains (after_at w.plan j) h → state_at w.states j ≡ Some s
      → after_item w.given w.method w.code j s ≡ Some after → IsHeld w j h s after
