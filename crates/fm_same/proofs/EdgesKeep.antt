-- What is live at the end of an edge was live before it; and which edges a call, a jump and what is caught take.
use Rattle.std.proofs.Common.{◌≡◌, ℕ, zero, suc, ◌+◌, ◌<◌, ◌≤◌, ◌⊎◌, Bool, true, false, cond, List, [], ◌∷◌, length, Option, Some, option_map, option_and_then, Any, refl, sym, ◌∙◌, ap, subst, inl, inr, slice_get, slice_index_or, arith, ⊎_elim}
use Rattle.std.proofs.lemmas.Option.{none-some, same_Some}
use Rattle.fm_base.proofs.ListFacts.{some_within}
use Rattle.fm_base.proofs.OptionFacts.{IsSomeAnd-from_some}
use Rattle.fm_base.specs.declared.kinds.TypeRef.{TypeRef}
use Rattle.fm_code.specs.Edges.{Catches, falls_through, insn_of, IsEdge, IsHandlerEdge, IsNormalEdge, LeadsTo}
use Rattle.fm_code.specs.Live.{Keeps, Live, stores_over}
use Rattle.fm_code.specs.SpellsCode.{targets_of}
use Rattle.fm_code.specs.declared.code_array.Code.{Code}
use Rattle.fm_code.specs.declared.code_array.Handler.{Handler}
use Rattle.fm_code.specs.declared.code_array.Item.{Item}
use Rattle.fm_code.specs.declared.instructions.Insn.{Insn}
use Rattle.fm_code.specs.declared.instructions.Insn.TheVariants as insn
use Rattle.fm_code.specs.declared.operations.Reg.TheVariants as reg
use Rattle.fm_conn.specs.Facts.{AreFacts, Facts}
use Rattle.fm_conn.specs.Nodes.{TypedMethod}
use Rattle.fm_conn.specs.Pairs.{call_of}
use Rattle.fm_types.specs.States.{TypeState}
use Rattle.fm_types.specs.Typed.{state_at}
use Rattle.fm_world.specs.Programs.{code_at, Program}
use Rattle.fm_world.specs.declared.calls.Call.{Call}
use Rattle.fm_frames.specs.States.{Frame}
use Rattle.fm_frames.specs.Steps.{catches, handler_among, handler_of}
use Rattle.fm_law_sound.proofs.FramesStand.{catches_range}

-- ---- liveness

-- an item that stores nothing over the local keeps it
pub live_before : (p : Program) (facts : Facts) → AreFacts p facts → (method : ℕ) (code : Code) → code_at p method ≡ Some code
    → (j next k : ℕ) (i : Insn) → insn_of code j ≡ Some i → IsEdge code j next → stores_over k i ≡ false
    → facts.live method k next ≡ true → facts.live method k j ≡ true
live_before p facts exact method code is j next k i at edge keeps live =
    let after : Live code k next = ((exact.methods method code is).live k next).0 live in
    let kept : Keeps code k j = IsSomeAnd-from_some (insn_of code j) (λ other. stores_over k other ≡ false) i at keeps in
    ((exact.methods method code is).live k j).1 (next ∷ after.0, (kept, edge, after.1))

-- what `aload` loads is live
pub live_loaded : (p : Program) (facts : Facts) → AreFacts p facts → (method : ℕ) (code : Code) → code_at p method ≡ Some code
    → (j k : ℕ) → insn_of code j ≡ Some (insn.Load reg.Ref k) → facts.live method k j ≡ true
live_loaded p facts exact method code is j k at = ((exact.methods method code is).live k j).1 ([], at)

-- ---- items

-- what has a state is an item
pub item_with_state : (p : Program) (facts : Facts) → AreFacts p facts → (method : ℕ) (code : Code) → code_at p method ≡ Some code
    → (j : ℕ) (s : TypeState) → state_at (facts.typing method) j ≡ Some s → j < length code.items
item_with_state p facts exact method code is j s at =
    subst (λ count. j < count) (exact.methods method code is).typing.one_each (some_within (facts.typing method) j s at)

item_there : (items : List Item) (j : ℕ) (i : Insn) → option_map (λ (item : Item). item.insn) (slice_get items j) ≡ Some i → j < length items
item_there [] j i h = absurd (cc)
item_there (item ∷ items) zero i h = omega arith
item_there (item ∷ items) (suc j) i h = let lt : j < length items = item_there items j i h in omega arith

-- ---- edges

pub edge_to_next : (code : Code) (j : ℕ) (i : Insn) → insn_of code j ≡ Some i → falls_through i ≡ true → j + 1 < length code.items
    → IsNormalEdge code j (j + 1)
edge_to_next code j i at falls inside = record {
  inside = inside;
  leads = IsSomeAnd-from_some (insn_of code j) (λ other. LeadsTo other j (j + 1)) i at (inr (falls, refl));
}

pub edge_to_target : (code : Code) (j n next : ℕ) (i : Insn) → insn_of code j ≡ Some i → n < length (targets_of i)
    → slice_index_or (targets_of i) n next ≡ next → next < length code.items → IsNormalEdge code j next
edge_to_target code j n next i at within is inside = record {
  inside = inside;
  leads = IsSomeAnd-from_some (insn_of code j) (λ other. LeadsTo other j next) i at (inl (n, within, is));
}

-- a call falls through, and stores over no local
pub call_falls : (x : TypedMethod) (i : Insn) (call : Call) → call_of x i ≡ Some call → falls_through i ≡ true
call_falls x (insn.Virtual index) call h = refl
call_falls x (insn.Interface index) call h = refl
call_falls x (insn.Special index) call h = refl
call_falls x (insn.Static index) call h = refl
call_falls x other call h = absurd (none-some call h)

pub call_no_targets : (x : TypedMethod) (i : Insn) (call : Call) → call_of x i ≡ Some call → targets_of i ≡ []
call_no_targets x (insn.Virtual index) call h = refl
call_no_targets x (insn.Interface index) call h = refl
call_no_targets x (insn.Special index) call h = refl
call_no_targets x (insn.Static index) call h = refl
call_no_targets x other call h = absurd (none-some call h)

pub call_keeps : (x : TypedMethod) (i : Insn) (call : Call) → call_of x i ≡ Some call → (k : ℕ) → stores_over k i ≡ false
call_keeps x (insn.Virtual index) call h k = refl
call_keeps x (insn.Interface index) call h k = refl
call_keeps x (insn.Special index) call h k = refl
call_keeps x (insn.Static index) call h k = refl
call_keeps x other call h k = absurd (none-some call h)

-- ---- what is caught

either_found : (b : Bool) (one : ℕ) (rest : Option ℕ) (h : ℕ) → cond b (Some one) rest ≡ Some h → ((b ≡ true) × (one ≡ h)) ⊎ (rest ≡ Some h)
either_found true one rest h e = inl (refl, same_Some one h e)
either_found false one rest h e = inr e

handler_found : (p : Program) (f : Frame) (t : TypeRef) (handlers : List Handler) (h : ℕ) → handler_among p f t handlers ≡ Some h
    → Any (Catches f.item h) handlers
handler_found p f t [] h e = absurd (cc)
handler_found p f t (entry ∷ handlers) h e = ⊎_elim
    (λ here.
    let range : (entry.start ≤ f.item) × (f.item < entry.end) = catches_range p f t entry here.0 in
    (0, entry, omega arith, refl, record { after_start = range.0; before_end = range.1; handler_is = here.1 }))
    (λ later.
    let rest : Any (Catches f.item h) handlers = handler_found p f t handlers h later in
    let within : rest.0 < length handlers = rest.2 in
    (suc rest.0, rest.1, omega arith, rest.3, rest.4))
    (either_found (catches p f t entry) entry.handler (handler_among p f t handlers) h e)

pub handler_edge : (p : Program) (f : Frame) (t : TypeRef) (code : Code) (h : ℕ) → code_at p f.method ≡ Some code → handler_of p f t ≡ Some h
    → h < length code.items → f.item < length code.items → IsHandlerEdge code f.item h
handler_edge p f t code h is found inside from_item = record {
  inside = inside;
  from_item = from_item;
  caught = handler_found p f t code.handlers h
      (sym (ap (λ o. option_and_then (λ (c : Code). handler_among p f t c.handlers) o) is) ∙ found);
}
