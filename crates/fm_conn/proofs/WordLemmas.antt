-- The words of a method's items: which have numbers, and what a place at an item that can be reached is.
use Rattle.std.proofs.Common.{◌≡◌, ℕ, zero, suc, ◌+◌, ◌<◌, ◌≤◌, true, false, cond, List, [], ◌∷◌, length, Option, Some, None, is_some, IsSomeAnd, refl, ap, sym, ◌∙◌, subst, ⊎_elim, reverse}
use Rattle.std.proofs.lemmas.Bool.{cases_lt, cond_below, false≢true, ltb-true}
use Rattle.std.proofs.lemmas.List.{get_or_past, length-map, length-reverse}
use Rattle.std.proofs.lemmas.Option.{slice_get-get_or}
use Rattle.std.proofs.Math.ListN.{get_or-map}
use Rattle.std.specs.List.{slice_get}
use Rattle.std.specs.Option.{option_and_then}
use Rattle.fm_base.proofs.OptionFacts.{cond-some_then}
use Rattle.fm_base.specs.Rows.{has}
use Rattle.fm_code.specs.Edges.{insn_of}
use Rattle.fm_code.specs.declared.instructions.Insn.{Insn}
use Rattle.fm_base.proofs.RowFacts.{has_inside}
use Rattle.fm_types.specs.States.{is_reference, TypeState}
use Rattle.fm_types.specs.Typed.{state_at}
use Rattle.fm_conn.proofs.ListLemmas.{has-from_map, has-map}
use Rattle.fm_conn.proofs.NumberLemmas.{IsThere}
use Rattle.fm_conn.specs.Nodes.{depth_at, IsNode, Local, Node, Slot, TypedMethod}
use Rattle.fm_conn.specs.Shapes.{IsReached}
use Rattle.fm_conn.specs.inner.NodeTables.{first_word, local_number, NodeTable, number_of, slot_number, table_of, words_at, words_of_state}
use Rattle.fm_conn.specs.inner.PairLists.{ItemPlace, located, place_at, place_in, place_with}

-- ---- words

pub words_of_item : (x : TypedMethod) (j : ℕ) → words_at (table_of x) j ≡ words_of_state (state_at x.states j)
words_of_item x j = get_or-map words_of_state x.states j None

node_of_state : (o : Option TypeState) (d : ℕ) → has (words_of_state o) d ≡ true →
    IsSomeAnd (option_and_then (λ (s : TypeState). slice_get (reverse s.stack) d) o) (λ s. is_reference s ≡ true)
node_of_state None d set = false≢true set
node_of_state (Some s) d set = has-map is_reference (reverse s.stack) d set

state_of_node : (o : Option TypeState) (d : ℕ) → IsSomeAnd (option_and_then (λ (s : TypeState). slice_get (reverse s.stack) d) o) (λ s. is_reference s ≡ true) →
    has (words_of_state o) d ≡ true
state_of_node None d node = absurd node
state_of_node (Some s) d node = has-from_map is_reference (reverse s.stack) d node

-- a word's bit is set exactly where it is a node
pub node_of_word : (x : TypedMethod) (j d : ℕ) → has (words_at (table_of x) j) d ≡ true → IsNode x (Slot j d)
node_of_word x j d set = node_of_state (state_at x.states j) d (subst (λ w. has w d ≡ true) (words_of_item x j) set)

pub word_of_node : (x : TypedMethod) (j d : ℕ) → IsNode x (Slot j d) → has (words_at (table_of x) j) d ≡ true
word_of_node x j d node = subst (λ w. has w d ≡ true) (sym (words_of_item x j)) (state_of_node (state_at x.states j) d node)

-- a node that has this number
pub record HasNumber (x : TypedMethod) (node : Node) (n : ℕ) : Type 0 where
  pub is_node : IsNode x node
  pub there : IsThere (table_of x) node
  pub is : n ≡ number_of (table_of x) node

near_slot : (t : NodeTable) (j d : ℕ) → d < length (words_at t j) → first_word t j + d ≡ number_of t (Slot j d)
near_slot t j d here = cond_below d (length (words_at t j)) (first_word t j + d) _ here

pub slot_number-some : (x : TypedMethod) (j d n : ℕ) → slot_number (table_of x) j d ≡ Some n → HasNumber x (Slot j d) n
slot_number-some x j d n some =
    let t = table_of x in
    let both = cond-some_then (has (words_at t j) d) (Some (first_word t j + d)) n some in
    let here : d < length (words_at t j) = has_inside (words_at t j) d both.0 in
    let is : first_word t j + d ≡ n = cc (both.1) in
    record { is_node = node_of_word x j d both.0; there = here; is = sym is ∙ near_slot t j d here }

pub slot_number-node : (x : TypedMethod) (j d : ℕ) → IsNode x (Slot j d) → slot_number (table_of x) j d ≡ Some (number_of (table_of x) (Slot j d))
slot_number-node x j d node =
    let t = table_of x in
    let set = word_of_node x j d node in
    let here : d < length (words_at t j) = has_inside (words_at t j) d set in
    ap (λ b. cond b (Some (first_word t j + d)) None) set ∙ ap Some (near_slot t j d here)

-- a word that is a node lies below the depth
pub node_below : (x : TypedMethod) (j d : ℕ) → IsNode x (Slot j d) → d < length (words_at (table_of x) j)
node_below x j d node = has_inside (words_at (table_of x) j) d (word_of_node x j d node)

pub local_number-some : (x : TypedMethod) (k n : ℕ) → local_number (table_of x) k ≡ Some n → HasNumber x (Local k) n
local_number-some x k n some =
    let t = table_of x in
    let both = cond-some_then _ (Some k) n some in
    let low : k < t.locals = ltb-true k t.locals both.0 in
    let is : k ≡ n = cc (both.1) in
    record { is_node = tt; there = low; is = sym is ∙ cond_below k t.locals k _ low }

pub local_number-there : (t : NodeTable) (k : ℕ) → k < t.locals → local_number t k ≡ Some (number_of t (Local k))
local_number-there t k low = sym (cond_below k t.locals (Some k) None low) ∙ ap Some (cond_below k t.locals k _ low)

-- ---- items that can be reached

pub record Located (x : TypedMethod) (j : ℕ) (i : Insn) (s : TypeState) : Type 0 where
  pub state : state_at x.states j ≡ Some s
  pub insn : insn_of x.code j ≡ Some i

place_in-some : (x : TypedMethod) (j : ℕ) (a : Option TypeState) (b : Option Insn) (place : ItemPlace) → place_in x j a b ≡ Some place →
    (s : TypeState) × (i : Insn) × (a ≡ Some s) × (b ≡ Some i) × (place ≡ place_at x j i s)
place_in-some x j (Some s) (Some i) place some = (s, i, refl, refl, cc)
place_in-some x j (Some s) None place some = absurd cc
place_in-some x j None b place some = absurd cc

pub record IsLocated (x : TypedMethod) (j : ℕ) (place : ItemPlace) : Type 0 where
  pub state : TypeState
  pub insn : Insn
  pub at : Located x j insn state
  pub is : place ≡ place_at x j insn state

pub located-some : (x : TypedMethod) (j : ℕ) (place : ItemPlace) → located x j ≡ Some place → IsLocated x j place
unfolding located
located-some x j place some =
    let found = place_in-some x j (state_at x.states j) (insn_of x.code j) place some in
    record { state = found.0; insn = found.1; at = record { state = found.2; insn = found.3 }; is = found.4 }

pub located-at : (x : TypedMethod) (j : ℕ) (i : Insn) (s : TypeState) → Located x j i s → located x j ≡ Some (place_at x j i s)
unfolding located
located-at x j i s at = (λ k. place_in x j (at.state k) (at.insn k))

pub reached_at : (x : TypedMethod) (j : ℕ) (i : Insn) (s : TypeState) → Located x j i s → IsReached x j
reached_at x j i s at =
    let inside : j < length x.states =
    ⊎_elim (λ within. within) (λ (past : length x.states ≤ j). absurd (let none = get_or_past x.states j None past in let some = at.state in cc))
    (cases_lt j (length x.states)) in
    let got : slice_get x.states j ≡ Some (Some s) = slice_get-get_or x.states j None inside ∙ ap Some at.state in
    subst (λ o. IsSomeAnd o (λ v. IsSomeAnd v (λ w. Unit {0}))) (sym got) tt

state_got : (states : List (Option TypeState)) (j : ℕ) → IsSomeAnd (slice_get states j) (λ s. IsSomeAnd s (λ w. Unit {0})) → (s : TypeState) × (state_at states j ≡ Some s)
state_got [] j reached = absurd reached
state_got (None ∷ states) zero reached = absurd reached
state_got (Some s ∷ states) zero reached = (s, refl)
state_got (o ∷ states) (suc j) reached = state_got states j reached

pub state_reached : (x : TypedMethod) (j : ℕ) → IsReached x j → (s : TypeState) × (state_at x.states j ≡ Some s)
state_reached x j reached = state_got x.states j reached

pub depth_is : (x : TypedMethod) (j : ℕ) (s : TypeState) → state_at x.states j ≡ Some s → depth_at x j ≡ length s.stack
depth_is x j s state = rw state refl

pub words_count : (x : TypedMethod) (j : ℕ) (s : TypeState) → state_at x.states j ≡ Some s → length (words_at (table_of x) j) ≡ length s.stack
words_count x j s state =
    ap length (words_of_item x j) ∙ ap (λ o. length (words_of_state o)) state ∙ length-map (reverse s.stack) is_reference ∙ length-reverse s.stack

-- an item that can't be reached
place_in-none : (x : TypedMethod) (j : ℕ) (a : Option TypeState) (b : Option Insn) → is_some a ≡ false → place_in x j a b ≡ None
place_in-none x j None b none = refl
place_in-none x j (Some s) b none = absurd (false≢true (sym none))

pub located-none : (x : TypedMethod) (j : ℕ) → is_some (state_at x.states j) ≡ false → located x j ≡ None
unfolding located
located-none x j none = place_in-none x j (state_at x.states j) (insn_of x.code j) none

state_some : (o : Option TypeState) → is_some o ≡ true → (s : TypeState) × (o ≡ Some s)
state_some None some = absurd (false≢true some)
state_some (Some s) some = (s, refl)

-- and one that can, with its words counted
pub located-counted : (x : TypedMethod) (j : ℕ) (i : Insn) (d : ℕ) → is_some (state_at x.states j) ≡ true → insn_of x.code j ≡ Some i →
    d ≡ length (words_at (table_of x) j) → located x j ≡ Some (place_with x j i d)
located-counted x j i d some is count =
    let state = state_some (state_at x.states j) some in
    located-at x j i state.0 (record { state = state.1; insn = is })
    ∙ ap (λ n. Some (place_with x j i n)) (sym (count ∙ words_count x j state.0 state.1))
