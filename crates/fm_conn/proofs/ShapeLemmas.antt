-- The ends and the calls that are listed make the method's shape.
use Rattle.std.proofs.Common.{◌≡◌, ℕ, zero, suc, ◌-◌, ◌<◌, ◌↔◌, Bool, true, false, cond, List, [], ◌∷◌, ◌++◌, length, get_or, replicate, Option, Some, None, IsSomeAnd, Contains, refl, ap, sym, ◌∙◌, subst, ⊎_elim, arith, length-append}
use Rattle.std.proofs.lemmas.Bool.{cond_below, false≢true}
use Rattle.std.proofs.lemmas.List.Elements.{Contains-append_left, Contains-append_right, Contains-append_cases}
use Rattle.std.proofs.lemmas.Option.{slice_get_within}
use Rattle.std.specs.List.{range_with_len, slice_get}
use Rattle.fm_base.proofs.ContainsFacts.{Contains-flat_map, Contains-none}
use Rattle.fm_base.proofs.OptionFacts.{Some-from_some_and}
use Rattle.fm_base.specs.Graph.{AreLeastJoined}
use Rattle.fm_base.specs.declared.kinds.Kind.{Kind}
use Rattle.fm_code.proofs.EdgesLemmas.{Contains-map, Contains-from_map}
use Rattle.fm_code.specs.declared.instructions.Insn.{Insn}
use Rattle.fm_types.specs.Named.{result_of}
use Rattle.fm_types.specs.States.{is_reference, TypeState}
use Rattle.fm_types.specs.Typed.{entry_slots, entry_state, state_at, IsTypingOf}
use Rattle.fm_types.specs.declared.slots.Slot as slots
use Rattle.fm_types.specs.declared.slots.Slot.TheVariants as slot
use Rattle.fm_world.specs.declared.calls.Call.{Call}
use Rattle.fm_conn.proofs.CallLemmas.{call_fits, stand_complete, stand_sound}
use Rattle.fm_conn.proofs.ChainLemmas.{classes_same}
use Rattle.fm_flow.proofs.SourcesLemmas.{Contains-from_flat_map}
use Rattle.fm_conn.proofs.ListLemmas.{Contains-from_range, Contains-one, Contains-range}
use Rattle.fm_conn.proofs.MethodLemmas.{lists_nodes, own_lists}
use Rattle.fm_conn.proofs.PairLemmas.{state_inside, IsTabled}
use Rattle.fm_conn.proofs.WordLemmas.{located-at, located-some, reached_at, state_reached, Located}
use Rattle.fm_conn.specs.Links.{node_of}
use Rattle.fm_conn.specs.Nodes.{Global, Local, Node, Return, TypedMethod}
use Rattle.fm_conn.specs.Pairs.{call_of, IsEnd}
use Rattle.fm_conn.specs.Rows.{is_reference_kind}
use Rattle.fm_conn.specs.Shapes.{nothing_linked, HasStandIn, IsCallShapeAt, IsShapeOf, MakesCall}
use Rattle.fm_conn.specs.declared.ends.End2.{End2}
use Rattle.fm_conn.specs.declared.ends.End2.TheVariants as end
use Rattle.fm_conn.specs.declared.shapes.CallShape.{CallShape}
use Rattle.fm_conn.specs.declared.shapes.Shape.{Shape}
use Rattle.fm_conn.specs.inner.NodeTables.{class_at, class_in, global_number, node_count, number_of, return_number, table_of}
use Rattle.fm_conn.specs.inner.PairLists.{call_shape, call_shape_at, call_shape_in, call_shapes, end_entries, ItemPlace, located, own_pairs, parameter_entry, parameters_in, place_at, result_in, shape_at_place, stand_ins, with_classes}

-- ---- parameters

pub top_at : (c k : ℕ) → get_or (replicate c slot.Top) k slot.Top ≡ slot.Top
top_at zero k = refl
top_at (suc c) zero = refl
top_at (suc c) (suc k) = top_at c k

reference_at : (given : List slots.Slot) (c k : ℕ) → is_reference (get_or (given ++ replicate c slot.Top) k slot.Top) ≡ true →
    IsSomeAnd (slice_get given k) (λ s. is_reference s ≡ true)
reference_at [] c k is = absurd (false≢true (ap is_reference (sym (top_at c k)) ∙ is))
reference_at (s ∷ given) c zero is = is
reference_at (s ∷ given) c (suc k) is = reference_at given c k is

at_reference : (given : List slots.Slot) (c k : ℕ) → IsSomeAnd (slice_get given k) (λ s. is_reference s ≡ true) →
    is_reference (get_or (given ++ replicate c slot.Top) k slot.Top) ≡ true
at_reference [] c k is = absurd is
at_reference (s ∷ given) c zero is = is
at_reference (s ∷ given) c (suc k) is = at_reference given c k is

-- the locals at first
record Entry (x : TypedMethod) (s : TypeState) : Type 0 where
  state : state_at x.states 0 ≡ Some s
  count : length s.locals ≡ x.code.max_locals
  rest : ℕ
  locals : s.locals ≡ entry_slots x.program.outline x.number ++ replicate rest slot.Top

entry : (x : TypedMethod) → IsTypingOf x.program x.number x.code x.states → Entry x (entry_state x.program.outline x.number x.code)
unfolding entry_state
entry x typed = record {
  state = typed.first;
  count = (typed.items 0 (entry_state x.program.outline x.number x.code) typed.first).locals;
  rest = x.code.max_locals - length (entry_slots x.program.outline x.number);
  locals = refl;
}

in_if : (b : Bool) (p q : End2 × ℕ) → Contains (cond b (p ∷ []) []) q → (b ≡ true) × (q ≡ p)
in_if true p q found = (refl, Contains-one p q found)
in_if false p q found = absurd (Contains-none q found)

if_in : (b : Bool) (p q : End2 × ℕ) → b ≡ true → q ≡ p → Contains (cond b (p ∷ []) []) q
if_in b p q is same = subst (λ v. Contains (cond v (p ∷ []) []) q) (sym is) (0, omega arith, sym same)

-- an end with the class of its node
abbrev EndIs : TypedMethod → List ℕ → End2 → ℕ → Type 0
EndIs x least e n = IsEnd x.program.outline x.number e × (n ≡ class_in (table_of x) least (node_of e))

local_class : (x : TypedMethod) (least : List ℕ) (k : ℕ) → k < x.code.max_locals → class_at least k ≡ class_in (table_of x) least (Local k)
unfolding class_in
local_class x least k low = ap (class_at least) (cond_below k x.code.max_locals k _ low)

return_class : (x : TypedMethod) (least : List ℕ) → class_at least (return_number (table_of x)) ≡ class_in (table_of x) least Return
unfolding class_in
return_class x least = refl

global_class : (x : TypedMethod) (least : List ℕ) → class_at least (global_number (table_of x)) ≡ class_in (table_of x) least Global
unfolding class_in
global_class x least = refl

parameters_sound : (x : TypedMethod) (least : List ℕ) (s : TypeState) (e : End2) (n : ℕ) → Entry x s →
    Contains (parameters_in x.code.max_locals least (Some s)) (e, n) → EndIs x least e n
parameters_sound x least s e n at found =
    let piece = Contains-from_flat_map (parameter_entry least s.locals) (range_with_len 0 x.code.max_locals) (e, n) found in
    let k = piece.0 in
    let low = Contains-from_range 0 x.code.max_locals k piece.1 in
    let below : k < x.code.max_locals = omega arith in
    let both = in_if (is_reference (get_or s.locals k slot.Top)) (end.Parameter k, class_at least k) (e, n) piece.2 in
    let is_end = reference_at (entry_slots x.program.outline x.number) at.rest k (ap (λ v. is_reference (get_or v k slot.Top)) (sym at.locals) ∙ both.0) in
    let made : EndIs x least (end.Parameter k) n = (is_end, ap (λ w. w.1) both.1 ∙ local_class x least k below) in
    subst (λ v. EndIs x least v n) (sym (ap (λ w. w.0) both.1)) made

parameters_complete : (x : TypedMethod) (least : List ℕ) (s : TypeState) (k n : ℕ) → Entry x s → EndIs x least (end.Parameter k) n →
    Contains (parameters_in x.code.max_locals least (Some s)) (end.Parameter k, n)
parameters_complete x least s k n at (is_end, is) =
    let found = Some-from_some_and (slice_get (entry_slots x.program.outline x.number) k) (λ v. is_reference v ≡ true) is_end in
    let inside = slice_get_within (entry_slots x.program.outline x.number) k found.0 found.1 in
    let size = length-append (entry_slots x.program.outline x.number) (replicate at.rest slot.Top) in
    let locals = ap length at.locals in
    let count = at.count in
    let below : k < x.code.max_locals = omega arith in
    let set : is_reference (get_or s.locals k slot.Top) ≡ true =
    ap (λ v. is_reference (get_or v k slot.Top)) at.locals ∙ at_reference (entry_slots x.program.outline x.number) at.rest k is_end in
    Contains-flat_map (parameter_entry least s.locals) (range_with_len 0 x.code.max_locals) k _
    (Contains-range 0 x.code.max_locals k (omega arith) (omega arith))
    (if_in (is_reference (get_or s.locals k slot.Top)) (end.Parameter k, class_at least k) (end.Parameter k, n) set
    (ap (λ v. (end.Parameter k, v)) (is ∙ sym (local_class x least k below))))

result_sound : (x : TypedMethod) (least : List ℕ) (o : Option Kind) (e : End2) (n : ℕ) → result_of x.program.outline x.number ≡ o →
    Contains (result_in x least o) (e, n) → EndIs x least e n
result_sound x least None e n is found = absurd (Contains-none (e, n) found)
result_sound x least (Some kind) e n is found =
    let both = in_if (is_reference_kind kind) (end.Return, class_at least (return_number (table_of x))) (e, n) found in
    let is_end : IsEnd x.program.outline x.number end.Return = subst (λ v. IsSomeAnd v (λ k. is_reference_kind k ≡ true)) (sym is) both.0 in
    let made : EndIs x least end.Return n = (is_end, ap (λ w. w.1) both.1 ∙ return_class x least) in
    subst (λ v. EndIs x least v n) (sym (ap (λ w. w.0) both.1)) made

result_complete : (x : TypedMethod) (least : List ℕ) (n : ℕ) → EndIs x least end.Return n →
    Contains (result_in x least (result_of x.program.outline x.number)) (end.Return, n)
result_complete x least n (is_end, is) =
    let found = Some-from_some_and (result_of x.program.outline x.number) (λ k. is_reference_kind k ≡ true) is_end in
    subst (λ o. Contains (result_in x least o) (end.Return, n)) (sym found.1)
    (if_in (is_reference_kind found.0) (end.Return, class_at least (return_number (table_of x))) (end.Return, n) found.2
    (ap (λ v. (end.Return, v)) (is ∙ sym (return_class x least))))

pub ends_are : (x : TypedMethod) (least : List ℕ) → IsTypingOf x.program x.number x.code x.states → (e : End2) (n : ℕ) →
    Contains (end_entries x least) (e, n) ↔ EndIs x least e n
unfolding end_entries
ends_are x least typed e n = (sound, complete e) where
  s : TypeState
  s = entry_state x.program.outline x.number x.code

  at : Entry x s
  at = entry x typed

  parameters : List (End2 × ℕ)
  parameters = parameters_in x.code.max_locals least (state_at x.states 0)

  is : parameters ≡ parameters_in x.code.max_locals least (Some s)
  is = ap (parameters_in x.code.max_locals least) at.state

  result : List (End2 × ℕ)
  result = result_in x least (result_of x.program.outline x.number)

  outside : List (End2 × ℕ)
  outside = (end.Global, class_at least (global_number (table_of x))) ∷ []

  sound : Contains (end_entries x least) (e, n) → EndIs x least e n
  sound found =
      ⊎_elim
      (λ before. ⊎_elim (λ given. parameters_sound x least s e n at (subst (λ v. Contains v (e, n)) is given))
      (λ returned. result_sound x least (result_of x.program.outline x.number) e n refl returned)
      (Contains-append_cases parameters result (e, n) before))
      (λ last.
      let same = Contains-one (end.Global, class_at least (global_number (table_of x))) (e, n) last in
      let made : EndIs x least end.Global n = (tt, ap (λ w. w.1) same ∙ global_class x least) in
      subst (λ v. EndIs x least v n) (sym (ap (λ w. w.0) same)) made)
      (Contains-append_cases (parameters ++ result) outside (e, n) found)

  complete : (f : End2) → EndIs x least f n → Contains (end_entries x least) (f, n)
  complete (end.Parameter k) holds =
      Contains-append_left (parameters ++ result) outside _
      (Contains-append_left parameters result _ (subst (λ v. Contains v (end.Parameter k, n)) (sym is) (parameters_complete x least s k n at holds)))
  complete end.Return holds = Contains-append_left (parameters ++ result) outside _ (Contains-append_right parameters result _ (result_complete x least n holds))
  complete end.Global (there, holds) =
      Contains-append_right (parameters ++ result) outside _ (0, omega arith, ap (λ v. (end.Global, v)) (global_class x least ∙ sym holds))

-- ---- calls

number_class : (x : TypedMethod) (least : List ℕ) (node : Node) → class_at least (number_of (table_of x) node) ≡ class_in (table_of x) least node
unfolding class_in
number_class x least node = refl

shape_made : (x : TypedMethod) (reached : List Bool) (least : List ℕ) (j : ℕ) (i : Insn) (s : TypeState) (called : Call) → IsTabled x reached → Located x j i s →
    call_of x i ≡ Some called →
    IsCallShapeAt x (class_in (table_of x) least) j (record { call = called; ends = with_classes least (stand_ins (table_of x) (place_at x j i s)) })
shape_made x reached least j i s called tabled at is = record {
  insn = i;
  makes = record { is = at.insn; reached = reached_at x j i s at; calls = is };
  ends = λ e n. (sound e n, complete e n);
} where
  ends : List (End2 × ℕ)
  ends = stand_ins (table_of x) (place_at x j i s)

  told : End2 × ℕ → End2 × ℕ
  told v = (v.0, class_at least v.1)

  sound : (e : End2) (n : ℕ) → Contains (with_classes least ends) (e, n) → HasStandIn x (class_in (table_of x) least) j i e n
  sound e n found =
      let was = Contains-from_map told ends (e, n) found in
      let v = was.0 in
      let stands = stand_sound x reached j i s v.0 v.1 tabled at (call_fits x.code.max_locals x i called is) was.1 in
      let same : v.0 ≡ e = ap (λ w. w.0) was.2 in
      let made : HasStandIn x (class_in (table_of x) least) j i v.0 n =
      record {
        node = stands.node;
        stands = stands.stands;
        is_node = stands.number.is_node;
        is = sym (ap (λ w. w.1) was.2) ∙ ap (class_at least) stands.number.is ∙ number_class x least stands.node;
      } in
      subst (λ w. HasStandIn x (class_in (table_of x) least) j i w n) same made

  complete : (e : End2) (n : ℕ) → HasStandIn x (class_in (table_of x) least) j i e n → Contains (with_classes least ends) (e, n)
  complete e n has =
      let there = stand_complete x j i s e has.node at (call_fits x.code.max_locals x i called is) has.stands has.is_node in
      subst (λ w. Contains (with_classes least ends) (e, w)) (number_class x least has.node ∙ sym has.is)
      (Contains-map told ends (e, number_of (table_of x) has.node) there)

in_shape : (x : TypedMethod) (reached : List Bool) (least : List ℕ) (j : ℕ) (i : Insn) (s : TypeState) (o : Option Call) (shape : CallShape) → IsTabled x reached →
    Located x j i s → call_of x i ≡ o → Contains (call_shape_in x least (place_at x j i s) o) shape → IsCallShapeAt x (class_in (table_of x) least) j shape
in_shape x reached least j i s None shape tabled at is found = absurd (Contains-none shape found)
in_shape x reached least j i s (Some called) shape tabled at is found =
    subst (IsCallShapeAt x (class_in (table_of x) least) j) (sym (Contains-one _ shape found)) (shape_made x reached least j i s called tabled at is)

at_shape : (x : TypedMethod) (reached : List Bool) (least : List ℕ) (j : ℕ) (o : Option ItemPlace) (shape : CallShape) → IsTabled x reached → located x j ≡ o →
    Contains (shape_at_place x least o) shape → IsCallShapeAt x (class_in (table_of x) least) j shape
at_shape x reached least j None shape tabled is found = absurd (Contains-none shape found)
at_shape x reached least j (Some place) shape tabled is found =
    let at = located-some x j place is in
    let here = subst (λ p. Contains (call_shape x least p) shape) at.is found in
    in_shape x reached least j at.insn at.state (call_of x at.insn) shape tabled at.at refl here

calls_sound : (x : TypedMethod) (reached : List Bool) (least : List ℕ) (shape : CallShape) → IsTabled x reached → Contains (call_shapes x least) shape →
    (j : ℕ) × IsCallShapeAt x (class_in (table_of x) least) j shape
unfolding call_shapes
calls_sound x reached least shape tabled found =
    let piece = Contains-from_flat_map (call_shape_at x least) (range_with_len 0 (length x.code.items)) shape found in
    (piece.0, at_shape x reached least piece.0 (located x piece.0) shape tabled refl piece.2)

calls_complete : (x : TypedMethod) (reached : List Bool) (least : List ℕ) (j : ℕ) (i : Insn) (called : Call) → IsTabled x reached → MakesCall x j i called →
    (s : CallShape) × (Contains (call_shapes x least) s × (s.call ≡ called) × IsCallShapeAt x (class_in (table_of x) least) j s)
unfolding call_shapes
calls_complete x reached least j i called tabled makes =
    let state = state_reached x j makes.reached in
    let s = state.0 in
    let at : Located x j i s = record { state = state.1; insn = makes.is } in
    let inside = state_inside x reached j s tabled at.state in
    let shape : CallShape = record { call = called; ends = with_classes least (stand_ins (table_of x) (place_at x j i s)) } in
    let here : Contains (call_shape_in x least (place_at x j i s) (Some called)) shape = (0, omega arith, refl) in
    let there = subst (λ o. Contains (shape_at_place x least o) shape) (sym (located-at x j i s at))
    (subst (λ o. Contains (call_shape_in x least (place_at x j i s) o) shape) (sym makes.calls) here) in (
      shape,
      (
        Contains-flat_map (call_shape_at x least) (range_with_len 0 (length x.code.items)) j shape
            (Contains-range 0 (length x.code.items) j (omega arith) (omega arith)) there,
        refl,
        shape_made x reached least j i s called tabled at makes.calls,
      ),
    )

pub shape_is : (x : TypedMethod) (reached : List Bool) (least : List ℕ) (shape : Shape) → IsTabled x reached → IsTypingOf x.program x.number x.code x.states →
    AreLeastJoined (own_pairs x reached) (node_count (table_of x)) least → shape.ends ≡ end_entries x least → shape.calls ≡ call_shapes x least →
    IsShapeOf x shape
shape_is x reached least shape tabled typed is ends calls =
    let lists = own_lists x reached tabled in
    record {
      class = class_in (table_of x) least;
      same = classes_same nothing_linked x (own_pairs x reached) (node_count (table_of x)) least lists (lists_nodes nothing_linked x (own_pairs x reached) lists) is;
      ends = λ e n. subst (λ list. Contains list (e, n) ↔ EndIs x least e n) (sym ends) (ends_are x least typed e n);
      calls = λ s there. calls_sound x reached least s tabled (subst (λ list. Contains list s) calls there);
      each_call = λ j i called makes.
          let found = calls_complete x reached least j i called tabled makes in
          (found.0, (subst (λ list. Contains list found.0) (sym calls) found.1.0, found.1.1, found.1.2));
    }
