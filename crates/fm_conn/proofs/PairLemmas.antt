-- The listed pairs of a method are those of the definition, but for calls.
use Rattle.std.proofs.Common.{◌≡◌, ℕ, zero, suc, ◌+◌, ◌-◌, ◌<◌, ◌≤◌, ◌↔◌, Bool, true, false, cond, List, [], ◌∷◌, length, Option, Some, None, is_some, Contains, refl, ap, sym, ◌∙◌, subst, inl, inr, ⊎_elim, arith}
use Rattle.std.proofs.lemmas.Bool.{cases_lt, false≢true}
use Rattle.std.proofs.lemmas.List.{get_or_past, length-map}
use Rattle.std.proofs.lemmas.List.Elements.{All-contains, All-from_recursion, Contains-append_left, Contains-append_right, Contains-append_cases}
use Rattle.std.proofs.lemmas.List.Folds.{Any-from_list_any, list_any-from_Any}
use Rattle.std.specs.List.{AllByRecursion, flat_map, list_any, range_with_len, slice_get}
use Rattle.std.specs.Option.{option_map}
use Rattle.fm_base.proofs.ContainsFacts.{Contains-flat_map, Contains-none}
use Rattle.fm_base.proofs.OptionFacts.{IsSomeAnd-at_some, IsSomeAnd-from_some}
use Rattle.fm_base.specs.Rows.{has}
use Rattle.fm_code.specs.Edges.{falls_through, insn_of, IsNormalEdge, LeadsTo}
use Rattle.fm_code.specs.SpellsCode.{LocalsFit, targets_of}
use Rattle.fm_code.specs.declared.code_array.Handler.{Handler}
use Rattle.fm_code.specs.declared.code_array.Item.{Item}
use Rattle.fm_code.specs.declared.instructions.Insn.{Insn}
use Rattle.fm_code.specs.declared.instructions.Insn.TheVariants as insn
use Rattle.fm_code.specs.declared.operations.Elem.TheVariants as elem
use Rattle.fm_code.specs.declared.operations.Reg.TheVariants as reg
use Rattle.fm_types.specs.States.{TypeState}
use Rattle.fm_types.specs.Typed.{state_at}
use Rattle.fm_world.specs.Programs.{Outline}
use Rattle.fm_world.specs.declared.uses.Use.{Use}
use Rattle.fm_flow.proofs.SourcesLemmas.{Contains-from_flat_map}
use Rattle.fm_conn.proofs.ListLemmas.{Contains-from_range, Contains-one, Contains-range}
use Rattle.fm_conn.proofs.NumberLemmas.{IsThere, item_inside}
use Rattle.fm_conn.proofs.WordLemmas.{depth_is, HasNumber, Located, located-at, located-some, local_number-some, local_number-there, reached_at, slot_number-node, slot_number-some}
use Rattle.fm_conn.specs.Nodes.{Global, IsNode, Local, Node, Return, Slot, TypedMethod}
use Rattle.fm_conn.specs.Pairs.{CaughtAt, depth_below, JoinedAt, Linking, PairAt, StandsAt, StaysAt, use_at}
use Rattle.fm_conn.specs.Rows.{is_reference_field, joined_by, moved_words, RowPlace, Taken, Given, InLocal, AsResult, Outside, words_taken}
use Rattle.fm_conn.specs.inner.NodeTables.{global_number, number_of, slot_number, table_of, words_of_state}
use Rattle.fm_conn.specs.inner.PairLists.{at_place, caught_pairs, following, item_pairs, item_pairs_at, ItemPlace, joined_pairs, located, number_pair, own_pairs, place_at, place_number, place_pair, stay_pairs, staying_pairs}

-- ---- what the code is known to meet

-- each item has a state or none, locals lie within max_locals, and the row's bits are those of the
-- items that have a state
pub record IsTabled (x : TypedMethod) (reached : List Bool) : Type 0 where
  pub one_each : length x.states ≡ length x.code.items
  pub locals : (j : ℕ) (i : Insn) → insn_of x.code j ≡ Some i → LocalsFit x.code.max_locals i
  pub tells : (j : ℕ) → (has reached j ≡ true) ↔ (is_some (state_at x.states j) ≡ true)

-- two nodes that are paired, with their numbers
pub record PairNumbers (linked : Linking) (x : TypedMethod) (m n : ℕ) : Type 0 where
  pub item : ℕ
  pub one : Node
  pub other : Node
  pub pair : PairAt linked x item one other
  pub first : HasNumber x one m
  pub second : HasNumber x other n

-- ---- pairs of numbers

pub number_pair-some : (p q : Option ℕ) (m n : ℕ) → Contains (number_pair p q) (m, n) → (p ≡ Some m) × (q ≡ Some n)
number_pair-some (Some a) (Some b) m n found = let same = Contains-one (a, b) (m, n) found in (ap (λ w. Some w.0) (sym same), ap (λ w. Some w.1) (sym same))
number_pair-some (Some a) None m n found = absurd (Contains-none (m, n) found)
number_pair-some None q m n found = absurd (Contains-none (m, n) found)

pub number_pair-has : (p q : Option ℕ) (m n : ℕ) → p ≡ Some m → q ≡ Some n → Contains (number_pair p q) (m, n)
number_pair-has p q m n first second = let P : Option ℕ → Option ℕ → Type 0 = λ v w. Contains (number_pair v w) (m, n) in
    subst (λ v. P v q) (sym first) (subst (λ w. P (Some m) w) (sym second) (0, omega arith, refl))

-- ---- an item that can be reached

-- an item with a word that is a node is one
node_inside : (x : TypedMethod) (reached : List Bool) (j d : ℕ) → IsTabled x reached → IsThere (table_of x) (Slot j d) → j < length x.code.items
node_inside x reached j d tabled there =
    let inside = item_inside (table_of x).words j d there in
    let size = length-map x.states words_of_state in
    let one_each = tabled.one_each in omega arith

edge_to : (x : TypedMethod) (reached : List Bool) (j : ℕ) (i : Insn) (next d : ℕ) → IsTabled x reached → insn_of x.code j ≡ Some i → LeadsTo i j next →
    IsThere (table_of x) (Slot next d) → IsNormalEdge x.code j next
edge_to x reached j i next d tabled is leads there = record {
  inside = node_inside x reached next d tabled there;
  leads = IsSomeAnd-from_some (insn_of x.code j) (λ v. LeadsTo v j next) i is leads;
}

pub edge_leads : (x : TypedMethod) (j : ℕ) (i : Insn) (next : ℕ) → insn_of x.code j ≡ Some i → IsNormalEdge x.code j next → LeadsTo i j next
edge_leads x j i next is edge = IsSomeAnd-at_some (insn_of x.code j) (λ v. LeadsTo v j next) i is edge.leads

pub below_is : (x : TypedMethod) (j : ℕ) (i : Insn) (s : TypeState) → Located x j i s → depth_below x j i ≡ (place_at x j i s).below
below_is x j i s at = ap (λ d. d - words_taken x.program.outline (use_at x i) i) (depth_is x j s at.state)

-- ---- words that stay

stay_sound : (linked : Linking) (x : TypedMethod) (reached : List Bool) (j : ℕ) (i : Insn) (s : TypeState) (next m n : ℕ) → IsTabled x reached → Located x j i s →
    LeadsTo i j next → Contains (stay_pairs (table_of x) (place_at x j i s) next) (m, n) → PairNumbers linked x m n
unfolding stay_pairs
stay_sound linked x reached j i s next m n tabled at leads found =
    let t = table_of x in
    let piece = Contains-from_flat_map (λ d. number_pair (slot_number t j d) (slot_number t next d)) (range_with_len 0 (place_at x j i s).below) (m, n) found in
    let d = piece.0 in
    let low = Contains-from_range 0 (place_at x j i s).below d piece.1 in
    let both = number_pair-some (slot_number t j d) (slot_number t next d) m n piece.2 in
    let first = slot_number-some x j d m both.0 in
    let second = slot_number-some x next d n both.1 in
    let below = below_is x j i s at in
    record {
      item = j;
      one = Slot j d;
      other = Slot next d;
      pair = record {
        insn = i;
        is = at.insn;
        reachable = reached_at x j i s at;
        first = first.is_node;
        second = second.is_node;
        paired = inl (record {
          depth = d;
          next = next;
          below = omega arith;
          edge = edge_to x reached j i next d tabled at.insn leads second.there;
          before = refl;
          after = refl;
        });
      };
      first = first;
      second = second;
    }

stay_complete : (x : TypedMethod) (j : ℕ) (i : Insn) (s : TypeState) (next d : ℕ) → Located x j i s → d < depth_below x j i →
    IsNode x (Slot j d) → IsNode x (Slot next d) →
    Contains (stay_pairs (table_of x) (place_at x j i s) next) (number_of (table_of x) (Slot j d), number_of (table_of x) (Slot next d))
unfolding stay_pairs
stay_complete x j i s next d at low first second =
    let t = table_of x in
    let below = below_is x j i s at in
    let pair = number_pair-has (slot_number t j d) (slot_number t next d) (number_of t (Slot j d)) (number_of t (Slot next d))
    (slot_number-node x j d first) (slot_number-node x next d second) in
    Contains-flat_map (λ e. number_pair (slot_number t j e) (slot_number t next e)) (range_with_len 0 (place_at x j i s).below) d _
    (Contains-range 0 (place_at x j i s).below d (omega arith) (omega arith)) pair

following-has : (b : Bool) (k next : ℕ) → Contains (cond b (k ∷ []) []) next → (b ≡ true) × (next ≡ k)
following-has true k next found = (refl, Contains-one k next found)
following-has false k next found = absurd (Contains-none next found)

following-next : (b : Bool) (k next : ℕ) → b ≡ true → next ≡ k → Contains (cond b (k ∷ []) []) next
following-next b k next falls is = let P : Bool → Type 0 = λ v. Contains (cond v (k ∷ []) []) next in subst P (sym falls) (0, omega arith, sym is)

staying_sound : (linked : Linking) (x : TypedMethod) (reached : List Bool) (j : ℕ) (i : Insn) (s : TypeState) (m n : ℕ) → IsTabled x reached → Located x j i s →
    Contains (staying_pairs (table_of x) (place_at x j i s)) (m, n) → PairNumbers linked x m n
staying_sound linked x reached j i s m n tabled at found =
    let t = table_of x in
    let place = place_at x j i s in
    ⊎_elim
    (λ (jumps : Contains (flat_map (stay_pairs t place) (targets_of i)) (m, n)).
    let piece = Contains-from_flat_map (stay_pairs t place) (targets_of i) (m, n) jumps in
    stay_sound linked x reached j i s piece.0 m n tabled at (inl piece.1) piece.2)
    (λ (goes_on : Contains (flat_map (stay_pairs t place) (following place)) (m, n)).
    let piece = Contains-from_flat_map (stay_pairs t place) (following place) (m, n) goes_on in
    let falls = following-has (falls_through i) (j + 1) piece.0 piece.1 in
    stay_sound linked x reached j i s piece.0 m n tabled at (inr falls) piece.2)
    (Contains-append_cases (flat_map (stay_pairs t place) (targets_of i)) (flat_map (stay_pairs t place) (following place)) (m, n) found)

staying_complete : (x : TypedMethod) (j : ℕ) (i : Insn) (s : TypeState) (next d : ℕ) → Located x j i s → LeadsTo i j next → d < depth_below x j i →
    IsNode x (Slot j d) → IsNode x (Slot next d) →
    Contains (staying_pairs (table_of x) (place_at x j i s)) (number_of (table_of x) (Slot j d), number_of (table_of x) (Slot next d))
staying_complete x j i s next d at (inl target) low first second =
    let t = table_of x in
    let place = place_at x j i s in
    Contains-append_left (flat_map (stay_pairs t place) (targets_of i)) (flat_map (stay_pairs t place) (following place)) _
    (Contains-flat_map (stay_pairs t place) (targets_of i) next _ target (stay_complete x j i s next d at low first second))
staying_complete x j i s next d at (inr falls) low first second =
    let t = table_of x in
    let place = place_at x j i s in
    Contains-append_right (flat_map (stay_pairs t place) (targets_of i)) (flat_map (stay_pairs t place) (following place)) _
    (Contains-flat_map (stay_pairs t place) (following place) next _ (following-next (falls_through i) (j + 1) next falls.0 falls.1)
    (stay_complete x j i s next d at low first second))

-- ---- what instructions join

-- the places at which instructions join words: those with a given one go on only to the next item,
-- and locals are within max_locals
abbrev pub PlaceFits : ℕ → Insn → RowPlace → Type 0
PlaceFits most i (Taken n) = Unit {0}
PlaceFits most i (Given n) = (targets_of i ≡ []) × (falls_through i ≡ true)
PlaceFits most i (InLocal k) = k < most
PlaceFits most i AsResult = Unit {0}
PlaceFits most i Outside = Unit {0}

abbrev PairFits : ℕ → Insn → RowPlace × RowPlace → Type 0
PairFits most i places = PlaceFits most i places.0 × PlaceFits most i places.1

moved_fit : (most : ℕ) (i : Insn) → targets_of i ≡ [] → falls_through i ≡ true → (places : List ℕ) → AllByRecursion (PairFits most i) (moved_words places)
moved_fit most i none falls [] = tt
moved_fit most i none falls (place ∷ places) = ((tt, (none, falls)), moved_fit most i none falls places)

if_fit : (P : RowPlace × RowPlace → Type 0) (b : Bool) (places : List (RowPlace × RowPlace)) → AllByRecursion P places → AllByRecursion P (cond b places [])
if_fit P true places all = all
if_fit P false places all = tt

joined_fit : (most : ℕ) (o : Outline) (u : Use) (i : Insn) → LocalsFit most i → AllByRecursion (PairFits most i) (joined_by o u i)
unfolding joined_by
joined_fit most o u insn.Dup fits = moved_fit most insn.Dup refl refl (0 ∷ 0 ∷ [])
joined_fit most o u insn.DupX1 fits = moved_fit most insn.DupX1 refl refl (0 ∷ 1 ∷ 0 ∷ [])
joined_fit most o u insn.DupX2 fits = moved_fit most insn.DupX2 refl refl (0 ∷ 1 ∷ 2 ∷ 0 ∷ [])
joined_fit most o u insn.Dup2 fits = moved_fit most insn.Dup2 refl refl (0 ∷ 1 ∷ 0 ∷ 1 ∷ [])
joined_fit most o u insn.Dup2X1 fits = moved_fit most insn.Dup2X1 refl refl (0 ∷ 1 ∷ 2 ∷ 0 ∷ 1 ∷ [])
joined_fit most o u insn.Dup2X2 fits = moved_fit most insn.Dup2X2 refl refl (0 ∷ 1 ∷ 2 ∷ 3 ∷ 0 ∷ 1 ∷ [])
joined_fit most o u insn.Swap fits = moved_fit most insn.Swap refl refl (1 ∷ 0 ∷ [])
joined_fit most o u (insn.Load reg.Ref k) fits = ((fits, (refl, refl)), tt)
joined_fit most o u (insn.Load reg.Int k) fits = tt
joined_fit most o u (insn.Load reg.Long k) fits = tt
joined_fit most o u (insn.Store reg.Ref k) fits = ((tt, fits), tt)
joined_fit most o u (insn.Store reg.Int k) fits = tt
joined_fit most o u (insn.Store reg.Long k) fits = tt
joined_fit most o u (insn.Cast index) fits = ((tt, (refl, refl)), tt)
joined_fit most o u (insn.GetField index) fits = if_fit _ (is_reference_field o u) _ ((tt, (refl, refl)), tt)
joined_fit most o u (insn.PutField index) fits = if_fit _ (is_reference_field o u) _ ((tt, tt), tt)
joined_fit most o u (insn.GetStatic index) fits = if_fit _ (is_reference_field o u) _ (((refl, refl), tt), tt)
joined_fit most o u (insn.PutStatic index) fits = if_fit _ (is_reference_field o u) _ ((tt, tt), tt)
joined_fit most o u (insn.ArrayLoad elem.Ref) fits = ((tt, (refl, refl)), tt)
joined_fit most o u (insn.ArrayLoad e) fits = tt
joined_fit most o u (insn.ArrayStore elem.Ref) fits = ((tt, tt), tt)
joined_fit most o u (insn.ArrayStore e) fits = tt
joined_fit most o u insn.Throw fits = ((tt, tt), tt)
joined_fit most o u (insn.Return (Some reg.Ref)) fits = ((tt, tt), tt)
joined_fit most o u (insn.Return (Some reg.Int)) fits = tt
joined_fit most o u (insn.Return (Some reg.Long)) fits = tt
joined_fit most o u (insn.Return None) fits = tt
joined_fit most o u i fits = tt

-- what is at a place
pub record Stands (x : TypedMethod) (j : ℕ) (i : Insn) (p : RowPlace) (n : ℕ) : Type 0 where
  pub node : Node
  pub at : StandsAt x j i p node
  pub number : HasNumber x node n

pub place_sound : (x : TypedMethod) (reached : List Bool) (j : ℕ) (i : Insn) (s : TypeState) (p : RowPlace) (n : ℕ) → IsTabled x reached → Located x j i s →
    PlaceFits x.code.max_locals i p → place_number (table_of x) (place_at x j i s) p ≡ Some n → Stands x j i p n
place_sound x reached j i s (Taken k) n tabled at fits some =
    record {
      node = Slot j (length s.stack - 1 - k);
      at = ap (λ d. Slot j (d - 1 - k)) (sym (depth_is x j s at.state));
      number = slot_number-some x j (length s.stack - 1 - k) n some;
    }
place_sound x reached j i s (Given k) n tabled at fits some =
    let number = slot_number-some x (j + 1) ((place_at x j i s).below + k) n some in
    record {
      node = Slot (j + 1) ((place_at x j i s).below + k);
      at = (
        j + 1,
        (
          edge_to x reached j i (j + 1) ((place_at x j i s).below + k) tabled at.insn (inr (fits.1, refl)) number.there,
          ap (λ d. Slot (j + 1) (d + k)) (sym (below_is x j i s at)),
        ),
      );
      number = number;
    }
place_sound x reached j i s (InLocal k) n tabled at fits some =
    record { node = Local k; at = refl; number = local_number-some x k n some }
place_sound x reached j i s AsResult n tabled at fits some =
    record { node = Return; at = refl; number = record { is_node = tt; there = tt; is = cc } }
place_sound x reached j i s Outside n tabled at fits some =
    record { node = Global; at = refl; number = record { is_node = tt; there = tt; is = cc } }

pub next_only : (i : Insn) (j next : ℕ) → targets_of i ≡ [] → LeadsTo i j next → next ≡ j + 1
next_only i j next none (inl target) = absurd (Contains-none next (subst (λ list. Contains list next) none target))
next_only i j next none (inr falls) = falls.1

pub slot_is : (x : TypedMethod) (node : Node) (j d : ℕ) → node ≡ Slot j d → IsNode x node →
    slot_number (table_of x) j d ≡ Some (number_of (table_of x) node)
slot_is x node j d is is_node =
    slot_number-node x j d (subst (IsNode x) is is_node) ∙ ap (λ v. Some (number_of (table_of x) v)) (sym is)

pub place_complete : (x : TypedMethod) (j : ℕ) (i : Insn) (s : TypeState) (p : RowPlace) (node : Node) → Located x j i s →
    PlaceFits x.code.max_locals i p → StandsAt x j i p node → IsNode x node →
    place_number (table_of x) (place_at x j i s) p ≡ Some (number_of (table_of x) node)
place_complete x j i s (Taken k) node at fits stands is_node =
    slot_is x node j (length s.stack - 1 - k) (stands ∙ ap (λ d. Slot j (d - 1 - k)) (depth_is x j s at.state)) is_node
place_complete x j i s (Given k) node at fits (next, (edge, stands)) is_node =
    let is : next ≡ j + 1 = next_only i j next fits.0 (edge_leads x j i next at.insn edge) in
    slot_is x node (j + 1) ((place_at x j i s).below + k) (stands ∙ (λ q. Slot (is q) (below_is x j i s at q + k))) is_node
place_complete x j i s (InLocal k) node at fits stands is_node =
    local_number-there (table_of x) k fits ∙ ap (λ v. Some (number_of (table_of x) v)) (sym stands)
place_complete x j i s AsResult node at fits stands is_node = ap (λ v. Some (number_of (table_of x) v)) (sym stands)
place_complete x j i s Outside node at fits stands is_node = ap (λ v. Some (number_of (table_of x) v)) (sym stands)

joined_sound : (linked : Linking) (x : TypedMethod) (reached : List Bool) (j : ℕ) (i : Insn) (s : TypeState) (m n : ℕ) → IsTabled x reached → Located x j i s →
    Contains (joined_pairs (table_of x) (place_at x j i s) (joined_by x.program.outline (use_at x i) i)) (m, n) → PairNumbers linked x m n
joined_sound linked x reached j i s m n tabled at found =
    let t = table_of x in
    let place = place_at x j i s in
    let rows = joined_by x.program.outline (use_at x i) i in
    let piece = Contains-from_flat_map (place_pair t place) rows (m, n) found in
    let fit : PairFits x.code.max_locals i piece.0 =
    All-contains (PairFits x.code.max_locals i) rows piece.0
    (All-from_recursion (PairFits x.code.max_locals i) rows (joined_fit x.code.max_locals x.program.outline (use_at x i) i (tabled.locals j i at.insn))) piece.1 in
    let both = number_pair-some (place_number t place piece.0.0) (place_number t place piece.0.1) m n piece.2 in
    let first = place_sound x reached j i s piece.0.0 m tabled at fit.0 both.0 in
    let second = place_sound x reached j i s piece.0.1 n tabled at fit.1 both.1 in
    record {
      item = j;
      one = first.node;
      other = second.node;
      pair = record {
        insn = i;
        is = at.insn;
        reachable = reached_at x j i s at;
        first = first.number.is_node;
        second = second.number.is_node;
        paired = inr (inl (record { one = piece.0.0; other = piece.0.1; row = piece.1; first = first.at; second = second.at }));
      };
      first = first.number;
      second = second.number;
    }

joined_complete : (x : TypedMethod) (reached : List Bool) (j : ℕ) (i : Insn) (s : TypeState) (a b : Node) → IsTabled x reached → Located x j i s →
    IsNode x a → IsNode x b → JoinedAt x j i a b →
    Contains (joined_pairs (table_of x) (place_at x j i s) (joined_by x.program.outline (use_at x i) i)) (number_of (table_of x) a, number_of (table_of x) b)
joined_complete x reached j i s a b tabled at is_a is_b joined =
    let t = table_of x in
    let place = place_at x j i s in
    let rows = joined_by x.program.outline (use_at x i) i in
    let fit : PairFits x.code.max_locals i (joined.one, joined.other) =
    All-contains (PairFits x.code.max_locals i) rows (joined.one, joined.other)
    (All-from_recursion (PairFits x.code.max_locals i) rows (joined_fit x.code.max_locals x.program.outline (use_at x i) i (tabled.locals j i at.insn))) joined.row in
    Contains-flat_map (place_pair t place) rows (joined.one, joined.other) _ joined.row
    (number_pair-has (place_number t place joined.one) (place_number t place joined.other) (number_of t a) (number_of t b)
    (place_complete x j i s joined.one a at fit.0 joined.first is_a)
    (place_complete x j i s joined.other b at fit.1 joined.second is_b))

-- ---- what is caught

in_then : (b : Bool) (list : List (ℕ × ℕ)) (p : ℕ × ℕ) → Contains (cond b list []) p → (b ≡ true) × Contains list p
in_then true list p found = (refl, found)
in_then false list p found = absurd (Contains-none p found)

then_in : (b : Bool) (list : List (ℕ × ℕ)) (p : ℕ × ℕ) → b ≡ true → Contains list p → Contains (cond b list []) p
then_in b list p is found = subst (λ v. Contains (cond v list []) p) (sym is) found

pub state_there : (o : Option TypeState) → is_some o ≡ true → (s : TypeState) × (o ≡ Some s)
state_there None some = absurd (false≢true some)
state_there (Some s) some = (s, refl)

pub insn_there : (items : List Item) (j : ℕ) → j < length items → (i : Insn) × (option_map (λ (item : Item). item.insn) (slice_get items j) ≡ Some i)
insn_there [] j below = absurd (omega arith)
insn_there (item ∷ items) zero below = (item.insn, refl)
insn_there (item ∷ items) (suc j) below = insn_there items j (omega arith)

pub state_inside : (x : TypedMethod) (reached : List Bool) (j : ℕ) (s : TypeState) → IsTabled x reached → state_at x.states j ≡ Some s → j < length x.code.items
state_inside x reached j s tabled state =
    ⊎_elim (λ within. let one_each = tabled.one_each in omega arith)
    (λ (past : length x.states ≤ j). absurd (let none = get_or_past x.states j None past in cc))
    (cases_lt j (length x.states))

caught_sound : (linked : Linking) (x : TypedMethod) (reached : List Bool) (h : Handler) (m n : ℕ) → IsTabled x reached → Contains x.code.handlers h →
    Contains (caught_pairs (table_of x) reached h) (m, n) → PairNumbers linked x m n
unfolding caught_pairs
caught_sound linked x reached h m n tabled (k, within, there) found =
    let t = table_of x in
    let range = range_with_len h.start (h.end - h.start) in
    let held = in_then (list_any (λ j. has reached j) range) (number_pair (slot_number t h.handler 0) (Some (global_number t))) (m, n) found in
    let item = Any-from_list_any (λ j. has reached j) range held.0 in
    let j = item.1 in
    let bounds = Contains-from_range h.start (h.end - h.start) j (item.0, item.2, item.3) in
    let both = number_pair-some (slot_number t h.handler 0) (Some (global_number t)) m n held.1 in
    let first = slot_number-some x h.handler 0 m both.0 in
    let state = state_there (state_at x.states j) ((tabled.tells j).0 item.4) in
    let from = state_inside x reached j state.0 tabled state.1 in
    let insn = insn_there x.code.items j from in
    let at : Located x j insn.0 state.0 = record { state = state.1; insn = insn.1 } in
    record {
      item = j;
      one = Slot h.handler 0;
      other = Global;
      pair = record {
        insn = insn.0;
        is = insn.1;
        reachable = reached_at x j insn.0 state.0 at;
        first = first.is_node;
        second = tt;
        paired = inr (inr (inr (record {
          handler = h.handler;
          edge = record {
            inside = node_inside x reached h.handler 0 tabled first.there;
            from_item = from;
            caught = (k, h, within, there, record { after_start = omega arith; before_end = omega arith; handler_is = refl });
          };
          before = refl;
          after = refl;
        })));
      };
      first = first;
      second = record { is_node = tt; there = tt; is = cc };
    }

caught_complete : (x : TypedMethod) (reached : List Bool) (j : ℕ) (i : Insn) (s : TypeState) (a b : Node) → IsTabled x reached → Located x j i s →
    IsNode x a → CaughtAt x j a b →
    Contains (flat_map (caught_pairs (table_of x) reached) x.code.handlers) (number_of (table_of x) a, number_of (table_of x) b)
unfolding caught_pairs
caught_complete x reached j i s a b tabled at is_a caught =
    let t = table_of x in
    let entry = caught.edge.caught in
    let h = entry.1 in
    let catches = entry.4 in
    let start = catches.after_start in
    let end = catches.before_end in
    let is : a ≡ Slot h.handler 0 = caught.before ∙ ap (λ v. Slot v 0) (sym catches.handler_is) in
    let range = range_with_len h.start (h.end - h.start) in
    let here : Contains range j = Contains-range h.start (h.end - h.start) j start (omega arith) in
    let set : has reached j ≡ true = (tabled.tells j).1 (ap is_some at.state) in
    let any : list_any (λ k. has reached k) range ≡ true = list_any-from_Any (λ k. has reached k) range (here.0, j, here.1, here.2, set) in
    let pair = number_pair-has (slot_number t h.handler 0) (Some (global_number t)) (number_of t a) (number_of t b)
    (slot_is x a h.handler 0 is is_a) (ap (λ v. Some (number_of t v)) (sym caught.after)) in
    Contains-flat_map (caught_pairs t reached) x.code.handlers h _ (entry.0, entry.2, entry.3)
    (then_in (list_any (λ k. has reached k) range) (number_pair (slot_number t h.handler 0) (Some (global_number t))) _ any pair)

-- ---- all of them

item_sound : (linked : Linking) (x : TypedMethod) (reached : List Bool) (j m n : ℕ) (o : Option ItemPlace) → IsTabled x reached → located x j ≡ o →
    Contains (at_place o (item_pairs (table_of x) x.program.outline)) (m, n) → PairNumbers linked x m n
item_sound linked x reached j m n None tabled is found = absurd (Contains-none (m, n) found)
item_sound linked x reached j m n (Some place) tabled is found =
    let at = located-some x j place is in
    let t = table_of x in
    let here = subst (λ p. Contains (item_pairs t x.program.outline p) (m, n)) at.is found in
    let p = place_at x j at.insn at.state in
    ⊎_elim (λ stays. staying_sound linked x reached j at.insn at.state m n tabled at.at stays)
    (λ joined. joined_sound linked x reached j at.insn at.state m n tabled at.at joined)
    (Contains-append_cases (staying_pairs t p) (joined_pairs t p (joined_by x.program.outline p.resolved p.insn)) (m, n) here)

pub own_sound : (linked : Linking) (x : TypedMethod) (reached : List Bool) (m n : ℕ) → IsTabled x reached →
    Contains (own_pairs x reached) (m, n) → PairNumbers linked x m n
own_sound linked x reached m n tabled found =
    let items = flat_map (item_pairs_at x) (range_with_len 0 (length x.code.items)) in
    let handlers = flat_map (caught_pairs (table_of x) reached) x.code.handlers in
    ⊎_elim
    (λ (at_item : Contains items (m, n)).
    let piece = Contains-from_flat_map (item_pairs_at x) (range_with_len 0 (length x.code.items)) (m, n) at_item in
    item_sound linked x reached piece.0 m n (located x piece.0) tabled refl piece.2)
    (λ (at_handler : Contains handlers (m, n)).
    let piece = Contains-from_flat_map (caught_pairs (table_of x) reached) x.code.handlers (m, n) at_handler in
    caught_sound linked x reached piece.0 m n tabled piece.1 piece.2)
    (Contains-append_cases items handlers (m, n) found)

-- an item's pairs are among those of the method
at_item : (x : TypedMethod) (reached : List Bool) (j : ℕ) (i : Insn) (s : TypeState) (p : ℕ × ℕ) → IsTabled x reached → Located x j i s →
    Contains (item_pairs (table_of x) x.program.outline (place_at x j i s)) p → Contains (own_pairs x reached) p
at_item x reached j i s p tabled at found =
    let items = flat_map (item_pairs_at x) (range_with_len 0 (length x.code.items)) in
    let handlers = flat_map (caught_pairs (table_of x) reached) x.code.handlers in
    let inside = state_inside x reached j s tabled at.state in
    Contains-append_left items handlers p
    (Contains-flat_map (item_pairs_at x) (range_with_len 0 (length x.code.items)) j p (Contains-range 0 (length x.code.items) j (omega arith) (omega arith))
    (subst (λ o. Contains (at_place o (item_pairs (table_of x) x.program.outline)) p) (sym (located-at x j i s at)) found))

pub stays_listed : (x : TypedMethod) (reached : List Bool) (j : ℕ) (i : Insn) (s : TypeState) (a b : Node) → IsTabled x reached → Located x j i s →
    IsNode x a → IsNode x b → StaysAt x j i a b → Contains (own_pairs x reached) (number_of (table_of x) a, number_of (table_of x) b)
stays_listed x reached j i s a b tabled at is_a is_b stays =
    let t = table_of x in
    let p = place_at x j i s in
    let first = subst (IsNode x) stays.before is_a in
    let second = subst (IsNode x) stays.after is_b in
    let leads = edge_leads x j i stays.next at.insn stays.edge in
    let there = staying_complete x j i s stays.next stays.depth at leads stays.below first second in
    at_item x reached j i s (number_of t a, number_of t b) tabled at
    (Contains-append_left (staying_pairs t p) (joined_pairs t p (joined_by x.program.outline p.resolved p.insn)) _
    (let P : Node → Node → Type 0 = λ v w. Contains (staying_pairs t p) (number_of t v, number_of t w) in
    subst (λ v. P v b) (sym stays.before) (subst (λ w. P (Slot j stays.depth) w) (sym stays.after) there)))

pub joined_listed : (x : TypedMethod) (reached : List Bool) (j : ℕ) (i : Insn) (s : TypeState) (a b : Node) → IsTabled x reached → Located x j i s →
    IsNode x a → IsNode x b → JoinedAt x j i a b → Contains (own_pairs x reached) (number_of (table_of x) a, number_of (table_of x) b)
joined_listed x reached j i s a b tabled at is_a is_b joined =
    let t = table_of x in
    let p = place_at x j i s in
    at_item x reached j i s (number_of t a, number_of t b) tabled at
    (Contains-append_right (staying_pairs t p) (joined_pairs t p (joined_by x.program.outline p.resolved p.insn)) _
    (joined_complete x reached j i s a b tabled at is_a is_b joined))

pub caught_listed : (x : TypedMethod) (reached : List Bool) (j : ℕ) (i : Insn) (s : TypeState) (a b : Node) → IsTabled x reached → Located x j i s →
    IsNode x a → CaughtAt x j a b → Contains (own_pairs x reached) (number_of (table_of x) a, number_of (table_of x) b)
caught_listed x reached j i s a b tabled at is_a caught =
    Contains-append_right (flat_map (item_pairs_at x) (range_with_len 0 (length x.code.items)))
    (flat_map (caught_pairs (table_of x) reached) x.code.handlers) _
    (caught_complete x reached j i s a b tabled at is_a caught)
