-- What is known at an item where a frame goes on: its pairs join classes, and its row says which words are references.
use Rattle.std.proofs.Common.{◌≡◌, ℕ, zero, suc, ◌+◌, ◌-◌, ◌<◌, ◌≤◌, ◌⊎◌, ◌&&◌, ◌||◌, not, true, false, List, [], ◌∷◌, length, reverse, Option, Some, option_and_then, IsSomeAnd, Contains, refl, sym, ◌∙◌, ap, subst, inl, inr, slice_get, slice_index_or, arith}
use Rattle.std.specs.List.{AllByRecursion, AllZip}
use Rattle.std.proofs.lemmas.Bool.{and_parts}
use Rattle.std.proofs.lemmas.List.{get_or-reverse, length-reverse}
use Rattle.std.proofs.lemmas.List.Elements.{length_all_zip}
use Rattle.std.proofs.lemmas.Option.{same_Some, slice_get-get_or, slice_get_within}
use Rattle.fm_base.proofs.OptionFacts.{Some-from_some_and}
use Rattle.fm_code.specs.Edges.{insn_of, IsNormalEdge}
use Rattle.fm_code.specs.Live.{stores_over}
use Rattle.fm_code.specs.declared.code_array.Code.{Code}
use Rattle.fm_code.specs.declared.instructions.Insn.{Insn}
use Rattle.fm_conn.specs.Facts.{AreFacts, Facts}
use Rattle.fm_conn.specs.Links.{Linked}
use Rattle.fm_conn.specs.Nodes.{depth_at, IsNode, Local, Node, Slot, TypedMethod}
use Rattle.fm_conn.specs.Pairs.{CalledAt, CaughtAt, JoinedAt, StandsAt, StaysAt}
use Rattle.fm_conn.specs.Rows as pairs
use Rattle.fm_types.specs.Fits.{fits}
use Rattle.fm_types.specs.States.{all_fit, is_reference, state_fits, TypeState}
use Rattle.fm_types.specs.Rows.{row_after}
use Rattle.fm_types.specs.Typed.{FitsAt, made_at, MeetsItem, state_at, use_by}
use Rattle.fm_types.specs.declared.slots.Slot as slots
use Rattle.fm_types.specs.declared.slots.Slot.TheVariants as slot
use Rattle.fm_types.proofs.NumberOrder.{reference_below}
use Rattle.fm_types.proofs.StateOrder.{all_fit-parts, Fitting}
use Rattle.fm_world.specs.Programs.{code_at, Outline, Program}
use Rattle.fm_world.specs.declared.uses.Use.{Use}
use Rattle.fm_place.proofs.BusyLemmas.{depth_of}
use Rattle.fm_frames.specs.Effects.{Effect, Source}
use Rattle.fm_frames.specs.States.{Frame}
use Rattle.fm_same.specs.Advances.{point_of}
use Rattle.fm_same.specs.Evenness.{ActsEvenly, ComesFrom, EndsEvenly, given, is_written, LeadsRight, Obeys, Point, WritesFrom}
use Rattle.fm_same.specs.Standing.{Goes, method_of}
use Rattle.fm_same.proofs.CallFacts.{word_in_state}
use Rattle.fm_same.proofs.CallRegions.{state_found}
use Rattle.fm_same.proofs.EdgesKeep.{live_before}
use Rattle.fm_same.proofs.LinkedClasses.{same_class_if_paired}

-- ---- slots

-- the slot of a word, counted from the top
pub slot_from_below : (stack : List slots.Slot) (n : ℕ) → n < length stack → slice_get (reverse stack) (length stack - 1 - n) ≡ slice_get stack n
slot_from_below stack n within =
    let size : length (reverse stack) ≡ length stack = length-reverse stack in
    let below : length stack - 1 - n < length stack = omega arith in
    let in_reverse : length stack - 1 - n < length (reverse stack) = omega arith in
    let back : length stack - 1 - (length stack - 1 - n) ≡ n = omega arith in
    slice_get-get_or (reverse stack) (length stack - 1 - n) slot.Top in_reverse
    ∙ ap Some (get_or-reverse stack (length stack - 1 - n) slot.Top below ∙ ap (λ i. slice_index_or stack i slot.Top) back)
    ∙ sym (slice_get-get_or stack n slot.Top within)

zip_at : (o : Outline) (xs ys : List slots.Slot) (n : ℕ) (y : slots.Slot) → AllZip (Fitting o) xs ys → slice_get ys n ≡ Some y
    → (x : slots.Slot) × (slice_get xs n ≡ Some x) × (fits o x y ≡ true)
zip_at o xs [] n y h at = absurd (cc)
zip_at o [] (b ∷ ys) n y h at = absurd h
zip_at o (a ∷ xs) (b ∷ ys) zero y h at = (a, refl, subst (λ s. fits o a s ≡ true) (same_Some b y at) h.0)
zip_at o (a ∷ xs) (b ∷ ys) (suc n) y h at = zip_at o xs ys n y h.1 at

stack_fits : (o : Outline) (a b : TypeState) → state_fits o a b ≡ true → AllZip (Fitting o) a.stack b.stack
unfolding state_fits
stack_fits o a b h =
    let outer = and_parts (all_fit o a.locals b.locals && all_fit o a.stack b.stack) (a.built || not b.built) h in
    let inner = and_parts (all_fit o a.locals b.locals) (all_fit o a.stack b.stack) outer.0 in
    all_fit-parts o a.stack b.stack inner.1

-- ---- at an item

-- a frame goes on at an item with this instruction
pub record AtInsn (p : Program) (facts : Facts) (f : Frame) (i : Insn) : Type 0 where
  pub code : Code
  pub code_is : code_at p f.method ≡ Some code
  pub insn_is : insn_of code f.item ≡ Some i
  pub state : TypeState
  pub state_is : state_at (facts.typing f.method) f.item ≡ Some state
  pub depth : length f.stack ≡ length state.stack

pub depth_is : (p : Program) (facts : Facts) (f : Frame) (code : Code) (j : ℕ) (s : TypeState) → state_at (facts.typing f.method) j ≡ Some s
    → depth_at (method_of p facts f code) j ≡ length s.stack
depth_is p facts f code j s is = ap depth_of is

pub at_insn : (p : Program) (facts : Facts) (f : Frame) (h : Goes p facts f) → AtInsn p facts f h.at.insn
at_insn p facts f h = record {
  code = h.at.code;
  code_is = h.at.code_is;
  insn_is = h.at.insn_is;
  state = h.at.state;
  state_is = h.at.state_is;
  depth = h.depth ∙ depth_is p facts f h.at.code f.item h.at.state h.at.state_is;
}

module _ (p : Program) (facts : Facts) (exact : AreFacts p facts) (f : Frame) (i : Insn) (h : AtInsn p facts f i) where
  abbrev pub x : TypedMethod
  x = method_of p facts f h.code

  abbrev pub point : Point
  point = point_of p facts f h.code

  abbrev pub used : Use
  used = use_by p f.method i

  pub depth_level : depth_at x f.item ≡ length f.stack
  depth_level = depth_is p facts f h.code f.item h.state h.state_is ∙ sym h.depth

  -- ---- pairs

  pub pair_at : (a b : Node) → IsNode x a → IsNode x b → StaysAt x f.item i a b ⊎ JoinedAt x f.item i a b ⊎ CalledAt (Linked p facts.typing) x f.item i a b ⊎ CaughtAt x f.item a b
      → facts.class f.method a ≡ facts.class f.method b
  pair_at a b first second paired =
      same_class_if_paired p facts exact f.method h.code h.code_is f.item a b (record {
        insn = i;
        is = h.insn_is;
        reachable = state_found (facts.typing f.method) f.item h.state h.state_is;
        first = first;
        second = second;
        paired = paired;
      })

  pub stays_class : (depth next : ℕ) → depth + pairs.words_taken p.outline used i < length f.stack → IsNormalEdge h.code f.item next
      → IsNode x (Slot f.item depth) → IsNode x (Slot next depth)
      → facts.class f.method (Slot f.item depth) ≡ facts.class f.method (Slot next depth)
  stays_class depth next lt edge first second =
      let same = depth_level in
      pair_at (Slot f.item depth) (Slot next depth) first second
      (inl (record { depth = depth; next = next; below = omega (arith, same); edge = edge; before = refl; after = refl }))

  pub joined_class : (one other : pairs.RowPlace) (a b : Node) → Contains (pairs.joined_by p.outline used i) (one, other) → StandsAt x f.item i one a
      → StandsAt x f.item i other b → IsNode x a → IsNode x b → facts.class f.method a ≡ facts.class f.method b
  joined_class one other a b row first second first_node second_node =
      pair_at a b first_node second_node (inr (inl (record { one = one; other = other; row = row; first = first; second = second })))

  -- what is taken, counted from the top
  pub taken_word : (n : ℕ) → StandsAt x f.item i (pairs.Taken n) (Slot f.item (length f.stack - 1 - n))
  taken_word n = ap (λ depth. Slot f.item (depth - 1 - n)) (sym depth_level)

  -- what is given, by how many given words lie below it
  pub given_word : (next n : ℕ) → IsNormalEdge h.code f.item next
      → StandsAt x f.item i (pairs.Given n) (Slot next (length f.stack - pairs.words_taken p.outline used i + n))
  given_word next n edge = (next, (edge, ap (λ depth. Slot next (depth - pairs.words_taken p.outline used i + n)) (sym depth_level)))

  -- ---- words of the state

  pub node_of_slot : (n : ℕ) (s : slots.Slot) → slice_get h.state.stack n ≡ Some s → is_reference s ≡ true
      → IsNode x (Slot f.item (length f.stack - 1 - n))
  node_of_slot n s at is =
      let within : n < length h.state.stack = slice_get_within h.state.stack n s at in
      let there : slice_get (reverse h.state.stack) (length h.state.stack - 1 - n) ≡ Some s = slot_from_below h.state.stack n within ∙ at in
      let found : word_in_state (length f.stack - 1 - n) (state_at (facts.typing f.method) f.item) ≡ Some s =
      ap (word_in_state (length f.stack - 1 - n)) h.state_is ∙ ap (λ d. slice_get (reverse h.state.stack) (d - 1 - n)) h.depth ∙ there in
      subst (λ (o : Option slots.Slot). IsSomeAnd o (λ s. is_reference s ≡ true)) (sym found) is

  pub slot_of_node : (n : ℕ) (s : slots.Slot) → slice_get h.state.stack n ≡ Some s → IsNode x (Slot f.item (length f.stack - 1 - n))
      → is_reference s ≡ true
  slot_of_node n s at node =
      let within : n < length h.state.stack = slice_get_within h.state.stack n s at in
      let there : slice_get (reverse h.state.stack) (length h.state.stack - 1 - n) ≡ Some s = slot_from_below h.state.stack n within ∙ at in
      let found : word_in_state (length f.stack - 1 - n) (state_at (facts.typing f.method) f.item) ≡ Some s =
      ap (word_in_state (length f.stack - 1 - n)) h.state_is ∙ ap (λ d. slice_get (reverse h.state.stack) (d - 1 - n)) h.depth ∙ there in
      subst (λ (o : Option slots.Slot). IsSomeAnd o (λ s. is_reference s ≡ true)) found node

  -- ---- the row

  abbrev pub Row : Option TypeState → Type 0
  Row after = IsSomeAnd after (λ s. (next : ℕ) → IsNormalEdge h.code f.item next → FitsAt p (facts.typing f.method) next s)

  -- the item meets its row
  pub row : Row (row_after p.outline f.method f.item (made_at p f.method h.code) used i h.state)
  row =
      let meets : MeetsItem p f.method h.code (facts.typing f.method) f.item h.state =
      (exact.methods f.method h.code h.code_is).typing.items f.item h.state h.state_is in
      subst Row
      (ap (λ (o : Option Insn). option_and_then (λ other. row_after p.outline f.method f.item (made_at p f.method h.code) (use_by p f.method other) other h.state) o) h.insn_is)
      meets.row

  -- a word that is given and is a reference at the item that follows was one in the row's state
  pub given_reference : (after : TypeState) (next q : ℕ) (s : slots.Slot) → FitsAt p (facts.typing f.method) next after
      → slice_get after.stack q ≡ Some s → IsNode x (Slot next (length after.stack - 1 - q)) → is_reference s ≡ true
  given_reference after next q s fits_at at node =
      let found : (t : TypeState) × (state_at (facts.typing f.method) next ≡ Some t) × (state_fits p.outline after t ≡ true) =
      Some-from_some_and (state_at (facts.typing f.method) next) (λ t. state_fits p.outline after t ≡ true) fits_at in
      let zip : AllZip (Fitting p.outline) after.stack found.0.stack = stack_fits p.outline after found.0 found.2 in
      let same : length after.stack ≡ length found.0.stack = length_all_zip (Fitting p.outline) after.stack found.0.stack zip in
      let within : q < length after.stack = slice_get_within after.stack q s at in
      let in_next : q < length found.0.stack = omega arith in
      let word : word_in_state (length after.stack - 1 - q) (state_at (facts.typing f.method) next) ≡ slice_get found.0.stack q =
      ap (word_in_state (length after.stack - 1 - q)) found.1 ∙ ap (λ d. slice_get (reverse found.0.stack) (d - 1 - q)) same
      ∙ slot_from_below found.0.stack q in_next in
      let there : (t : slots.Slot) × (slice_get found.0.stack q ≡ Some t) × (is_reference t ≡ true) =
      Some-from_some_and (slice_get found.0.stack q) (λ t. is_reference t ≡ true)
      (subst (λ (o : Option slots.Slot). IsSomeAnd o (λ t. is_reference t ≡ true)) word node) in
      let below : (t : slots.Slot) × (slice_get after.stack q ≡ Some t) × (fits p.outline t there.0 ≡ true) =
      zip_at p.outline after.stack found.0.stack q there.0 zip there.1 in
      let is : below.0 ≡ s = same_Some below.0 s (sym below.1 ∙ at) in
      subst (λ t. is_reference t ≡ true) is (reference_below p.outline below.0 there.0 below.2 there.2)

  -- ---- effects that go on

  -- what is given is of the class of the word that it becomes
  abbrev pub GivesEvenly : ℕ → Effect → ℕ → Type 0
  GivesEvenly home e next =
      (q : ℕ) (s : Source) → slice_get e.gives q ≡ Some s → IsNode x (given point e next q) → ComesFrom point home (facts.class f.method (given point e next q)) s

  pub goes_obey : (e : Effect) (home : ℕ) → AllByRecursion (ActsEvenly p.outline point home) e.actions → LeadsRight i e.next
      → EndsEvenly p.outline point home i e.next → ((next : ℕ) → IsNormalEdge h.code f.item next → GivesEvenly home e next)
      → AllByRecursion (λ (w : ℕ × Source). WritesFrom point (facts.class f.method (Local w.0)) w.1) e.writes
      → ((k : ℕ) → is_written k e.writes ≡ false → stores_over k i ≡ false) → pairs.words_taken p.outline used i ≤ e.takes
      → Obeys p.outline point i e
  goes_obey e home acts leads ends gives writes stored taken = record {
    home = home;
    acts = acts;
    leads = leads;
    goes = λ next going edge. record {
      stays = λ depth lt first second. stays_class depth next (omega arith) edge first second;
      gives = gives next edge;
      writes = writes;
      lives = λ k live unwritten.
          live_before p facts exact f.method h.code h.code_is f.item next k i h.insn_is (inl edge) (stored k unwritten) live;
    };
    ends = ends;
  }
