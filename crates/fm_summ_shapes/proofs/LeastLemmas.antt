-- Two least typings of a method have references at the same places of the stack, so the same nodes are joined by both.
use Rattle.std.proofs.Common.{◌≡◌, refl, sym, ◌∙◌, ap, subst, ℕ, zero, suc, ◌+◌, ◌-◌, ◌<◌, ◌⊎◌, ◌&&◌, ◌||◌, not, inl, inr, Bool, true, false, List, [], ◌∷◌, length, map, reverse, Option, Some, None, IsSomeAnd}
use Rattle.std.specs.List.{slice_get}
use Rattle.std.proofs.lemmas.Bool.{and_parts, false≢true}
use Rattle.std.proofs.lemmas.List.{length-map, length-reverse}
use Rattle.fm_summ.specs.Exact.{shape_at}
use Rattle.fm_summ_shapes.specs.Analysed.{AreLeastTypings, LeastTypingsLinkAlike, LeastTypingsMakeOneShape}
use Rattle.fm_base.proofs.OptionFacts.{IsSomeAnd-from_some, IsSomeAnd-at_some, Some-from_some_and}
use Rattle.fm_base.specs.Rows.{has}
use Rattle.fm_check.specs.Checking.{IsLeastTyping}
use Rattle.fm_code.specs.declared.code_array.Code.{Code}
use Rattle.fm_code.specs.declared.instructions.Insn.{Insn}
use Rattle.fm_code.specs.declared.instructions.Insn.TheVariants as insn
use Rattle.fm_conn.proofs.WordLemmas.{depth_is, node_of_word, state_reached, word_of_node, words_of_item}
use Rattle.fm_conn.specs.Links.{node_of, typed_method, LinkedIn, Typings}
use Rattle.fm_conn.specs.Nodes.{depth_at, Global, IsNode, Local, Node, Return, Slot, TypedMethod}
use Rattle.fm_conn.specs.Pairs.{call_of, call_with, depth_below, use_at, ArePaired, CalledAt, CaughtAt, IsPath, Joined, JoinedAt, Linking, PairAt, StandsAt, StandsFor, StaysAt}
use Rattle.fm_conn.specs.Rows.{words_taken, AsResult, Given, InLocal, Outside, RowPlace, Taken}
use Rattle.fm_conn.specs.Shapes.{method_with, nothing_linked, HasStandIn, IsCallShapeAt, IsReached, IsShapeOf, MakesCall}
use Rattle.fm_conn.specs.declared.ends.End2.{End2}
use Rattle.fm_conn.specs.declared.ends.End2.TheVariants as end
use Rattle.fm_conn.specs.declared.shapes.CallShape.{CallShape}
use Rattle.fm_conn.specs.declared.shapes.Shape.{Shape}
use Rattle.fm_conn.specs.inner.NodeTables.{words_of_state}
use Rattle.fm_check_rows.proofs.WordLemmas.{reverse-map}
use Rattle.fm_types.proofs.NumberOrder.{reference_below}
use Rattle.fm_types.specs.Fits.{fits}
use Rattle.fm_types.specs.States.{all_fit, is_reference, state_fits, TypeState}
use Rattle.fm_types.specs.Typed.{state_at}
use Rattle.fm_types.specs.declared.slots.Slot as slots
use Rattle.fm_world.specs.Programs.{code_at, Outline, Program}
use Rattle.fm_world.specs.declared.calls.CallKind.{CallKind}
use Rattle.fm_world.specs.declared.calls.CallKind.TheVariants as call
use Rattle.fm_world.specs.declared.uses.Use.{Use}
use Rattle.fm_world.specs.declared.uses.Use.TheVariants as resolved

-- ---- references at the same places

-- the words of each item hold references at the same places, and what is reached by the first is reached by the second
pub record AreAlike (first second : List (Option TypeState)) : Type 0 where
  pub words : (j : ℕ) → words_of_state (state_at first j) ≡ words_of_state (state_at second j)
  pub reached : (j : ℕ) (s : TypeState) → state_at first j ≡ Some s → (t : TypeState) × (state_at second j ≡ Some t)

bit_same : (o : Outline) (a b : slots.Slot) → fits o a b ≡ true → fits o b a ≡ true → is_reference a ≡ is_reference b
bit_same o a b up down = at (is_reference a) (is_reference b) refl refl where
  at : (x y : Bool) → is_reference a ≡ x → is_reference b ≡ y → is_reference a ≡ is_reference b
  at true true first second = first ∙ sym second
  at false false first second = first ∙ sym second
  at true false first second = absurd (false≢true (sym second ∙ reference_below o b a down first))
  at false true first second = absurd (false≢true (sym first ∙ reference_below o a b up second))

bits_same : (o : Outline) (xs ys : List slots.Slot) → all_fit o xs ys ≡ true → all_fit o ys xs ≡ true → map is_reference xs ≡ map is_reference ys
bits_same o [] [] up down = refl
bits_same o [] (y ∷ ys) up down = absurd (false≢true up)
bits_same o (x ∷ xs) [] up down = absurd (false≢true up)
bits_same o (x ∷ xs) (y ∷ ys) up down =
    let above = and_parts (fits o x y) (all_fit o xs ys) up in
    let below = and_parts (fits o y x) (all_fit o ys xs) down in
    (λ k. bit_same o x y above.0 below.0 k ∷ bits_same o xs ys above.1 below.1 k)

pub stack_fits : (o : Outline) (s t : TypeState) → state_fits o s t ≡ true → all_fit o s.stack t.stack ≡ true
unfolding state_fits
stack_fits o s t fit =
    (and_parts (all_fit o s.locals t.locals) (all_fit o s.stack t.stack)
    (and_parts (all_fit o s.locals t.locals && all_fit o s.stack t.stack) (s.built || not t.built) fit).0).1

words_same : (o : Outline) (s t : TypeState) → state_fits o s t ≡ true → state_fits o t s ≡ true → words_of_state (Some s) ≡ words_of_state (Some t)
words_same o s t up down =
    sym (reverse-map is_reference s.stack)
    ∙ ap reverse (bits_same o s.stack t.stack (stack_fits o s t up) (stack_fits o t s down))
    ∙ reverse-map is_reference t.stack

-- what is the same for states that fit each other is the same for the states of an item
pub told_same : {X : Type 0} (told : Option TypeState → X) (p : Program) (method : ℕ) (first second : List (Option TypeState))
    → ((s t : TypeState) → state_fits p.outline s t ≡ true → state_fits p.outline t s ≡ true → told (Some s) ≡ told (Some t))
    → IsLeastTyping p method first → IsLeastTyping p method second → (j : ℕ) → told (state_at first j) ≡ told (state_at second j)
told_same told p method first second agree one other j = at (state_at first j) (state_at second j) refl refl where
  at : (a b : Option TypeState) → state_at first j ≡ a → state_at second j ≡ b → told (state_at first j) ≡ told (state_at second j)
  at None None is same = ap told is ∙ sym (ap told same)
  at None (Some t) is same =
      absurd (let found = Some-from_some_and (state_at first j) (λ s. state_fits p.outline t s ≡ true) (other.least first one.typing j t same) in
      let none : None ≡ Some found.0 = sym is ∙ found.1 in cc)
  at (Some s) None is same =
      absurd (let found = Some-from_some_and (state_at second j) (λ t. state_fits p.outline s t ≡ true) (one.least second other.typing j s is) in
      let none : None ≡ Some found.0 = sym same ∙ found.1 in cc)
  at (Some s) (Some t) is same =
      let up = IsSomeAnd-at_some (state_at second j) (λ v. state_fits p.outline s v ≡ true) t same (one.least second other.typing j s is) in
      let down = IsSomeAnd-at_some (state_at first j) (λ v. state_fits p.outline t v ≡ true) s is (other.least first one.typing j t same) in
      ap told is ∙ agree s t up down ∙ sym (ap told same)

pub least_alike : (p : Program) (method : ℕ) (first second : List (Option TypeState)) → IsLeastTyping p method first → IsLeastTyping p method second
    → AreAlike first second
least_alike p method first second one other = record {
  words = told_same words_of_state p method first second (words_same p.outline) one other;
  reached = λ j s is. let found = Some-from_some_and (state_at second j) (λ t. state_fits p.outline s t ≡ true) (one.least second other.typing j s is) in (found.0, found.1);
}

-- ---- what states are asked for

depth_words : (x : TypedMethod) (j : ℕ) → depth_at x j ≡ length (words_of_state (state_at x.states j))
depth_words x j =
    (elim (state_at x.states j) as (λ o. state_at x.states j ≡ o → depth_at x j ≡ length (words_of_state o)) [
      | None ↦ (λ none. rw none refl)
      | Some s ↦ (λ some. depth_is x j s some ∙ sym (length-map (reverse s.stack) is_reference ∙ length-reverse s.stack))
    ]) refl

slice_of_state : (states : List (Option TypeState)) (j : ℕ) (s : TypeState) → state_at states j ≡ Some s
    → IsSomeAnd (slice_get states j) (λ o. IsSomeAnd o (λ _. Unit {0}))
slice_of_state [] j s is = absurd cc
slice_of_state (o ∷ states) zero s is = IsSomeAnd-from_some o (λ _. Unit {0}) s is tt
slice_of_state (o ∷ states) (suc j) s is = slice_of_state states j s is

-- ---- what the one joins, the other joins

module _ (p : Program) (method : ℕ) (code : Code) (first second : List (Option TypeState)) (alike : AreAlike first second) where
  abbrev pub x : TypedMethod
  x = method_with p method code first

  abbrev pub y : TypedMethod
  y = method_with p method code second

  pub depth_same : (j : ℕ) → depth_at x j ≡ depth_at y j
  depth_same j = depth_words x j ∙ ap length (alike.words j) ∙ sym (depth_words y j)

  pub below_same : (j : ℕ) (i : Insn) → depth_below x j i ≡ depth_below y j i
  below_same j i = ap (λ d. d - words_taken p.outline (use_at x i) i) (depth_same j)

  pub node_kept : (a : Node) → IsNode x a → IsNode y a
  node_kept (Local k) node = tt
  node_kept (Slot j d) node =
      node_of_word y j d (subst (λ w. has w d ≡ true) (words_of_item x j ∙ alike.words j ∙ sym (words_of_item y j)) (word_of_node x j d node))
  node_kept Return node = tt
  node_kept Global node = tt

  pub reached_kept : (j : ℕ) → IsReached x j → IsReached y j
  reached_kept j reached =
      let was = state_reached x j reached in
      let now = alike.reached j was.0 was.1 in
      slice_of_state second j now.0 now.1

  stands_kept : (j : ℕ) (i : Insn) (place : RowPlace) (a : Node) → StandsAt x j i place a → StandsAt y j i place a
  stands_kept j i (Taken n) a is = is ∙ ap (λ d. Slot j (d - 1 - n)) (depth_same j)
  stands_kept j i (Given n) a (next, (edge, is)) = (next, (edge, is ∙ ap (λ d. Slot next (d + n)) (below_same j i)))
  stands_kept j i (InLocal k) a is = is
  stands_kept j i AsResult a is = is
  stands_kept j i Outside a is = is

  stands_for_kept : (j : ℕ) (i : Insn) (e : End2) (a : Node) → StandsFor x j i e a → StandsFor y j i e a
  stands_for_kept j i (end.Parameter k) a is = is ∙ ap (λ d. Slot j (d + k)) (below_same j i)
  stands_for_kept j i end.Return a is = stands_kept j i (Given 0) a is
  stands_for_kept j i end.Global a is = is

  call_with_same : (k : CallKind) (u : Use) → call_with x k u ≡ call_with y k u
  call_with_same k (resolved.OfMethod m t) = refl
  call_with_same k u = refl

  pub calls_same : (i : Insn) → call_of x i ≡ call_of y i
  calls_same (insn.Virtual index) = call_with_same call.Virtual (use_at x (insn.Virtual index))
  calls_same (insn.Interface index) = call_with_same call.Interface (use_at x (insn.Interface index))
  calls_same (insn.Special index) = call_with_same call.Special (use_at x (insn.Special index))
  calls_same (insn.Static index) = call_with_same call.Static (use_at x (insn.Static index))
  calls_same i = refl

  paired_kept : (linked more : Linking) → ((m : ℕ) (a b : End2) → linked m a b → more m a b) → (j : ℕ) (i : Insn) (a b : Node)
      → StaysAt x j i a b ⊎ JoinedAt x j i a b ⊎ CalledAt linked x j i a b ⊎ CaughtAt x j a b
      → StaysAt y j i a b ⊎ JoinedAt y j i a b ⊎ CalledAt more y j i a b ⊎ CaughtAt y j a b
  paired_kept linked more up j i a b (inl s) =
      inl (record { depth = s.depth; next = s.next; below = subst (λ d. s.depth < d) (below_same j i) s.below; edge = s.edge; before = s.before; after = s.after })
  paired_kept linked more up j i a b (inr (inl s)) =
      inr (inl (record {
        one = s.one;
        other = s.other;
        row = s.row;
        first = stands_kept j i s.one a s.first;
        second = stands_kept j i s.other b s.second;
      }))
  paired_kept linked more up j i a b (inr (inr (inl c))) =
      inr (inr (inl (record {
        called = c.called;
        is = sym (calls_same i) ∙ c.is;
        target = c.target;
        among = c.among;
        one = c.one;
        other = c.other;
        first_end = c.first_end;
        second_end = c.second_end;
        links = up c.target c.one c.other c.links;
        first = stands_for_kept j i c.one a c.first;
        second = stands_for_kept j i c.other b c.second;
      })))
  paired_kept linked more up j i a b (inr (inr (inr c))) = inr (inr (inr (record { handler = c.handler; edge = c.edge; before = c.before; after = c.after })))

  pair_kept : (linked more : Linking) → ((m : ℕ) (a b : End2) → linked m a b → more m a b) → (j : ℕ) (a b : Node) → PairAt linked x j a b → PairAt more y j a b
  pair_kept linked more up j a b pair = record {
    insn = pair.insn;
    is = pair.is;
    reachable = reached_kept j pair.reachable;
    first = node_kept a pair.first;
    second = node_kept b pair.second;
    paired = paired_kept linked more up j pair.insn a b pair.paired;
  }

  are_paired_kept : (linked more : Linking) → ((m : ℕ) (a b : End2) → linked m a b → more m a b) → (a b : Node) → ArePaired linked x a b → ArePaired more y a b
  are_paired_kept linked more up a b (j, inl pair) = (j, inl (pair_kept linked more up j a b pair))
  are_paired_kept linked more up a b (j, inr pair) = (j, inr (pair_kept linked more up j b a pair))

  path_kept : (linked more : Linking) → ((m : ℕ) (a b : End2) → linked m a b → more m a b) → (a : Node) (path : List Node) (b : Node)
      → IsPath linked x a path b → IsPath more y a path b
  path_kept linked more up a [] b same = same
  path_kept linked more up a (next ∷ rest) b (paired, path) = (are_paired_kept linked more up a next paired, path_kept linked more up next rest b path)

  pub joined_kept : (linked more : Linking) → ((m : ℕ) (a b : End2) → linked m a b → more m a b) → (a b : Node) → Joined linked x a b → Joined more y a b
  joined_kept linked more up a b (path, is) = (path, path_kept linked more up a path b is)

  makes_kept : (j : ℕ) (i : Insn) (s : CallShape) → MakesCall x j i s.call → MakesCall y j i s.call
  makes_kept j i s makes = record { is = makes.is; reached = reached_kept j makes.reached; calls = sym (calls_same i) ∙ makes.calls }

  stand_in_kept : (class : Node → ℕ) (j : ℕ) (i : Insn) (e : End2) (number : ℕ) → HasStandIn x class j i e number → HasStandIn y class j i e number
  stand_in_kept class j i e number s = record { node = s.node; stands = stands_for_kept j i e s.node s.stands; is_node = node_kept s.node s.is_node; is = s.is }

-- ---- shapes

call_kept : (p : Program) (method : ℕ) (code : Code) (first second : List (Option TypeState)) → AreAlike first second → AreAlike second first
    → (class : Node → ℕ) (j : ℕ) (s : CallShape) → IsCallShapeAt (method_with p method code first) class j s
    → IsCallShapeAt (method_with p method code second) class j s
call_kept p method code first second there back class j s at = record {
  insn = at.insn;
  makes = makes_kept p method code first second there j at.insn s at.makes;
  ends = λ e number. (
    λ found. stand_in_kept p method code first second there class j at.insn e number ((at.ends e number).0 found),
    λ stands. (at.ends e number).1 (stand_in_kept p method code second first back class j at.insn e number stands),
  );
}

shape_kept : (p : Program) (method : ℕ) (code : Code) (first second : List (Option TypeState)) → AreAlike first second → AreAlike second first
    → (shape : Shape) → IsShapeOf (method_with p method code first) shape → IsShapeOf (method_with p method code second) shape
shape_kept p method code first second there back shape is = record {
  class = is.class;
  same = λ a b. (
    λ one. joined_kept p method code first second there nothing_linked nothing_linked (λ m e f none. none) a b ((is.same a b).0 one),
    λ joined. (is.same a b).1 (joined_kept p method code second first back nothing_linked nothing_linked (λ m e f none. none) a b joined),
  );
  ends = is.ends;
  calls = λ s found. let at = is.calls s found in (at.0, call_kept p method code first second there back is.class at.0 s at.1);
  each_call = λ j i called makes.
      let was : MakesCall (method_with p method code first) j i called =
      record {
        is = makes.is;
        reached = reached_kept p method code second first back j makes.reached;
        calls = sym (calls_same p method code second first back i) ∙ makes.calls;
      } in
      let found = is.each_call j i called was in
      (found.0, (found.1.0, found.1.1, call_kept p method code first second there back is.class j found.0 found.1.2));
}

pub least_make_one_shape : LeastTypingsMakeOneShape
least_make_one_shape p typings others least other shapes are = record {
  one_each = are.one_each;
  coded = λ method code is.
      let there = least_alike p method (typings method) (others method) (least method code is) (other method code is) in
      let back = least_alike p method (others method) (typings method) (other method code is) (least method code is) in
      shape_kept p method code (typings method) (others method) there back (shape_at shapes method) (are.coded method code is);
  others = are.others;
}

-- ---- links

pub linked_kept : (p : Program) (typings others : Typings) → AreLeastTypings p typings → AreLeastTypings p others → (round method : ℕ) (a b : End2)
    → LinkedIn p typings round method a b → LinkedIn p others round method a b
unfolding LinkedIn
linked_kept p typings others least other zero method a b linked = linked
linked_kept p typings others least other (suc round) method a b (inl at_once) = inl at_once
linked_kept p typings others least other (suc round) method a b (inr joined) =
    let found = Some-from_some_and (code_at p method)
    (λ code. Joined (LinkedIn p typings round) (typed_method p typings method code) (node_of a) (node_of b)) joined in
    let code = found.0 in
    let alike = least_alike p method (typings method) (others method) (least method code found.1) (other method code found.1) in
    inr (IsSomeAnd-from_some (code_at p method)
    (λ c. Joined (LinkedIn p others round) (typed_method p others method c) (node_of a) (node_of b)) code found.1
    (joined_kept p method code (typings method) (others method) alike (LinkedIn p typings round) (LinkedIn p others round)
    (λ m e f. linked_kept p typings others least other round m e f) (node_of a) (node_of b) found.2))

pub least_link_alike : LeastTypingsLinkAlike
least_link_alike p typings others least other s exact = record {
  summaries = exact.summaries;
  links = record {
    all = λ method a b first second linked.
        exact.links.all method a b first second (linked.0, linked_kept p others typings other least linked.0 method a b linked.1);
    no_more = λ method a b told.
        let linked = exact.links.no_more method a b told in (linked.0, linked_kept p typings others least other linked.0 method a b linked.1);
  };
}
