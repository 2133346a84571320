-- The rows of constants, locals and moves of the stack: what they give is of the class of what they take or load.
use Rattle.std.proofs.Common.{◌≡◌, ℕ, zero, suc, ◌+◌, ◌-◌, ◌<◌, ◌==◌, ◌||◌, Bool, true, false, cond, List, [], ◌∷◌, ◌++◌, length, map, Option, Some, None, option_and_then, IsSomeAnd, Contains, refl, sym, ◌∙◌, ap, subst, slice_get, arith}
use Rattle.std.proofs.lemmas.Bool.{false≢true}
use Rattle.std.proofs.lemmas.List.{length-map}
use Rattle.std.proofs.lemmas.Option.{same_Some}
use Rattle.fm_base.proofs.OptionFacts.{Some-from_some_and}
use Rattle.fm_code.specs.Edges.{falls_through, IsNormalEdge}
use Rattle.fm_code.specs.Live.{stores_over}
use Rattle.fm_code.specs.declared.instructions.Insn.{Insn}
use Rattle.fm_code.specs.declared.instructions.Insn.TheVariants as insn
use Rattle.fm_code.specs.declared.operations.Reg.{Reg}
use Rattle.fm_code.specs.declared.operations.Reg.TheVariants as reg
use Rattle.fm_conn.specs.Facts.{AreFacts, Facts}
use Rattle.fm_conn.specs.Nodes.{IsNode, Local, Slot}
use Rattle.fm_conn.specs.Pairs.{StandsAt}
use Rattle.fm_conn.specs.Rows as pairs
use Rattle.fm_types.specs.Moves.{Moves, moves_of}
use Rattle.fm_types.specs.NumberRows.{is_int, load_row, loaded, store_row, suits}
use Rattle.fm_types.specs.Rows.{row_after}
use Rattle.fm_types.specs.States.{is_long, is_reference, pushed, TypeState}
use Rattle.fm_types.specs.Typed.{FitsAt}
use Rattle.fm_types.specs.declared.slots.Slot as slots
use Rattle.fm_types.specs.declared.slots.Slot.TheVariants as slot
use Rattle.fm_world.specs.Programs.{Program}
use Rattle.fm_world.specs.declared.uses.Use.{Use}
use Rattle.fm_world.specs.declared.uses.Use.TheVariants as resolved
use Rattle.fm_frames.specs.Effects.{Effect, giving_literal, Source, Plain, OfOperand, OfLocal, OfLiteral, int_word, long_words, words}
use Rattle.fm_frames.specs.Literals.{class_literal}
use Rattle.fm_frames.specs.NumberRows.{constant_effect, load_effect, move_effect, moved_words, store_effect}
use Rattle.fm_frames.specs.States.{Frame}
use Rattle.fm_frames.specs.declared.values.Value.TheVariants as value
use Rattle.fm_same.specs.Evenness.{ComesFrom, depth_after, given, word}
use Rattle.fm_same.proofs.EdgesKeep.{live_loaded}
use Rattle.fm_same.proofs.GoesOnKeep.{map_found}
use Rattle.fm_same.proofs.ItemFacts.{AtInsn, GivesEvenly, given_reference, given_word, goes_obey, joined_class, point, row, slot_of_node, taken_word, used, x}
use Rattle.fm_same.proofs.PlainRows.{Owes, stuck_obeys, words_obey}

-- ---- one and two words

pub one_given : (P : ℕ → Source → Type 0) (g : Source) → P 0 g → (q : ℕ) (s : Source) → slice_get (g ∷ []) q ≡ Some s → P q s
one_given P g first zero s at = subst (P 0) (same_Some g s at) first
one_given P g first (suc q) s at = absurd (cc)

pub two_given : (P : ℕ → Source → Type 0) (g other : Source) → P 0 g → P 1 other → (q : ℕ) (s : Source) → slice_get (g ∷ other ∷ []) q ≡ Some s → P q s
two_given P g other first second zero s at = subst (P 0) (same_Some g s at) first
two_given P g other first second (suc zero) s at = subst (P 1) (same_Some other s at) second
two_given P g other first second (suc (suc q)) s at = absurd (cc)

-- ---- what is given

module _ (p : Program) (facts : Facts) (exact : AreFacts p facts) (f : Frame) (i : Insn) (h : AtInsn p facts f i) where
  -- a word that is given is where the pairs have it
  pub given_stands : (e : Effect) (next q n : ℕ) → IsNormalEdge h.code f.item next → e.takes ≡ pairs.words_taken p.outline (used p facts exact f i h) i
      → q + suc n ≡ length e.gives
      → StandsAt (x p facts exact f i h) f.item i (pairs.Given n) (given (point p facts exact f i h) e next q)
  given_stands e next q n edge takes place =
      let level : length f.stack - pairs.words_taken p.outline (used p facts exact f i h) i + n ≡ depth_after (point p facts exact f i h) e - 1 - q =
      omega arith in
      subst (λ d. StandsAt (x p facts exact f i h) f.item i (pairs.Given n) (Slot next d)) level (given_word p facts exact f i h next n edge)

  -- a word that isn't a reference in the row's state is none at the item that follows
  pub not_given : (e : Effect) (after : TypeState) (next q : ℕ) (s : slots.Slot) → FitsAt p (facts.typing f.method) next after
      → slice_get after.stack q ≡ Some s → is_reference s ≡ false → length after.stack ≡ depth_after (point p facts exact f i h) e
      → IsNode (x p facts exact f i h) (given (point p facts exact f i h) e next q) → ⊥
  not_given e after next q s fits at plain level node =
      false≢true (sym plain ∙ given_reference p facts exact f i h after next q s fits at
      (subst (λ d. IsNode (x p facts exact f i h) (Slot next (d - 1 - q))) (sym level) node))

  -- a word that is taken, and isn't a reference in the item's state, is no node
  pub not_taken : (n : ℕ) (s : slots.Slot) → slice_get h.state.stack n ≡ Some s → is_reference s ≡ false
      → IsNode (x p facts exact f i h) (word (point p facts exact f i h) n) → ⊥
  not_taken n s at plain node = false≢true (sym plain ∙ slot_of_node p facts exact f i h n s at node)

  -- one word is given, or two
  abbrev pub GivesOne : Effect → ℕ → ℕ → ℕ → Source → Type 0
  GivesOne e home next q g =
      IsNode (x p facts exact f i h) (given (point p facts exact f i h) e next q)
      → ComesFrom (point p facts exact f i h) home (facts.class f.method (given (point p facts exact f i h) e next q)) g

  pub gives_one : (e : Effect) (home : ℕ) (g : Source) → e.gives ≡ g ∷ []
      → ((next : ℕ) → IsNormalEdge h.code f.item next → GivesOne e home next 0 g)
      → (next : ℕ) → IsNormalEdge h.code f.item next → GivesEvenly p facts exact f i h home e next
  gives_one e home g is one next edge q s at node =
      one_given (λ q s. GivesOne e home next q s) g (one next edge) q s (ap (λ gives. slice_get gives q) (sym is) ∙ at) node

  pub gives_two : (e : Effect) (home : ℕ) (g other : Source) → e.gives ≡ g ∷ other ∷ []
      → ((next : ℕ) → IsNormalEdge h.code f.item next → GivesOne e home next 0 g)
      → ((next : ℕ) → IsNormalEdge h.code f.item next → GivesOne e home next 1 other)
      → (next : ℕ) → IsNormalEdge h.code f.item next → GivesEvenly p facts exact f i h home e next
  gives_two e home g other is first second next edge q s at node =
      two_given (λ q s. GivesOne e home next q s) g other (first next edge) (second next edge) q s (ap (λ gives. slice_get gives q) (sym is) ∙ at) node

  -- the state after the item's row
  abbrev pub RowGives : Option TypeState → Type 0
  RowGives given_by = (s : TypeState) × (given_by ≡ Some s) × ((next : ℕ) → IsNormalEdge h.code f.item next → FitsAt p (facts.typing f.method) next s)

  pub row_gives : (given_by : Option TypeState)
      → IsSomeAnd given_by (λ s. (next : ℕ) → IsNormalEdge h.code f.item next → FitsAt p (facts.typing f.method) next s) → RowGives given_by
  row_gives given_by is = Some-from_some_and given_by (λ s. (next : ℕ) → IsNormalEdge h.code f.item next → FitsAt p (facts.typing f.method) next s) is

-- ---- constants

module _ (p : Program) (facts : Facts) (exact : AreFacts p facts) (f : Frame) where
  literal_obeys : (index : ℕ) (h : AtInsn p facts f (insn.LoadPool index)) (literal : ℕ) → Owes p facts exact f (insn.LoadPool index) h (giving_literal 0 literal)
  unfolding pairs.words_taken
  literal_obeys index h literal =
      goes_obey p facts exact f (insn.LoadPool index) h (giving_literal 0 literal) 0 (tt, tt) refl tt
      (gives_one p facts exact f (insn.LoadPool index) h (giving_literal 0 literal) 0 (OfLiteral literal) refl (λ next edge there. tt)) tt
      (λ k unwritten. refl) (omega arith)

  pub constant_obeys : (index : ℕ) (h : AtInsn p facts f (insn.LoadPool index)) (u : Use) → Owes p facts exact f (insn.LoadPool index) h (constant_effect p.outline u)
  unfolding constant_effect pairs.words_taken
  constant_obeys index h (resolved.OfType t) = literal_obeys index h (class_literal p.outline t.0)
  constant_obeys index h (resolved.OfField m t) = stuck_obeys p facts exact f (insn.LoadPool index) h
  constant_obeys index h (resolved.OfMethod m t) = stuck_obeys p facts exact f (insn.LoadPool index) h
  constant_obeys index h (resolved.OfInt n) = words_obey p facts exact f (insn.LoadPool index) h (λ k. refl) refl 0 (int_word n) (tt, tt) (omega arith)
  constant_obeys index h (resolved.OfLong n) =
      words_obey p facts exact f (insn.LoadPool index) h (λ k. refl) refl 0 (long_words n) (tt, (tt, tt)) (omega arith)
  constant_obeys index h (resolved.OfText text) = literal_obeys index h text
  constant_obeys index h resolved.Unused = stuck_obeys p facts exact f (insn.LoadPool index) h

  -- ---- loads

  load_reference : (k : ℕ) (h : AtInsn p facts f (insn.Load reg.Ref k)) → Owes p facts exact f (insn.Load reg.Ref k) h (words 0 (OfLocal k ∷ []))
  unfolding pairs.words_taken pairs.joined_by
  load_reference k h =
      let i : Insn = insn.Load reg.Ref k in
      let e : Effect = words 0 (OfLocal k ∷ []) in
      goes_obey p facts exact f i h e 0 tt refl tt
      (gives_one p facts exact f i h e 0 (OfLocal k) refl (λ next edge there. (
        live_loaded p facts exact f.method h.code h.code_is f.item k h.insn_is,
        joined_class p facts exact f i h (pairs.InLocal k) (pairs.Given 0) (Local k) (given (point p facts exact f i h) e next 0) (0, omega arith, refl) refl
            (given_stands p facts exact f i h e next 0 0 edge refl refl) tt there,
      )))
      tt (λ l unwritten. refl) (omega arith)

  -- the state after a load: the slot of the local is on top, a long's second half above it
  record IsLoaded (r : Reg) (before after : TypeState) : Type 0 where
    found : slots.Slot
    suited : suits r found ≡ true
    stack : after.stack ≡ loaded r found ++ before.stack

  loaded_by : (r : Reg) (before after : TypeState) (found : slots.Slot) (b : Bool) → suits r found ≡ b
      → cond b (Some (pushed (loaded r found) before)) None ≡ Some after → IsLoaded r before after
  loaded_by r before after found true is h =
      record { found = found; suited = is; stack = ap (λ (s : TypeState). s.stack) (same_Some after (pushed (loaded r found) before) (sym h)) }
  loaded_by r before after found false is h = absurd (cc)

  loaded_from : (r : Reg) (before after : TypeState) (found : Option slots.Slot)
      → option_and_then (λ s. cond (suits r s) (Some (pushed (loaded r s) before)) None) found ≡ Some after → IsLoaded r before after
  loaded_from r before after None h = absurd (cc)
  loaded_from r before after (Some s) h = loaded_by r before after s (suits r s) refl h

  load_state : (r : Reg) (k : ℕ) (h : AtInsn p facts f (insn.Load r k)) (after : TypeState) → load_row r k h.state ≡ Some after → IsLoaded r h.state after
  unfolding load_row
  load_state r k h after is = loaded_from r h.state after (slice_get h.state.locals k) is

  int_plain : (s : slots.Slot) → is_int s ≡ true → is_reference s ≡ false
  int_plain slot.Int h = refl
  int_plain s h = absurd (false≢true h)

  long_plain : (s : slots.Slot) → is_long s ≡ true → is_reference s ≡ false
  long_plain slot.Long h = refl
  long_plain s h = absurd (false≢true h)

  load_int : (k : ℕ) (h : AtInsn p facts f (insn.Load reg.Int k)) → Owes p facts exact f (insn.Load reg.Int k) h (words 0 (OfLocal k ∷ []))
  unfolding pairs.words_taken row_after
  load_int k h =
      let i : Insn = insn.Load reg.Int k in
      let e : Effect = words 0 (OfLocal k ∷ []) in
      let after = row_gives p facts exact f i h (load_row reg.Int k h.state) (row p facts exact f i h) in
      let pushed_by : IsLoaded reg.Int h.state after.0 = load_state reg.Int k h after.0 after.1 in
      goes_obey p facts exact f i h e 0 tt refl tt
      (gives_one p facts exact f i h e 0 (OfLocal k) refl
      (λ next edge there. absurd (not_given p facts exact f i h e after.0 next 0 pushed_by.found (after.2 next edge)
      (ap (λ xs. slice_get xs 0) pushed_by.stack) (int_plain pushed_by.found pushed_by.suited)
      (let level = h.depth in ap length pushed_by.stack ∙ omega (arith, level)) there)))
      tt (λ l unwritten. refl) (omega arith)

  load_long : (k : ℕ) (h : AtInsn p facts f (insn.Load reg.Long k))
      → Owes p facts exact f (insn.Load reg.Long k) h (words 0 (Plain value.Top ∷ OfLocal k ∷ []))
  unfolding pairs.words_taken row_after
  load_long k h =
      let i : Insn = insn.Load reg.Long k in
      let e : Effect = words 0 (Plain value.Top ∷ OfLocal k ∷ []) in
      let after = row_gives p facts exact f i h (load_row reg.Long k h.state) (row p facts exact f i h) in
      let pushed_by : IsLoaded reg.Long h.state after.0 = load_state reg.Long k h after.0 after.1 in
      goes_obey p facts exact f i h e 0 tt refl tt
      (gives_two p facts exact f i h e 0 (Plain value.Top) (OfLocal k) refl (λ next edge there. tt)
      (λ next edge there. absurd (not_given p facts exact f i h e after.0 next 1 pushed_by.found (after.2 next edge)
      (ap (λ xs. slice_get xs 1) pushed_by.stack) (long_plain pushed_by.found pushed_by.suited)
      (let level = h.depth in ap length pushed_by.stack ∙ omega (arith, level)) there)))
      tt (λ l unwritten. refl) (omega arith)

  pub load_obeys : (r : Reg) (k : ℕ) (h : AtInsn p facts f (insn.Load r k)) → Owes p facts exact f (insn.Load r k) h (load_effect r k)
  unfolding load_effect
  load_obeys reg.Int k h = load_int k h
  load_obeys reg.Long k h = load_long k h
  load_obeys reg.Ref k h = load_reference k h

  -- ---- stores

  unwritten_one : (a b : Bool) → (a || b) ≡ false → a ≡ false
  unwritten_one false b e = refl
  unwritten_one true b e = absurd (false≢true (sym e))

  unwritten_two : (a b : Bool) → (a || (b || false)) ≡ false → (a || b) ≡ false
  unwritten_two false false e = refl
  unwritten_two false true e = absurd (false≢true (sym e))
  unwritten_two true b e = absurd (false≢true (sym e))

  some_if : (b : Bool) (o : Option TypeState) (after : TypeState) → cond b o None ≡ Some after → b ≡ true
  some_if true o after h = refl
  some_if false o after h = absurd (cc)

  store_int_slot : (k : ℕ) (locals stack : List slots.Slot) (built : Bool) (after : TypeState)
      → store_row p.outline reg.Int k (record { locals = locals; stack = stack; built = built }) ≡ Some after
      → (s : slots.Slot) × (slice_get stack 0 ≡ Some s) × (is_int s ≡ true)
  unfolding store_row
  store_int_slot k locals [] built after h = absurd (cc)
  store_int_slot k locals (s ∷ stack) built after h = (s, refl, some_if (is_int s) _ after h)

  store_long_slot : (k : ℕ) (locals stack : List slots.Slot) (built : Bool) (after : TypeState)
      → store_row p.outline reg.Long k (record { locals = locals; stack = stack; built = built }) ≡ Some after
      → (s : slots.Slot) × (slice_get stack 1 ≡ Some s) × (is_long s ≡ true)
  unfolding store_row
  store_long_slot k locals [] built after h = absurd (cc)
  store_long_slot k locals (half ∷ []) built after h = absurd (cc)
  store_long_slot k locals (half ∷ s ∷ stack) built after h = (s, refl, some_if (is_long s) _ after h)

  store_reference : (k : ℕ) (h : AtInsn p facts f (insn.Store reg.Ref k)) → Owes p facts exact f (insn.Store reg.Ref k) h (store_effect reg.Ref k)
  unfolding pairs.words_taken pairs.joined_by store_effect
  store_reference k h =
      let i : Insn = insn.Store reg.Ref k in
      goes_obey p facts exact f i h (store_effect reg.Ref k) 0 tt refl tt (λ next edge q s at node. absurd (cc)) (
        (λ there. joined_class p facts exact f i h (pairs.Taken 0) (pairs.InLocal k) (word (point p facts exact f i h) 0) (Local k) (0, omega arith, refl)
            (taken_word p facts exact f i h 0) refl there tt),
        tt,
      )
      (λ l unwritten. unwritten_one (k == l) false unwritten) (omega arith)

  store_int : (k : ℕ) (h : AtInsn p facts f (insn.Store reg.Int k)) → Owes p facts exact f (insn.Store reg.Int k) h (store_effect reg.Int k)
  unfolding pairs.words_taken row_after store_effect
  store_int k h =
      let i : Insn = insn.Store reg.Int k in
      let after = row_gives p facts exact f i h (store_row p.outline reg.Int k h.state) (row p facts exact f i h) in
      let top : (s : slots.Slot) × (slice_get h.state.stack 0 ≡ Some s) × (is_int s ≡ true) =
      store_int_slot k h.state.locals h.state.stack h.state.built after.0 after.1 in
      goes_obey p facts exact f i h (store_effect reg.Int k) 0 tt refl tt (λ next edge q s at node. absurd (cc))
      ((λ there. absurd (not_taken p facts exact f i h 0 top.0 top.1 (int_plain top.0 top.2) there)), tt)
      (λ l unwritten. unwritten_one (k == l) false unwritten) (omega arith)

  store_long : (k : ℕ) (h : AtInsn p facts f (insn.Store reg.Long k)) → Owes p facts exact f (insn.Store reg.Long k) h (store_effect reg.Long k)
  unfolding pairs.words_taken row_after store_effect
  store_long k h =
      let i : Insn = insn.Store reg.Long k in
      let after = row_gives p facts exact f i h (store_row p.outline reg.Long k h.state) (row p facts exact f i h) in
      let below : (s : slots.Slot) × (slice_get h.state.stack 1 ≡ Some s) × (is_long s ≡ true) =
      store_long_slot k h.state.locals h.state.stack h.state.built after.0 after.1 in
      goes_obey p facts exact f i h (store_effect reg.Long k) 0 tt refl tt (λ next edge q s at node. absurd (cc))
      ((λ there. absurd (not_taken p facts exact f i h 1 below.0 below.1 (long_plain below.0 below.2) there)), (tt, tt))
      (λ l unwritten. unwritten_two (k == l) (k + 1 == l) unwritten) (omega arith)

  pub store_obeys : (r : Reg) (k : ℕ) (h : AtInsn p facts f (insn.Store r k)) → Owes p facts exact f (insn.Store r k) h (store_effect r k)
  store_obeys reg.Int k h = store_int k h
  store_obeys reg.Long k h = store_long k h
  store_obeys reg.Ref k h = store_reference k h

  -- ---- moves

  -- the row of pairs that moves a word to its copy
  moved_has : (gives : List ℕ) (q n : ℕ) → slice_get gives q ≡ Some n
      → (m : ℕ) × (q + suc m ≡ length gives) × Contains (pairs.moved_words gives) (pairs.Taken n, pairs.Given m)
  moved_has [] q n h = absurd (cc)
  moved_has (g ∷ gives) zero n h =
      let same : g ≡ n = same_Some g n h in
      (length gives, omega arith, (0, omega arith, ap (λ i. (pairs.Taken i, pairs.Given (length gives))) same))
  moved_has (g ∷ gives) (suc q) n h =
      let rest : (m : ℕ) × (q + suc m ≡ length gives) × Contains (pairs.moved_words gives) (pairs.Taken n, pairs.Given m) = moved_has gives q n h in
      let place : q + suc rest.0 ≡ length gives = rest.1 in
      let within : rest.2.0 < length (pairs.moved_words gives) = rest.2.1 in
      (rest.0, omega arith, (suc rest.2.0, omega arith, rest.2.2))

  moves_obey : (i : Insn) (h : AtInsn p facts f i) (m : Moves) → ((k : ℕ) → stores_over k i ≡ false) → falls_through i ≡ true
      → pairs.words_taken p.outline (used p facts exact f i h) i ≡ m.takes → pairs.joined_by p.outline (used p facts exact f i h) i ≡ pairs.moved_words m.gives
      → Owes p facts exact f i h (words m.takes (map OfOperand m.gives))
  moves_obey i h m keeps falls takes joins =
      let e : Effect = words m.takes (map OfOperand m.gives) in
      goes_obey p facts exact f i h e 0 tt falls tt
      (λ next edge q s at node.
      let found : (n : ℕ) × (slice_get m.gives q ≡ Some n) × (OfOperand n ≡ s) = map_found OfOperand m.gives q s at in
      let pair : (k : ℕ) × (q + suc k ≡ length m.gives) × Contains (pairs.moved_words m.gives) (pairs.Taken found.0, pairs.Given k) =
      moved_has m.gives q found.0 found.1 in
      let size : length (map OfOperand m.gives) ≡ length m.gives = simp length-map in
      let place : q + suc pair.0 ≡ length (map OfOperand m.gives) = pair.1 ∙ sym size in
      subst (λ t. ComesFrom (point p facts exact f i h) 0 (facts.class f.method (given (point p facts exact f i h) e next q)) t) found.2
      (λ there. joined_class p facts exact f i h (pairs.Taken found.0) (pairs.Given pair.0) (word (point p facts exact f i h) found.0)
      (given (point p facts exact f i h) e next q)
      (subst (λ rows. Contains rows (pairs.Taken found.0, pairs.Given pair.0)) (sym joins) pair.2)
      (taken_word p facts exact f i h found.0) (given_stands p facts exact f i h e next q pair.0 edge (sym takes) place) there node))
      tt (λ k unwritten. keeps k) (omega (arith, takes))

  pub move_obeys : (i : Insn) (h : AtInsn p facts f i) (m : Moves) → moves_of i ≡ Some m → ((k : ℕ) → stores_over k i ≡ false) → falls_through i ≡ true
      → pairs.words_taken p.outline (used p facts exact f i h) i ≡ m.takes → pairs.joined_by p.outline (used p facts exact f i h) i ≡ pairs.moved_words m.gives
      → Owes p facts exact f i h (move_effect i)
  unfolding move_effect
  move_obeys i h m is keeps falls takes joins =
      subst (λ found. Owes p facts exact f i h (moved_words found)) (sym is) (moves_obey i h m keeps falls takes joins)
