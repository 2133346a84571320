-- A frame that goes on at an item is coloured there, by what the item's effect owes to the classes.
use Rattle.std.proofs.Common.{◌≡◌, ℕ, zero, suc, ◌+◌, ◌-◌, ◌<◌, ◌≤◌, ◌⊎◌, ◌||◌, true, false, cond, List, [], ◌∷◌, ◌++◌, length, drop, Some, refl, sym, ◌∙◌, ap, subst, inl, inr, map, nat_lt, slice_get, slice_set, slice_index_or, arith, ne_eqb, ⊎_elim, length-append, length-drop}
use Rattle.std.proofs.lemmas.List.{length-map}
use Rattle.std.specs.List.{AllByRecursion}
use Rattle.std.proofs.lemmas.Bool.Decides.{nat_tests}
use Rattle.std.proofs.lemmas.Option.{same_Some, slice_get_within}
use Rattle.fm_base.proofs.ListFacts.{AllByRecursion-at}
use Rattle.fm_cells.specs.Soundness.{IsOrderly}
use Rattle.fm_cells.specs.Stores.{Store}
use Rattle.fm_code.specs.declared.code_array.Code.{Code}
use Rattle.fm_conn.specs.Facts.{Facts}
use Rattle.fm_conn.specs.Nodes.{IsNode, Local, Node, Slot}
use Rattle.fm_world.specs.Programs.{Outline, Program}
use Rattle.fm_frames.specs.Acts.{Sources, value_of}
use Rattle.fm_frames.specs.Effects.{Effect, Source, Plain, OfOperand, LocalPlus}
use Rattle.fm_frames.specs.States.{Areas, Frame}
use Rattle.fm_frames.specs.Steps as steps
use Rattle.fm_frames.specs.declared.values.Value.{Value}
use Rattle.fm_same.specs.Advances.{point_of}
use Rattle.fm_same.specs.Colours.{AreAreasColoured, AreFramesColoured, Colour, HasColour, IsEdgeEven, IsFrameColoured, IsOf, node_of_word, OfNull}
use Rattle.fm_same.specs.Evenness.{given, GoesOn, is_written, Point, WritesFrom}
use Rattle.fm_same.specs.Regions.{Region, region}
use Rattle.fm_law_sound.specs.Placing.{ReadAgrees}
use Rattle.fm_law_sound.specs.Sound.{IsReference}
use Rattle.fm_same.specs.Standing.{Goes, method_of, StandsAt}
use Rattle.fm_same.proofs.ActsKeep.{Went}
use Rattle.fm_same.proofs.SourcesKeep.{has_if_reference, source_gives}
use Rattle.fm_same.proofs.StoreChanges.{Agree, Extends, extends-refl, has-agree, has-later, is_of-agree, set_found}

-- ---- lists

pub append_found : {X : Type 0} (xs ys : List X) (n : ℕ) (v : X) → slice_get (xs ++ ys) n ≡ Some v
    → ((n < length xs) × (slice_get xs n ≡ Some v)) ⊎ ((m : ℕ) × (n ≡ length xs + m) × (slice_get ys m ≡ Some v))
append_found [] ys n v h = inr (n, omega arith, h)
append_found (x ∷ xs) ys zero v h = inl (omega arith, h)
append_found (x ∷ xs) ys (suc n) v h = ⊎_elim
    (λ front. let lt : n < length xs = front.0 in inl (omega arith, front.1))
    (λ back. let is : n ≡ length xs + back.0 = back.1 in inr (back.0, omega arith, back.2))
    (append_found xs ys n v h)

pub map_found : {X Y : Type 0} (f : X → Y) (xs : List X) (n : ℕ) (v : Y) → slice_get (map f xs) n ≡ Some v
    → (x : X) × (slice_get xs n ≡ Some x) × (f x ≡ v)
map_found f [] n v h = absurd (cc)
map_found f (x ∷ xs) zero v h = (x, refl, same_Some (f x) v h)
map_found f (x ∷ xs) (suc n) v h = map_found f xs n v h

pub drop_found : {X : Type 0} (t : ℕ) (xs : List X) (m : ℕ) (v : X) → slice_get (drop t xs) m ≡ Some v → slice_get xs (t + m) ≡ Some v
drop_found zero xs m v h = let same : m ≡ 0 + m = omega arith in subst (λ i. slice_get xs i ≡ Some v) same h
drop_found (suc t) [] m v h = absurd (cc)
drop_found (suc t) (x ∷ xs) m v h =
    let same : suc (t + m) ≡ suc t + m = omega arith in subst (λ i. slice_get (x ∷ xs) i ≡ Some v) same (drop_found t xs m v h)

-- a local is what is written into it, or as it was
written_found : (P : ℕ → Source → Type 0) (from : Sources) (writes : List (ℕ × Source)) (locals : List Value) (k : ℕ) (v : Value)
    → AllByRecursion (λ (w : ℕ × Source). P w.0 w.1) writes → slice_get (steps.written from writes locals) k ≡ Some v
    → ((s : Source) × P k s × (value_of from s ≡ v)) ⊎ ((is_written k writes ≡ false) × (slice_get locals k ≡ Some v))
written_found P from [] locals k v all h = inr (refl, h)
written_found P from (w ∷ writes) locals k v all h = ⊎_elim
    (λ found. inl found)
    (λ kept. ⊎_elim
    (λ here. inl (w.1, subst (λ i. P i w.1) here.0 all.0, here.1))
    (λ there. inr (ap (λ b. b || is_written k writes) (ne_eqb w.0 k there.0) ∙ kept.0, there.1))
    (set_found locals w.0 (value_of from w.1) k v kept.1))
    (written_found P from writes (slice_set locals w.0 (value_of from w.1)) k v all.1 h)

-- ---- colours of frames and areas that stay

pub frame-later : (o : Outline) (facts : Facts) (store later : Store) (colour : Colour) (f : Frame) (callers : List Frame) → Extends store later
    → IsFrameColoured o facts store colour f callers → IsFrameColoured o facts later colour f callers
frame-later o facts store later colour f callers more h = record {
  locals = λ k v at live. has-later store later colour (region o facts f.method callers (facts.class f.method (Local k))) v more (h.locals k v at live);
  words = λ n v at. has-later store later colour (region o facts f.method callers (facts.class f.method (node_of_word f n))) v more (h.words n v at);
}

pub frames-later : (o : Outline) (facts : Facts) (store later : Store) (colour : Colour) (frames : List Frame) → Extends store later
    → AreFramesColoured o facts store colour frames → AreFramesColoured o facts later colour frames
frames-later o facts store later colour [] more h = tt
frames-later o facts store later colour (f ∷ callers) more h =
    (frame-later o facts store later colour f callers more h.0, frames-later o facts store later colour callers more h.1)

pub frames-agree : (o : Outline) (facts : Facts) (store : Store) (colour other : Colour) (frames : List Frame) → IsOrderly store
    → Agree store colour other → AreFramesColoured o facts store colour frames → AreFramesColoured o facts store other frames
frames-agree o facts store colour other [] orderly agree h = tt
frames-agree o facts store colour other (f ∷ callers) orderly agree h = (
  record {
    locals = λ k v at live.
        has-agree store colour other (region o facts f.method callers (facts.class f.method (Local k))) v orderly agree (h.0.locals k v at live);
    words = λ n v at.
        has-agree store colour other (region o facts f.method callers (facts.class f.method (node_of_word f n))) v orderly agree (h.0.words n v at);
  },
  frames-agree o facts store colour other callers orderly agree h.1,
)

pub areas-agree : (o : Outline) (x : Areas) (colour other : Colour) → Agree x.store colour other → AreAreasColoured o colour x → AreAreasColoured o other x
areas-agree o x colour other agree h = record {
  orderly = h.orderly;
  statics = λ slot v at. has-agree x.store colour other _ v h.orderly agree (h.statics slot v at);
  edges = λ cell object held place t is.
      let edge : IsEdgeEven x.store colour object place = h.edges cell object held place t is in
      record {
        not_fixed = edge.not_fixed;
        even = subst (λ r. IsOf x.store other r (slice_index_or object.elements place 0)) (sym (agree object.birth (h.orderly.born cell object held)))
            (is_of-agree x.store colour other (colour object.birth) (slice_index_or object.elements place 0) h.orderly agree edge.even);
      };
  literals = h.literals;
}

-- ---- what is born gets a region

abbrev pub grown : Store → Region → Colour → Colour
grown store r colour birth = cond (nat_lt birth store.births) (colour birth) r

pub grown_agrees : (store : Store) (r : Region) (colour : Colour) → Agree store colour (grown store r colour)
grown_agrees store r colour birth lt = grind (arith, nat_tests)

pub grown_new : (store : Store) (r : Region) (colour : Colour) (birth : ℕ) → store.births ≤ birth → grown store r colour birth ≡ r
grown_new store r colour birth le = grind (arith, nat_tests)

pub went_first : (o : Outline) (colour : Colour) (home : Region) (x : Areas) → AreAreasColoured o colour x → Went o x.store colour home x []
went_first o colour home x h = record {
  areas = h;
  extends = extends-refl x.store;
  made = λ n. OfNull refl;
  still = λ cell object held not_fixed retired. held;
}

-- ---- a frame that goes on

pub same_node : (p : Program) (facts : Facts) (f : Frame) (code other : Code) (a : Node) → other ≡ code → IsNode (method_of p facts f other) a
    → IsNode (method_of p facts f code) a
same_node p facts f code other a same h = subst (λ c. IsNode (method_of p facts f c) a) same h

module _ (p : Program) (facts : Facts) (f : Frame) (callers : List Frame) (at : StandsAt p facts f) (store : Store) (colour : Colour) (coloured : IsFrameColoured p.outline facts store colour f callers) (home : ℕ) (y : Areas) (made : List ℕ) (gone : Went p.outline store colour (region p.outline facts f.method callers home) y made) (e : Effect) (next : ℕ) (owes : GoesOn (point_of p facts f at.code) home e next) (reads : AllByRecursion (ReadAgrees p.outline store f.stack) e.gives) where
  abbrev from : Sources
  from = record { locals = f.locals; stack = f.stack; areas = y; made = made }

  abbrev point : Point
  point = point_of p facts f at.code

  abbrev frame : Frame
  frame = steps.went from e f next

  abbrev region_in : ℕ → Region
  region_in class = region p.outline facts f.method callers class

  writes_has : (class : ℕ) (s : Source) → WritesFrom point class s → HasColour y.store colour (region_in class) (value_of from s)
  writes_has class (Plain v) h = source_gives p facts f callers at store colour coloured home y made gone class (Plain v) h h
  writes_has class (OfOperand n) h = source_gives p facts f callers at store colour coloured home y made gone class (OfOperand n) h tt
  writes_has class (LocalPlus k by) h = source_gives p facts f callers at store colour coloured home y made gone class (LocalPlus k by) h tt
  writes_has class other h = absurd h

  local_goes : (k : ℕ) (v : Value) → slice_get frame.locals k ≡ Some v → facts.live f.method k next ≡ true
      → HasColour y.store colour (region_in (facts.class f.method (Local k))) v
  local_goes k v found live = ⊎_elim
      (λ written. subst (λ w. HasColour y.store colour (region_in (facts.class f.method (Local k))) w) written.2
      (writes_has (facts.class f.method (Local k)) written.0 written.1))
      (λ kept. has-later store y.store colour (region_in (facts.class f.method (Local k))) v gone.extends
      (coloured.locals k v kept.1 (owes.lives k live kept.0)))
      (written_found (λ i s. WritesFrom point (facts.class f.method (Local i)) s) from e.writes f.locals k v owes.writes found)

  depth_is : length frame.stack ≡ length e.gives + (length f.stack - e.takes)
  depth_is = simp (length-append, length-map, length-drop)

  node_is : (n : ℕ) → node_of_word frame n ≡ given point e next n
  node_is n = ap (λ depth. Slot next (depth - 1 - n)) depth_is

  given_goes : (n : ℕ) (v : Value) (s : Source) → slice_get e.gives n ≡ Some s → value_of from s ≡ v → (IsReference v → IsNode point.method (given point e next n))
      → HasColour y.store colour (region_in (facts.class f.method (given point e next n))) v
  given_goes n v s is same node =
      has_if_reference y.store colour (region_in (facts.class f.method (given point e next n))) v
      (λ leads. subst (λ w. HasColour y.store colour (region_in (facts.class f.method (given point e next n))) w) same
      (source_gives p facts f callers at store colour coloured home y made gone (facts.class f.method (given point e next n)) s
      (owes.gives n s is (node leads)) (AllByRecursion-at (ReadAgrees p.outline store f.stack) e.gives n s reads is)))

  stays_goes : (n m : ℕ) (v : Value) → n ≡ length e.gives + m → slice_get f.stack (e.takes + m) ≡ Some v
      → (IsReference v → IsNode point.method (given point e next n))
      → HasColour y.store colour (region_in (facts.class f.method (given point e next n))) v
  stays_goes n m v is found node =
      let within : e.takes + m < length f.stack = slice_get_within f.stack (e.takes + m) v found in
      let depth : ℕ = length f.stack - 1 - (e.takes + m) in
      let below : depth + e.takes < length f.stack = omega arith in
      let level : length e.gives + (length f.stack - e.takes) - 1 - n ≡ depth = omega arith in
      has_if_reference y.store colour (region_in (facts.class f.method (given point e next n))) v
      (λ leads.
      let new_node : IsNode point.method (Slot next depth) = subst (λ d. IsNode point.method (Slot next d)) level (node leads) in
      let same : point.class (Slot f.item depth) ≡ point.class (Slot next depth) =
      owes.stays depth below (at.is_node (e.takes + m) v found leads) new_node in
      subst (λ c. HasColour y.store colour (region_in c) v) (same ∙ ap (λ d. facts.class f.method (Slot next d)) (sym level))
      (has-later store y.store colour (region_in (facts.class f.method (Slot f.item depth))) v gone.extends (coloured.words (e.takes + m) v found)))

  word_goes : Goes p facts frame → (n : ℕ) (v : Value) → slice_get frame.stack n ≡ Some v
      → HasColour y.store colour (region_in (facts.class f.method (node_of_word frame n))) v
  word_goes stands n v found =
      let code : stands.at.code ≡ at.code = same_Some stands.at.code at.code (sym stands.at.code_is ∙ at.code_is) in
      let node : IsReference v → IsNode point.method (given point e next n) =
      λ leads. subst (λ a. IsNode point.method a) (node_is n)
      (same_node p facts f at.code stands.at.code (node_of_word frame n) code (stands.at.is_node n v found leads)) in
      subst (λ a. HasColour y.store colour (region_in (facts.class f.method a)) v) (sym (node_is n))
      (⊎_elim
      (λ front. let s : (x : Source) × (slice_get e.gives n ≡ Some x) × (value_of from x ≡ v) = map_found (value_of from) e.gives n v front.1 in
      given_goes n v s.0 s.1 s.2 node)
      (λ back. let is : length (map (value_of from) e.gives) ≡ length e.gives = simp length-map in
      let place : n ≡ length (map (value_of from) e.gives) + back.0 = back.1 in
      stays_goes n back.0 v (omega arith) (drop_found e.takes f.stack back.0 v back.2) node)
      (append_found (map (value_of from) e.gives) (drop e.takes f.stack) n v found))

  -- the frame is coloured at the item where it goes on
  pub frame_goes : Goes p facts frame → IsFrameColoured p.outline facts y.store colour frame callers
  frame_goes stands = record { locals = local_goes; words = word_goes stands }
