-- A return keeps the colours of the frames below: where the result's class has a region of its own, all that is of it goes over to the region of the word
-- that the caller gets.
use Rattle.std.proofs.Common.{◌≡◌, ◌≢◌, ℕ, zero, suc, ◌+◌, ◌-◌, ◌<◌, ◌≤◌, ◌⊎◌, ◌==◌, ◌&&◌, Bool, true, false, cond, List, [], ◌∷◌, ◌++◌, length, take, Some, refl, sym, ◌∙◌, ap, subst, inl, inr, slice_get, slice_index_or, arith, eq-eqb, ne_eqb, ⊎_elim, length-append}
use Rattle.std.proofs.lemmas.Bool.{cases_eq, false≢true}
use Rattle.std.proofs.lemmas.Option.{same_Some, slice_get_within}
use Rattle.fm_cells.specs.Stores.{Store}
use Rattle.fm_code.specs.Edges.{IsNormalEdge}
use Rattle.fm_conn.specs.Facts.{AreFacts, Facts}
use Rattle.fm_conn.specs.Links.{Linked}
use Rattle.fm_conn.specs.Nodes.{IsNode, Local, Return, Slot}
use Rattle.fm_conn.specs.Pairs.{IsEnd, PairAt}
use Rattle.fm_conn.specs.declared.ends.End2.TheVariants as end
use Rattle.fm_world.specs.Programs.{Outline, Program}
use Rattle.fm_frames.specs.States.{Areas, Frame}
use Rattle.fm_frames.specs.declared.values.Value.{Value}
use Rattle.fm_frames.specs.declared.values.Value.TheVariants as value
use Rattle.fm_same.specs.Advances.{Advances, Lowers}
use Rattle.fm_same.specs.Colours.{AreAreasColoured, AreFramesColoured, Colour, HasColour, IsEdgeEven, IsFrameColoured, node_of_word}
use Rattle.fm_same.specs.Laws.{IsWithin}
use Rattle.fm_same.specs.Regions.{Everywhere, Given, Own, Region, region, Retired}
use Rattle.fm_law_sound.specs.Sound.{IsReference}
use Rattle.fm_same.specs.Standing.{Called, Goes, method_of, StandsAt}
use Rattle.fm_same.proofs.CallRegions.{region_return, state_found}
use Rattle.fm_same.proofs.EdgesKeep.{call_falls, call_keeps, edge_to_next, item_with_state, live_before}
use Rattle.fm_same.proofs.GoesOnKeep.{append_found, same_node}
use Rattle.fm_same.proofs.LinkedClasses.{same_class_if_paired}
use Rattle.fm_same.proofs.RegionLemmas.{region_within}
use Rattle.fm_same.proofs.SourcesKeep.{has_if_reference}
use Rattle.fm_same.proofs.StoreChanges.{has-mapped, is_of-mapped}

-- ---- one region goes over to another

-- an own region becomes another one
abbrev pub moved : (depth class : ℕ) → Region → Region → Region
moved depth class to Everywhere = Everywhere
moved depth class to Given = Given
moved depth class to (Own d c) = cond ((d == depth) && (c == class)) to (Own d c)
moved depth class to Retired = Retired

both_equal : (a b : Bool) (one other : Region) → a ≡ true → b ≡ true → cond (a && b) one other ≡ one
both_equal true true one other first second = refl
both_equal true false one other first second = absurd (false≢true second)
both_equal false b one other first second = absurd (false≢true first)

first_apart : (a b : Bool) (one other : Region) → a ≡ false → cond (a && b) one other ≡ other
first_apart true b one other first = absurd (false≢true (sym first))
first_apart false b one other first = refl

second_apart : (a b : Bool) (one other : Region) → b ≡ false → cond (a && b) one other ≡ other
second_apart true true one other second = absurd (false≢true (sym second))
second_apart true false one other second = refl
second_apart false b one other second = refl

pub moved_own : (depth class : ℕ) (to : Region) → moved depth class to (Own depth class) ≡ to
moved_own depth class to =
    both_equal (depth == depth) (class == class) to (Own depth class) (eq-eqb depth depth refl) (eq-eqb class class refl)

pub moved_below : (depth class : ℕ) (to : Region) (lower other : ℕ) (r : Region) → lower < depth → IsWithin lower other r → moved depth class to r ≡ r
moved_below depth class to lower other Everywhere lt h = refl
moved_below depth class to lower other Given lt h = refl
moved_below depth class to lower other (Own d c) lt h =
    let le : d ≤ lower = h.below d c refl in
    let apart : d ≢ depth = λ same. absurd (omega arith) in
    first_apart (d == depth) (c == class) to (Own d c) (ne_eqb d depth apart)
moved_below depth class to lower other Retired lt h = refl

abbrev pub mapped : (Region → Region) → Colour → Colour
mapped f colour birth = f (colour birth)

-- a frame whose regions stay
pub frame-mapped : (o : Outline) (facts : Facts) (store : Store) (colour : Colour) (f : Region → Region) (g : Frame) (callers : List Frame)
    → ((class : ℕ) → f (region o facts g.method callers class) ≡ region o facts g.method callers class)
    → IsFrameColoured o facts store colour g callers → IsFrameColoured o facts store (mapped f colour) g callers
frame-mapped o facts store colour f g callers stays h = record {
  locals = λ k v at live.
      subst (λ r. HasColour store (mapped f colour) r v) (stays (facts.class g.method (Local k)))
      (has-mapped store colour f (region o facts g.method callers (facts.class g.method (Local k))) v (h.locals k v at live));
  words = λ n v at.
      subst (λ r. HasColour store (mapped f colour) r v) (stays (facts.class g.method (node_of_word g n)))
      (has-mapped store colour f (region o facts g.method callers (facts.class g.method (node_of_word g n))) v (h.words n v at));
}

-- all frames that have no more than `depth` others below them, where only own regions of deeper
-- frames change
pub frames-mapped : (o : Outline) (facts : Facts) (store : Store) (colour : Colour) (f : Region → Region) (depth : ℕ)
    → ((lower class : ℕ) (r : Region) → lower < depth → IsWithin lower class r → f r ≡ r) → (frames : List Frame) → length frames ≤ depth
    → AreFramesColoured o facts store colour frames → AreFramesColoured o facts store (mapped f colour) frames
frames-mapped o facts store colour f depth stays [] le h = tt
frames-mapped o facts store colour f depth stays (g ∷ callers) le h =
    let lt : length callers < depth = omega arith in
    let below : length callers ≤ depth = omega arith in (
      frame-mapped o facts store colour f g callers
          (λ class. stays (length callers) class (region o facts g.method callers class) lt (region_within o facts g.method callers class)) h.0,
      frames-mapped o facts store colour f depth stays callers below h.1,
    )

pub areas-mapped : (o : Outline) (colour : Colour) (f : Region → Region) (x : Areas) → f Everywhere ≡ Everywhere → AreAreasColoured o colour x
    → AreAreasColoured o (mapped f colour) x
areas-mapped o colour f x stays h = record {
  orderly = h.orderly;
  statics = λ slot v at.
      subst (λ r. HasColour x.store (mapped f colour) r v) stays (has-mapped x.store colour f Everywhere v (h.statics slot v at));
  edges = λ cell object held place t is.
      let edge : IsEdgeEven x.store colour object place = h.edges cell object held place t is in
      record {
        not_fixed = edge.not_fixed;
        even = is_of-mapped x.store colour f (colour object.birth) (slice_index_or object.elements place 0) edge.even;
      };
  literals = h.literals;
}

-- a region is another one's or stays
pub moved_cases : (depth class : ℕ) (to r : Region) → (moved depth class to r ≡ r) ⊎ (r ≡ Own depth class)
moved_cases depth class to Everywhere = inl refl
moved_cases depth class to Given = inl refl
moved_cases depth class to (Own d c) = ⊎_elim
    (λ (same_depth : d ≡ depth). ⊎_elim
    (λ (same_class : c ≡ class). inr (ap (λ x. Own x c) same_depth ∙ ap (λ x. Own depth x) same_class))
    (λ (apart : c ≢ class). inl (second_apart (d == depth) (c == class) to (Own d c) (ne_eqb c class apart)))
    (cases_eq c class))
    (λ (apart : d ≢ depth). inl (first_apart (d == depth) (c == class) to (Own d c) (ne_eqb d depth apart)))
    (cases_eq d depth)
moved_cases depth class to Retired = inl refl

-- ---- lists

take_found : {X : Type 0} (n : ℕ) (xs : List X) (q : ℕ) (v : X) → slice_get (take n xs) q ≡ Some v → (q < n) × (slice_get xs q ≡ Some v)
take_found zero xs q v h = absurd (cc)
take_found (suc n) [] q v h = absurd (cc)
take_found (suc n) (x ∷ xs) zero v h = (omega arith, h)
take_found (suc n) (x ∷ xs) (suc q) v h =
    let rest : (q < n) × (slice_get xs q ≡ Some v) = take_found n xs q v h in
    let lt : q < n = rest.0 in (omega arith, rest.1)

first_given : {X : Type 0} (n : ℕ) (xs ys : List X) (v : X) → n ≡ 1 → slice_get xs 0 ≡ Some v
    → (slice_get (take n xs ++ ys) 0 ≡ Some v) × (length (take n xs) ≡ 1)
first_given zero xs ys v one h = absurd (omega arith)
first_given (suc n) [] ys v one h = absurd (cc)
first_given (suc n) (x ∷ xs) ys v one h =
    let none : n ≡ 0 = omega arith in (h, ap (λ k. length (take (suc k) (x ∷ xs))) none)

reference_or_not : (v : Value) → IsReference v ⊎ (IsReference v → ⊥)
reference_or_not value.Top = inr (λ h. h)
reference_or_not (value.Int n) = inr (λ h. h)
reference_or_not (value.Long n) = inr (λ h. h)
reference_or_not (value.Ref cell) = inl tt

-- whether the first word is a reference
first_of : (words : List Value) → ((v : Value) × (slice_get words 0 ≡ Some v) × IsReference v) ⊎ ((v : Value) → slice_get words 0 ≡ Some v → IsReference v → ⊥)
first_of [] = inr (λ v is leads. absurd (cc))
first_of (x ∷ words) = ⊎_elim
    (λ leads. inl (x, refl, leads))
    (λ none. inr (λ v is leads. none (subst IsReference (sym (same_Some x v is)) leads)))
    (reference_or_not x)

-- ---- a return

pub record ReturnIsColoured (p : Program) (facts : Facts) (before : List Frame) (colour : Colour) (births : ℕ) (frames : List Frame) (areas : Areas) : Type 0 where
  pub other : Colour
  pub frames_coloured : AreFramesColoured p.outline facts areas.store other frames
  pub areas_coloured : AreAreasColoured p.outline other areas
  pub advances : Advances facts before colour other births
  pub lowers : Lowers before colour other births

module _ (p : Program) (facts : Facts) (exact : AreFacts p facts) (f g : Frame) (callers : List Frame) (at : StandsAt p facts f) (h : Called p facts f g) (areas : Areas) (colour : Colour) (frame_f : IsFrameColoured p.outline facts areas.store colour f (g ∷ callers)) (frame_g : IsFrameColoured p.outline facts areas.store colour g callers) (below : AreFramesColoured p.outline facts areas.store colour callers) (shared : AreAreasColoured p.outline colour areas) (n : ℕ) (evenly : (q : ℕ) → q < n → IsNode (method_of p facts f at.code) (node_of_word f q) → (facts.class f.method (node_of_word f q) ≡ facts.class f.method Return) × IsEnd p.outline f.method end.Return × (n ≡ 1)) where
  -- the caller, with the result on top
  abbrev pub resumed : Frame
  resumed = record g { item = g.item + 1; stack = take n f.stack ++ g.stack }

  abbrev region_f : ℕ → Region
  region_f class = region p.outline facts f.method (g ∷ callers) class

  abbrev region_g : ℕ → Region
  region_g class = region p.outline facts g.method callers class

  module _ (stands : Goes p facts resumed) where
    edge : IsNormalEdge h.at.code g.item (g.item + 1)
    edge =
        edge_to_next h.at.code g.item h.at.insn h.at.insn_is
        (call_falls (method_of p facts g h.at.code) h.at.insn h.call h.call_is)
        (item_with_state p facts exact g.method h.at.code h.at.code_is (g.item + 1) stands.at.state stands.at.state_is)

    same_code : stands.at.code ≡ h.at.code
    same_code = same_Some stands.at.code h.at.code (sym stands.at.code_is ∙ h.at.code_is)

    node_later : (i : ℕ) (v : Value) → slice_get resumed.stack i ≡ Some v → IsReference v
        → IsNode (method_of p facts g h.at.code) (node_of_word resumed i)
    node_later i v found leads =
        same_node p facts g h.at.code stands.at.code (node_of_word resumed i) same_code (stands.at.is_node i v found leads)

    -- a word of the caller stays
    stay_pair : (depth : ℕ) → depth < length g.stack → IsNode (method_of p facts g h.at.code) (Slot g.item depth)
        → IsNode (method_of p facts g h.at.code) (Slot (g.item + 1) depth)
        → PairAt (Linked p facts.typing) (method_of p facts g h.at.code) g.item (Slot g.item depth) (Slot (g.item + 1) depth)
    stay_pair depth lt first second = record {
      insn = h.at.insn;
      is = h.at.insn_is;
      reachable = state_found (facts.typing g.method) g.item h.at.state h.at.state_is;
      first = first;
      second = second;
      paired = inl (record {
        depth = depth;
        next = g.item + 1;
        below = let level = h.depth in omega (arith, level);
        edge = edge;
        before = refl;
        after = refl;
      });
    }

    depth_is : length resumed.stack ≡ length (take n f.stack) + length g.stack
    depth_is = length-append (take n f.stack) g.stack

    -- what the caller holds, where regions become others
    module _ (m : Region → Region) (stays : (class : ℕ) → m (region_g class) ≡ region_g class) (result : (q : ℕ) (v : Value) → slice_get (take n f.stack) q ≡ Some v → IsReference v → HasColour areas.store (mapped m colour) (region_g (facts.class g.method (node_of_word resumed q))) v) where
      stay_coloured : (i k : ℕ) (v : Value) → i ≡ length (take n f.stack) + k → slice_get g.stack k ≡ Some v
          → (IsReference v → IsNode (method_of p facts g h.at.code) (node_of_word resumed i))
          → HasColour areas.store (mapped m colour) (region_g (facts.class g.method (node_of_word resumed i))) v
      stay_coloured i k v is found node =
          let within : k < length g.stack = slice_get_within g.stack k v found in
          let count : length resumed.stack ≡ length (take n f.stack) + length g.stack = depth_is in
          let depth : ℕ = length g.stack - 1 - k in
          let lt : depth < length g.stack = omega arith in
          let level : length resumed.stack - 1 - i ≡ depth = omega arith in
          has_if_reference areas.store (mapped m colour) (region_g (facts.class g.method (node_of_word resumed i))) v
          (λ leads.
          let old_node : IsNode (method_of p facts g h.at.code) (Slot g.item depth) = h.at.is_node k v found leads in
          let new_node : IsNode (method_of p facts g h.at.code) (Slot (g.item + 1) depth) =
          subst (λ d. IsNode (method_of p facts g h.at.code) (Slot (g.item + 1) d)) level (node leads) in
          let same : facts.class g.method (Slot g.item depth) ≡ facts.class g.method (Slot (g.item + 1) depth) =
          same_class_if_paired p facts exact g.method h.at.code h.at.code_is g.item (Slot g.item depth) (Slot (g.item + 1) depth)
          (stay_pair depth lt old_node new_node) in
          subst (λ c. HasColour areas.store (mapped m colour) (region_g c) v)
          (same ∙ ap (λ d. facts.class g.method (Slot (g.item + 1) d)) (sym level))
          (subst (λ r. HasColour areas.store (mapped m colour) r v) (stays (facts.class g.method (Slot g.item depth)))
          (has-mapped areas.store colour m (region_g (facts.class g.method (Slot g.item depth))) v (frame_g.words k v found))))

      resumed_coloured : IsFrameColoured p.outline facts areas.store (mapped m colour) resumed callers
      resumed_coloured = record {
        locals = λ k v found live.
            subst (λ r. HasColour areas.store (mapped m colour) r v) (stays (facts.class g.method (Local k)))
            (has-mapped areas.store colour m (region_g (facts.class g.method (Local k))) v
            (frame_g.locals k v found
            (live_before p facts exact g.method h.at.code h.at.code_is g.item (g.item + 1) k h.at.insn h.at.insn_is (inl edge)
            (call_keeps (method_of p facts g h.at.code) h.at.insn h.call h.call_is k) live)));
        words = λ i v found. ⊎_elim
            (λ front. has_if_reference areas.store (mapped m colour) (region_g (facts.class g.method (node_of_word resumed i))) v
            (λ leads. result i v front.1 leads))
            (λ back. stay_coloured i back.0 v back.1 back.2 (node_later i v found))
            (append_found (take n f.stack) g.stack i v found);
      }

    -- ---- the result

    -- no word of the result is a reference
    plain_kept : ((q : ℕ) (v : Value) → slice_get (take n f.stack) q ≡ Some v → IsReference v → ⊥)
        → ReturnIsColoured p facts (f ∷ g ∷ callers) colour areas.store.births (resumed ∷ callers) areas
    plain_kept none = record {
      other = colour;
      frames_coloured = (resumed_coloured (λ r. r) (λ class. refl) (λ q v found leads. absurd (none q v found leads)), below);
      areas_coloured = shared;
      advances = λ birth lt. inl refl;
      lowers = λ birth lt. inl refl;
    }

    module _ (v : Value) (found : slice_get f.stack 0 ≡ Some v) (leads : IsReference v) (one : n ≡ 1) where
      first_is : (slice_get (take n f.stack ++ g.stack) 0 ≡ Some v) × (length (take n f.stack) ≡ 1)
      first_is = first_given n f.stack g.stack v one found

      only : (q : ℕ) (w : Value) → slice_get (take n f.stack) q ≡ Some w → (w ≡ v) × (node_of_word resumed q ≡ Slot (g.item + 1) (length g.stack))
      only q w at_q =
          let there : (q < n) × (slice_get f.stack q ≡ Some w) = take_found n f.stack q w at_q in
          let lt : q < n = there.0 in
          let zero_is : q ≡ 0 = omega arith in
          let count : length resumed.stack ≡ length (take n f.stack) + length g.stack = depth_is in
          let size : length (take n f.stack) ≡ 1 = first_is.1 in
          let level : length resumed.stack - 1 - q ≡ length g.stack = omega arith in (
            same_Some w v (sym there.1 ∙ ap (λ i. slice_get f.stack i) zero_is ∙ found),
            ap (λ d. Slot (g.item + 1) d) level,
          )

      top_node : IsNode (method_of p facts g h.at.code) (Slot (g.item + 1) (length g.stack))
      top_node =
          let count : length resumed.stack ≡ length (take n f.stack) + length g.stack = depth_is in
          let size : length (take n f.stack) ≡ 1 = first_is.1 in
          let level : length resumed.stack - 1 - 0 ≡ length g.stack = omega arith in
          subst (λ d. IsNode (method_of p facts g h.at.code) (Slot (g.item + 1) d)) level (node_later 0 v first_is.0 leads)

      evenly_first : (facts.class f.method (node_of_word f 0) ≡ facts.class f.method Return) × IsEnd p.outline f.method end.Return × (n ≡ 1)
      evenly_first = evenly 0 (omega arith) (at.is_node 0 v found leads)

      -- the value has the region of the result's class
      has_result : HasColour areas.store colour (region_f (facts.class f.method Return)) v
      has_result = subst (λ c. HasColour areas.store colour (region_f c) v) evenly_first.0 (frame_f.words 0 v found)

      result_to : (m : Region → Region)
          → HasColour areas.store (mapped m colour) (region_g (facts.class g.method (Slot (g.item + 1) (length g.stack)))) v
          → (q : ℕ) (w : Value) → slice_get (take n f.stack) q ≡ Some w → IsReference w
          → HasColour areas.store (mapped m colour) (region_g (facts.class g.method (node_of_word resumed q))) w
      result_to m has q w at_q leads_w =
          let is : (w ≡ v) × (node_of_word resumed q ≡ Slot (g.item + 1) (length g.stack)) = only q w at_q in
          subst (λ x. HasColour areas.store (mapped m colour) (region_g (facts.class g.method (node_of_word resumed q))) x) (sym is.0)
          (subst (λ a. HasColour areas.store (mapped m colour) (region_g (facts.class g.method a)) v) (sym is.1) has)

      same_kept : region_f (facts.class f.method Return) ≡ region_g (facts.class g.method (Slot (g.item + 1) (length g.stack)))
          → ReturnIsColoured p facts (f ∷ g ∷ callers) colour areas.store.births (resumed ∷ callers) areas
      same_kept same = record {
        other = colour;
        frames_coloured = (
          resumed_coloured (λ r. r) (λ class. refl) (result_to (λ r. r) (subst (λ r. HasColour areas.store colour r v) same has_result)),
          below,
        );
        areas_coloured = shared;
        advances = λ birth lt. inl refl;
        lowers = λ birth lt. inl refl;
      }

      own_kept : region_f (facts.class f.method Return) ≡ Own (length (g ∷ callers)) (facts.class f.method Return)
          → ReturnIsColoured p facts (f ∷ g ∷ callers) colour areas.store.births (resumed ∷ callers) areas
      own_kept own =
          let to : Region = region_g (facts.class g.method (Slot (g.item + 1) (length g.stack))) in
          let m : Region → Region = moved (length (g ∷ callers)) (facts.class f.method Return) to in
          let lt : length callers < length (g ∷ callers) = omega arith in
          let has : HasColour areas.store (mapped m colour) to v =
          subst (λ r. HasColour areas.store (mapped m colour) r v)
          (ap m own ∙ moved_own (length (g ∷ callers)) (facts.class f.method Return) to)
          (has-mapped areas.store colour m (region_f (facts.class f.method Return)) v has_result) in
          record {
            other = mapped m colour;
            frames_coloured = (
              resumed_coloured m
                  (λ class. moved_below (length (g ∷ callers)) (facts.class f.method Return) to (length callers) class (region_g class) lt
                  (region_within p.outline facts g.method callers class))
                  (result_to m has),
              frames-mapped p.outline facts areas.store colour m (length callers)
                  (λ lower class r less within. moved_below (length (g ∷ callers)) (facts.class f.method Return) to lower class r (omega arith) within)
                  callers (omega arith) below,
            );
            areas_coloured = areas-mapped p.outline colour m areas refl shared;
            advances = λ birth less. moved_cases (length (g ∷ callers)) (facts.class f.method Return) to (colour birth);
            lowers = λ birth less. ⊎_elim
                (λ same. inl same)
                (λ own_is. inr (λ d class is.
                let le : d ≤ length callers =
                (region_within p.outline facts g.method callers (facts.class g.method (Slot (g.item + 1) (length g.stack)))).below d class
                (sym (ap m own_is ∙ moved_own (length (g ∷ callers)) (facts.class f.method Return) to) ∙ is) in
                omega (arith, le)))
                (moved_cases (length (g ∷ callers)) (facts.class f.method Return) to (colour birth));
          }

      one_kept : ReturnIsColoured p facts (f ∷ g ∷ callers) colour areas.store.births (resumed ∷ callers) areas
      one_kept =
          ⊎_elim same_kept own_kept
          (region_return p facts exact f g at.code at.code_is h callers (g.item + 1) evenly_first.1 edge top_node)

    no_words : n ≡ 0 → (q : ℕ) (v : Value) → slice_get (take n f.stack) q ≡ Some v → IsReference v → ⊥
    no_words none q v found leads = let lt : q < n = (take_found n f.stack q v found).0 in absurd (omega arith)

    no_first : ((v : Value) → slice_get f.stack 0 ≡ Some v → IsReference v → ⊥)
        → (q : ℕ) (v : Value) → slice_get (take n f.stack) q ≡ Some v → IsReference v → ⊥
    no_first none q v found leads =
        let there : (q < n) × (slice_get f.stack q ≡ Some v) = take_found n f.stack q v found in
        let lt : q < n = there.0 in
        let one : n ≡ 1 = (evenly q there.0 (at.is_node q v there.1 leads)).2 in
        let zero_is : q ≡ 0 = omega arith in
        none v (ap (λ i. slice_get f.stack i) (sym zero_is) ∙ there.1) leads

    -- whether the result is a reference or not
    pub return_kept : ReturnIsColoured p facts (f ∷ g ∷ callers) colour areas.store.births (resumed ∷ callers) areas
    return_kept = ⊎_elim
        (λ (none : n ≡ 0). plain_kept (no_words none))
        (λ (some : n ≢ 0). ⊎_elim
        (λ first.
        let lt : 0 < n = omega arith in
        one_kept first.0 first.1 first.2 (evenly 0 lt (at.is_node 0 first.0 first.1 first.2)).2)
        (λ none. plain_kept (no_first none))
        (first_of f.stack))
        (cases_eq n 0)
