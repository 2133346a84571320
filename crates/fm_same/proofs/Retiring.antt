-- A captured class that isn't busy is retired, and what is retired isn't led to any more.
use Rattle.std.proofs.Common.{◌≡◌, ◌≢◌, ℕ, ◌-◌, ◌<◌, ◌≤◌, ◌⊎◌, true, false, List, [], ◌∷◌, length, Some, slice_get, refl, sym, ◌∙◌, ap, subst, inl, inr, slice_index_or, arith, ⊎_elim}
use Rattle.std.specs.Prelude.{is_some}
use Rattle.std.proofs.lemmas.Option.{slice_get_within}
use Rattle.fm_types.specs.Typed.{state_at}
use Rattle.fm_cells.specs.Stores.{Store}
use Rattle.fm_conn.specs.Facts.{Facts}
use Rattle.fm_conn.specs.Nodes.{IsNode, Local, Node, TypedMethod}
use Rattle.fm_world.specs.Programs.{Outline, Program}
use Rattle.fm_frames.specs.Acts.{cell_of}
use Rattle.fm_frames.specs.States.{Areas, Frame, State}
use Rattle.fm_frames.specs.declared.values.Value.{Value}
use Rattle.fm_same.specs.Advances.{GoesOver, IsResult}
use Rattle.fm_same.specs.Colours.{AreAreasColoured, AreFramesColoured, Colour, Coloured, HasColour, IsEdgeEven, IsFrameColoured, IsOf, node_of_word}
use Rattle.fm_same.specs.DeadRegions.{InLocal, InLocalOf, InWord, InWordOf, IsDead, IsHeldAt, IsHeldBy, IsHeldIn, IsMethodAt, IsOver, IsQuiet, IsRoot, IsStep, IsTrail, LeadsTo}
use Rattle.fm_place.specs.Places.{is_busy}
use Rattle.fm_place.specs.Sites.{is_captured}
use Rattle.fm_same.specs.Regions.{Everywhere, Own, Region, region, Retired}
use Rattle.fm_same.specs.Standing.{method_of, Stand, StandsAt}
use Rattle.fm_same.proofs.ActsKeep.{cell_has, object_has}
use Rattle.fm_same.proofs.CapturedClasses.{captured_is_own, quiet_local, quiet_word}
use Rattle.fm_same.proofs.RegionLemmas.{region_within}
use Rattle.fm_same.proofs.ReturnsKeep.{areas-mapped, frames-mapped, mapped, moved, moved_below, moved_cases}
use Rattle.fm_same.proofs.SourcesKeep.{has_if_reference}
use Rattle.fm_same.proofs.StoreChanges.{has-mapped}

-- ---- along trails

-- a step leads within one region
step_of : (o : Outline) (colour : Colour) (x : Areas) (r : Region) (cell next : ℕ) → AreAreasColoured o colour x → IsOf x.store colour r cell
    → IsStep o x.store cell next → IsOf x.store colour r next
step_of o colour x r cell next h is s =
    let edge : IsEdgeEven x.store colour s.object s.place = h.edges cell s.object s.held s.place s.type s.reference in
    let region_is : colour s.object.birth ≡ r = object_has x.store colour r cell s.object h.orderly is s.held edge.not_fixed in
    subst (λ c. IsOf x.store colour r c) s.leads
    (subst (λ q. IsOf x.store colour q (slice_index_or s.object.elements s.place 0)) region_is edge.even)

trail_of : (o : Outline) (colour : Colour) (x : Areas) (r : Region) (cell : ℕ) (trail : List ℕ) (last : ℕ) → AreAreasColoured o colour x
    → IsOf x.store colour r cell → IsTrail o x.store cell trail last → IsOf x.store colour r last
trail_of o colour x r cell [] last h is t = subst (λ c. IsOf x.store colour r c) t is
trail_of o colour x r cell (next ∷ rest) last h is t =
    trail_of o colour x r next rest last h (step_of o colour x r cell next h is t.0) t.1

-- what a value leads to has its region
pub led_has : (o : Outline) (colour : Colour) (x : Areas) (r : Region) (v : Value) (birth : ℕ) → AreAreasColoured o colour x → HasColour x.store colour r v
    → LeadsTo o x.store v birth → colour birth ≡ r
led_has o colour x r v birth h has l =
    ap colour (sym l.is)
    ∙ object_has x.store colour r l.last l.object h.orderly
    (trail_of o colour x r (cell_of v) l.trail l.last h (cell_has x.store colour r v has) l.follows) l.held l.not_fixed

-- ---- what a frame holds

held_has : (o : Outline) (facts : Facts) (store : Store) (colour : Colour) (f : Frame) (callers : List Frame) (v : Value)
    → IsFrameColoured o facts store colour f callers → IsHeldBy facts f v
    → (node : Node) × HasColour store colour (region o facts f.method callers (facts.class f.method node)) v
held_has o facts store colour f callers v h (InLocal k at live) = (Local k, h.locals k v at live)
held_has o facts store colour f callers v h (InWord n at) = (node_of_word f n, h.words n v at)

-- a root has a region that isn't that of what is retired
root_has : (o : Outline) (facts : Facts) (store : Store) (colour : Colour) (frames : List Frame) (v : Value) → AreFramesColoured o facts store colour frames
    → IsRoot facts frames v → (r : Region) × (r ≢ Retired) × HasColour store colour r v
root_has o facts store colour [] v h root = absurd root
root_has o facts store colour (f ∷ callers) v h (inl here) =
    let has : (node : Node) × HasColour store colour (region o facts f.method callers (facts.class f.method node)) v =
    held_has o facts store colour f callers v h.0 here in (
      region o facts f.method callers (facts.class f.method has.0),
      (region_within o facts f.method callers (facts.class f.method has.0)).not_retired,
      has.1,
    )
root_has o facts store colour (f ∷ callers) v h (inr below) = root_has o facts store colour callers v h.1 below

held_in_has : (o : Outline) (facts : Facts) (store : Store) (colour : Colour) (class : ℕ) (f : Frame) (callers : List Frame) (v : Value)
    → IsFrameColoured o facts store colour f callers → IsHeldIn facts class f v → HasColour store colour (region o facts f.method callers class) v
held_in_has o facts store colour class f callers v h (InLocalOf k at live is) =
    subst (λ c. HasColour store colour (region o facts f.method callers c) v) is (h.locals k v at live)
held_in_has o facts store colour class f callers v h (InWordOf n at is) =
    subst (λ c. HasColour store colour (region o facts f.method callers c) v) is (h.words n v at)

-- ---- activations

method_below : (method depth : ℕ) (frames : List Frame) → IsMethodAt method depth frames → depth < length frames
method_below method depth [] h = absurd h
method_below method depth (f ∷ callers) (inl here) = let is : length callers ≡ depth = here.0 in omega arith
method_below method depth (f ∷ callers) (inr below) = let lt : depth < length callers = method_below method depth callers below in omega arith

pub method_there : (method depth : ℕ) (f : Frame) (callers : List Frame) → IsMethodAt method depth (f ∷ callers) → length callers ≡ depth → f.method ≡ method
method_there method depth f callers (inl here) at = here.1
method_there method depth f callers (inr below) at =
    let lt : depth < length callers = method_below method depth callers below in absurd (omega arith)

held_below : (facts : Facts) (depth class : ℕ) (frames : List Frame) (v : Value) → IsHeldAt facts depth class frames v → depth < length frames
held_below facts depth class [] v h = absurd h
held_below facts depth class (f ∷ callers) v (inl here) = let is : length callers ≡ depth = here.0 in omega arith
held_below facts depth class (f ∷ callers) v (inr below) =
    let lt : depth < length callers = held_below facts depth class callers v below in omega arith

-- what is held in a captured class has its own region
pub held_at_has : (facts : Facts) (x : TypedMethod) (store : Store) (colour : Colour) (depth class : ℕ) (frames : List Frame) (v : Value)
    → AreFramesColoured x.program.outline facts store colour frames → is_captured facts x class ≡ true → IsMethodAt x.number depth frames
    → IsHeldAt facts depth class frames v → HasColour store colour (Own depth class) v
held_at_has facts x store colour depth class [] v h captured at held = absurd held
held_at_has facts x store colour depth class (f ∷ callers) v h captured at (inl here) =
    subst (λ r. HasColour store colour r v)
    (ap (λ m. region x.program.outline facts m callers class) (method_there x.number depth f callers at here.0)
    ∙ captured_is_own facts x callers class captured ∙ ap (λ d. Own d class) here.0)
    (held_in_has x.program.outline facts store colour class f callers v h.0 here.1)
held_at_has facts x store colour depth class (f ∷ callers) v h captured (inl here) (inr below) =
    let lt : depth < length callers = held_below facts depth class callers v below in
    let is : length callers ≡ depth = here.0 in absurd (omega arith)
held_at_has facts x store colour depth class (f ∷ callers) v h captured (inr at) (inr below) =
    held_at_has facts x store colour depth class callers v h.1 captured at below

-- ---- retiring

-- a region that isn't the own one stays
unmoved : (depth class : ℕ) (to r : Region) → r ≢ Own depth class → moved depth class to r ≡ r
unmoved depth class to r apart = ⊎_elim (λ same. same) (λ own. absurd (apart own)) (moved_cases depth class to r)

retired_words : (p : Program) (facts : Facts) (store : Store) (colour : Colour) (class : ℕ) (f : Frame) (callers : List Frame) → StandsAt p facts f
    → IsQuiet p facts class f → IsFrameColoured p.outline facts store colour f callers
    → IsFrameColoured p.outline facts store (mapped (moved (length callers) class Retired) colour) f callers
retired_words p facts store colour class f callers at quiet h = record {
  locals = λ k v found live. kept (Local k) v (apart_local k v found live) (h.locals k v found live);
  words = λ n v found.
      has_if_reference store (mapped (moved (length callers) class Retired) colour)
      (region p.outline facts f.method callers (facts.class f.method (node_of_word f n))) v
      (λ leads. kept (node_of_word f n) v (apart_word n (at.is_node n v found leads)) (h.words n v found));
} where
  reached : is_some (state_at (facts.typing f.method) f.item) ≡ true
  reached = ap is_some at.state_is

  not_busy : is_busy facts (method_of p facts f at.code) class f.item ≡ false
  not_busy = quiet at.code at.code_is

  apart_local : (k : ℕ) (v : Value) → slice_get f.locals k ≡ Some v → facts.live f.method k f.item ≡ true → facts.class f.method (Local k) ≢ class
  apart_local k v found live =
      let inside = slice_get_within f.locals k v found in
      quiet_local facts (method_of p facts f at.code) class f.item reached not_busy k (omega (arith, inside, at.width)) live

  apart_word : (n : ℕ) → IsNode (method_of p facts f at.code) (node_of_word f n) → facts.class f.method (node_of_word f n) ≢ class
  apart_word n node = quiet_word facts (method_of p facts f at.code) class f.item reached not_busy (length f.stack - 1 - n) node

  kept : (node : Node) (v : Value) → facts.class f.method node ≢ class
      → HasColour store colour (region p.outline facts f.method callers (facts.class f.method node)) v
      → HasColour store (mapped (moved (length callers) class Retired) colour) (region p.outline facts f.method callers (facts.class f.method node)) v
  kept node v apart has =
      let r : Region = region p.outline facts f.method callers (facts.class f.method node) in
      let not_own : r ≢ Own (length callers) class =
      λ own. apart (sym ((region_within p.outline facts f.method callers (facts.class f.method node)).own class own)) in
      subst (λ q. HasColour store (mapped (moved (length callers) class Retired) colour) q v)
      (unmoved (length callers) class Retired r not_own)
      (has-mapped store colour (moved (length callers) class Retired) r v has)

retired_frames : (p : Program) (facts : Facts) (store : Store) (colour : Colour) (method depth class : ℕ) (frames : List Frame) → Stand p facts frames
    → IsOver p facts method depth class frames → AreFramesColoured p.outline facts store colour frames
    → AreFramesColoured p.outline facts store (mapped (moved depth class Retired) colour) frames
retired_frames p facts store colour method depth class [] stand over h = tt
retired_frames p facts store colour method depth class (f ∷ callers) stand (inl gone) h =
    let le : length (f ∷ callers) ≤ depth = omega arith in
    frames-mapped p.outline facts store colour (moved depth class Retired) depth
    (λ lower other r lt within. moved_below depth class Retired lower other r lt within) (f ∷ callers) le h
retired_frames p facts store colour method depth class (f ∷ callers) stand (inr quiet) h =
    let same : length callers ≡ depth = quiet.0 in
    let le : length callers ≤ depth = omega arith in (
      subst (λ d. IsFrameColoured p.outline facts store (mapped (moved d class Retired) colour) f callers) same
          (retired_words p facts store colour class f callers stand.0.at quiet.2 h.0),
      frames-mapped p.outline facts store colour (moved depth class Retired) depth
          (λ lower other r lt within. moved_below depth class Retired lower other r lt within) callers le h.1,
    )

-- colours of a state in which the class isn't busy stay so where it is retired
pub retire : (p : Program) (facts : Facts) (x : State) (colour : Colour) (method depth class : ℕ) → Coloured p facts x colour → Stand p facts x.frames
    → IsOver p facts method depth class x.frames → Coloured p facts x (mapped (moved depth class Retired) colour)
retire p facts x colour method depth class h stand over = record {
  frames = retired_frames p facts x.areas.store colour method depth class x.frames stand over h.frames;
  areas = areas-mapped p.outline colour (moved depth class Retired) x.areas refl h.areas;
}

-- ---- what is retired is dead

pub dead_if_retired : (p : Program) (facts : Facts) (x next : State) (colour : Colour) (birth : ℕ) → Coloured p facts x colour → colour birth ≡ Retired
    → (over : GoesOver p facts x next colour) → IsDead p facts birth x next
dead_if_retired p facts x next colour birth h retired over = record {
  no_root = λ v root leads.
      let has : (r : Region) × (r ≢ Retired) × HasColour x.areas.store colour r v =
      root_has p.outline facts x.areas.store colour x.frames v h.frames root in
      has.1 (sym (led_has p.outline colour x.areas has.0 v birth h.areas has.2 leads) ∙ retired);
  no_static = λ slot v at leads.
      let everywhere : Everywhere ≡ Retired =
      sym (led_has p.outline colour x.areas Everywhere v birth h.areas (h.areas.statics slot v at) leads) ∙ retired in
      absurd (cc);
  still = λ cell object held not_fixed is. over.still cell object held not_fixed (ap colour is ∙ retired);
}

-- ---- colours go on

-- what is retired stays so
pub retired_on : (facts : Facts) (frames : List Frame) (colour other : Colour) (birth : ℕ) → colour birth ≡ Retired
    → (other birth ≡ colour birth) ⊎ IsResult facts frames (colour birth) → other birth ≡ Retired
retired_on facts frames colour other birth retired (inl same) = same ∙ retired
retired_on facts [] colour other birth retired (inr result) = absurd result
retired_on facts (f ∷ callers) colour other birth retired (inr result) =
    let both : Retired ≡ Own (length callers) _ = sym retired ∙ result in absurd (cc)
