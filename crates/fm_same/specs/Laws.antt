-- The laws that the functions of `laws` prove.
use Rattle.std.specs.Prelude.{◌≡◌, ◌≢◌, ℕ, ◌+◌, ◌≤◌, ◌⊎◌, true, List, ◌∷◌, length, Option, Some, None, is_some}
use Rattle.fm_code.specs.Edges.{IsNormalEdge}
use Rattle.fm_code.specs.declared.code_array.Code.{Code}
use Rattle.fm_conn.specs.Facts.{AreFacts, Facts}
use Rattle.fm_conn.specs.Links.{Linked, node_of, typed_method}
use Rattle.fm_conn.specs.Nodes.{IsNode, Local, Node, Return, Slot, TypedMethod}
use Rattle.fm_conn.specs.Pairs.{IsEnd, PairAt}
use Rattle.fm_conn.specs.declared.ends.End2.{End2}
use Rattle.fm_conn.specs.declared.ends.End2.TheVariants as end
use Rattle.fm_world.specs.Programs.{code_at, Outline, Program}
use Rattle.fm_cells.specs.Choices.{lawful}
use Rattle.fm_frames.specs.Acts.{Choose}
use Rattle.fm_cells.specs.Stores.{opened, Store}
use Rattle.fm_frames.specs.Runs.{Job, opening}
use Rattle.fm_frames.specs.States.{Frame, State}
use Rattle.fm_frames.specs.Steps.{next_effect, step}
use Rattle.fm_conn.specs.Shapes.{method_with}
use Rattle.fm_types.specs.States.{TypeState}
use Rattle.fm_types.specs.Typed.{IsTypingOf}
use Rattle.fm_place.specs.Places.{is_busy}
use Rattle.fm_place.specs.Sites.{is_captured, site_class, site_kind, site_node}
use Rattle.fm_same.specs.Advances.{GoesOver, OwesAt}
use Rattle.fm_same.specs.Colours.{Colour, Coloured}
use Rattle.fm_same.specs.Covering.{CoversAt, PlacesAgreeAt}
use Rattle.fm_same.specs.DeadRegions.{IsOver, AreSound, AreSteps, InEachRun, RegionsDieIn, states_of}
use Rattle.fm_same.specs.Evenness.{HoldsNumbers}
use Rattle.fm_same.specs.Regions.{argument, Own, region, Region, Retired}
use Rattle.fm_law_sound.specs.Making.{MakesAreResolved}
use Rattle.fm_law_sound.specs.Resolved.{MainIsReady, StepsAreResolved}
use Rattle.fm_law_sound.specs.Sound.{IsSoundBy}
use Rattle.fm_same.specs.Resolved.{CallsNoFreeMe, IsResolved}
use Rattle.fm_same.specs.Standing.{Called, method_of, Stand}
use Rattle.fm_same.specs.Targets.{AreCovered, Covers}

-- ---- classes of nodes

-- two ends of a method that has code are linked where their nodes are in one class
abbrev pub ClassesLink : Type 0
ClassesLink =
    (p : Program) (facts : Facts) → AreFacts p facts → (method : ℕ) (code : Code) (a b : End2) → code_at p method ≡ Some code
    → facts.class method (node_of a) ≡ facts.class method (node_of b) → Linked p facts.typing method a b

-- two nodes that an item pairs are in one class
abbrev pub PairsAreInOneClass : Type 0
PairsAreInOneClass =
    (p : Program) (facts : Facts) → AreFacts p facts → (method : ℕ) (code : Code) → code_at p method ≡ Some code
    → (j : ℕ) (a b : Node) → PairAt (Linked p facts.typing) (typed_method p facts.typing method code) j a b
    → facts.class method a ≡ facts.class method b

-- ---- sites

-- the object of each site of a typed method is a node: a reference is on top of the stack at the
-- next item
abbrev pub SitesAreNodes : Type 0
SitesAreNodes =
    (p : Program) (facts : Facts) (method : ℕ) (code : Code) (states : List (Option TypeState)) → StepsAreResolved p → code_at p method ≡ Some code
    → IsTypingOf p method code states → (j : ℕ) → is_some (site_kind facts (method_with p method code states) j) ≡ true
    → IsNode (method_with p method code states) (site_node (method_with p method code states) j)

-- so its class is busy there, until the reference is gone from stack and live locals
abbrev pub SitesMakeBusy : Type 0
SitesMakeBusy =
    (p : Program) (facts : Facts) (method : ℕ) (code : Code) (states : List (Option TypeState)) → StepsAreResolved p → code_at p method ≡ Some code
    → IsTypingOf p method code states → (j : ℕ) → is_some (site_kind facts (method_with p method code states) j) ≡ true
    → is_busy facts (method_with p method code states) (site_class facts (method_with p method code states) j) (j + 1) ≡ true

-- ---- regions

-- an own region is of a frame that is no higher; of the frame itself it is only that of the class;
-- and no class has the region of what is retired
pub record IsWithin (depth class : ℕ) (r : Region) : Type 0 where
  pub not_retired : r ≢ Retired
  pub below : (d c : ℕ) → r ≡ Own d c → d ≤ depth
  pub own : (c : ℕ) → r ≡ Own depth c → c ≡ class

-- so are the regions of all classes
abbrev pub RegionsAreWithin : Type 0
RegionsAreWithin =
    (o : Outline) (facts : Facts) (method : ℕ) (callers : List Frame) (class : ℕ) → IsWithin (length callers) class (region o facts method callers class)

-- a captured class has a region of its own
abbrev pub CapturedIsOwn : Type 0
CapturedIsOwn =
    (facts : Facts) (x : TypedMethod) (callers : List Frame) (class : ℕ) → is_captured facts x class ≡ true
    → region x.program.outline facts x.number callers class ≡ Own (length callers) class

-- a parameter that is a reference has the region of the word that the caller handed over
abbrev pub RegionsGoAlongCalls : Type 0
RegionsGoAlongCalls =
    (p : Program) (facts : Facts) → AreFacts p facts → (f g : Frame) (code : Code) → code_at p f.method ≡ Some code → Called p facts f g
    → (callers : List Frame) (k : ℕ) → IsEnd p.outline f.method (end.Parameter k)
    → region p.outline facts f.method (g ∷ callers) (facts.class f.method (Local k))
    ≡ region p.outline facts g.method callers (facts.class g.method (argument g k))

-- the result's class has the region of the word that the caller gets, or a region of its own that ends with the frame
abbrev pub RegionsGoAlongReturns : Type 0
RegionsGoAlongReturns =
    (p : Program) (facts : Facts) → AreFacts p facts → (f g : Frame) (code : Code) → code_at p f.method ≡ Some code → (h : Called p facts f g)
    → (callers : List Frame) (next : ℕ) → IsEnd p.outline f.method end.Return → IsNormalEdge h.at.code g.item next
    → IsNode (method_of p facts g h.at.code) (Slot next (length g.stack))
    → (region p.outline facts f.method (g ∷ callers) (facts.class f.method Return)
    ≡ region p.outline facts g.method callers (facts.class g.method (Slot next (length g.stack))))
    ⊎ (region p.outline facts f.method (g ∷ callers) (facts.class f.method Return) ≡ Own (length (g ∷ callers)) (facts.class f.method Return))

-- ---- colours

-- a step leads from colours of a state to colours of the next, which go on from them
abbrev pub StepsKeepColours : Type 0
StepsKeepColours =
    (p : Program) (facts : Facts) → AreFacts p facts → HoldsNumbers p.outline → (choose : Choose) (x : State) (colour : Colour)
    → Coloured p facts x colour → Stand p facts x.frames → OwesAt p facts x.areas.store (next_effect p x) x.frames
    → Stand p facts (step p (lawful choose) x).state.frames
    → GoesOver p facts x (step p (lawful choose) x).state colour

-- the next effect of a state whose frames are as a sound machine has them does to the classes what
-- the laws require, by the pairs of its item
abbrev pub EffectsOwe : Type 0
EffectsOwe =
    (p : Program) (facts : Facts) → AreFacts p facts → HoldsNumbers p.outline → (x : State) → Stand p facts x.frames → CoversAt p facts x x.frames
    → OwesAt p facts x.areas.store (next_effect p x) x.frames

-- a captured class that isn't busy can be retired: colours stay so where what has its region is retired
abbrev pub QuietClassesRetire : Type 0
QuietClassesRetire =
    (p : Program) (facts : Facts) (x : State) (colour : Colour) (method depth class : ℕ) → Coloured p facts x colour → Stand p facts x.frames
    → IsOver p facts method depth class x.frames
    → (other : Colour) × Coloured p facts x other × ((birth : ℕ) → colour birth ≡ Own depth class → other birth ≡ Retired)

-- what linking makes sure of: texts and streams have no place for references, and constants fit their fields
abbrev pub ResolvedHoldsNumbers : Type 0
ResolvedHoldsNumbers = (p : Program) → IsResolved p → HoldsNumbers p.outline

-- where frames are as the laws require and calls lead to targets, each method that a call leads to
-- is as its row wants it; built-in ones by computation over their table
abbrev pub CallsAreCovered : Type 0
CallsAreCovered =
    (p : Program) (facts : Facts) → AreFacts p facts → IsResolved p → CallsNoFreeMe p → (x : State) → Stand p facts x.frames → Covers p facts x
    → PlacesAgreeAt p x x.frames → CoversAt p facts x x.frames

-- the frames of a sound state are as the laws require, where each called method is among the
-- targets
abbrev pub SoundFramesStand : Type 0
SoundFramesStand =
    (p : Program) (facts : Facts) → AreFacts p facts → IsResolved p → (x : State) → IsSoundBy p facts.typing x → AreCovered p facts x.frames
    → Stand p facts x.frames

-- where frames are as the laws require, places are read and put by their kinds
abbrev pub PlacesAreByKinds : Type 0
PlacesAreByKinds = (p : Program) (facts : Facts) → IsResolved p → (x : State) → Stand p facts x.frames → PlacesAgreeAt p x x.frames

-- a called method stays among the targets of its call while it runs: at the opening, and from each step to the next
abbrev pub FramesStayCovered : Type 0
FramesStayCovered =
    (p : Program) (facts : Facts) (choose : Choose) (x : State) → Stand p facts x.frames → AreCovered p facts x.frames
    → OwesAt p facts x.areas.store (next_effect p x) x.frames → AreCovered p facts (step p (lawful choose) x).state.frames

-- the opening's frames are covered
abbrev pub OpeningIsCovered : Type 0
OpeningIsCovered =
    (p : Program) (facts : Facts) (choose : Choose) (job : Job) (store : Store) → AreCovered p facts (opening p (lawful choose) job store).state.frames

-- the opening has colours
abbrev pub OpeningHasColours : Type 0
OpeningHasColours =
    (p : Program) (facts : Facts) → HoldsNumbers p.outline → (choose : Choose) (job : Job) (budget : ℕ) (limit : Option ℕ) (free : List (List ℕ))
    → (colour : Colour) × Coloured p facts (opening p (lawful choose) job (opened budget limit free)).state colour

-- in a program that isn't narrowed, the method that a call of a sound state leads to is among the targets
abbrev pub FullTargetsCover : Type 0
FullTargetsCover =
    (p : Program) → IsResolved p → p.made ≡ None → (facts : Facts) (x : State) → IsSoundBy p facts.typing x → Covers p facts x

-- ---- the law of dead regions

-- in states that are steps, the first of which has colours
abbrev pub RegionsDie : Type 0
RegionsDie =
    (p : Program) (facts : Facts) → AreFacts p facts → IsResolved p → CallsNoFreeMe p → (choose : Choose) (xs : ℕ → State)
    → AreSteps p (lawful choose) xs → AreSound p facts xs → ((k : ℕ) → Covers p facts (xs k))
    → AreCovered p facts (xs 0).frames → (colour : Colour) → Coloured p facts (xs 0) colour → RegionsDieIn p facts xs

-- this holds in each run of sound states, from its opening on
abbrev pub DeadRegionsOfSoundRuns : Type 0
DeadRegionsOfSoundRuns =
    (p : Program) (facts : Facts) → AreFacts p facts → IsResolved p → CallsNoFreeMe p
    → (choose : Choose) (job : Job) (budget : ℕ) (limit : Option ℕ) (free : List (List ℕ))
    → AreSound p facts (states_of p choose job (opened budget limit free))
    → ((k : ℕ) → Covers p facts (states_of p choose job (opened budget limit free) k))
    → RegionsDieIn p facts (states_of p choose job (opened budget limit free))

-- and in each run of a typed and linked program that calls no FreeMe and whose calls lead to targets
abbrev pub DeadRegions : Type 0
DeadRegions =
    (p : Program) (facts : Facts) → AreFacts p facts → IsResolved p → StepsAreResolved p → MakesAreResolved p → MainIsReady p → CallsNoFreeMe p
    → InEachRun p (λ xs. ((k : ℕ) → Covers p facts (xs k)) → RegionsDieIn p facts xs)
