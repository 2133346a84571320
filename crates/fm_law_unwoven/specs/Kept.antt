-- A state of the program with insertions at an item that is kept, and the state of the first program that it holds.
use Rattle.std.specs.Prelude.{◌≡◌, ℕ, ◌+◌, ◌<◌, ◌≤◌, ◌⊎◌, true, false, List, [], ◌∷◌, ◌++◌, length, map, take, drop, Some, None, unwrap_or, slice_get}
use Rattle.std.specs.List.{AllByRecursion}
use Rattle.fm_base.specs.declared.limits.TheConstants.{MAX_LIVE_WORDS, MAX_MADE_WORDS}
use Rattle.fm_code.specs.Edges.{insn_of, IsEdge}
use Rattle.fm_code.specs.declared.code_array.Code.{Code}
use Rattle.fm_code.specs.declared.instructions.Insn.TheVariants as insn
use Rattle.fm_cells.specs.Choices.{lawful}
use Rattle.fm_cells.specs.Stores.{opened}
use Rattle.fm_conn.specs.Facts.{Facts}
use Rattle.fm_conn.specs.Links.{typed_method}
use Rattle.fm_conn.specs.Nodes.{TypedMethod}
use Rattle.fm_frames.specs.Acts.{Choose}
use Rattle.fm_frames.specs.Effects.{Falls, Returns}
use Rattle.fm_frames.specs.Runs.{Job, opening}
use Rattle.fm_frames.specs.States.{Frame, Moved, null, State, word_at}
use Rattle.fm_frames.specs.Steps.{is_start, max_locals_of, next_effect, step}
use Rattle.fm_frames.specs.declared.ends.Ended.TheVariants as end
use Rattle.fm_frames.specs.declared.values.Value.{Value}
use Rattle.fm_law_same_runs.specs.Beside.{kept_item, Marks}
use Rattle.fm_law_sound.specs.Making.{ArgumentsFit, MakesAreResolved}
use Rattle.fm_law_sound.specs.Resolved.{MainIsReady, StepsAreResolved}
use Rattle.fm_law_sound.specs.Sound.{AreTyped, IsReference, IsSoundBy}
use Rattle.fm_law_unwoven.specs.Laid.{mark_at}
use Rattle.fm_law_unwoven.specs.WovenFrom.{HasInserted, inserted_by, IsWovenFrom, own_marks}
use Rattle.fm_place.specs.Insertions.{after_at, Holder, Insertions}
use Rattle.fm_place.specs.Places.{is_busy, MayHold}
use Rattle.fm_place.specs.Rewriting.{Plans}
use Rattle.fm_place.specs.Woven.{local_of}
use Rattle.fm_world.specs.Programs.{code_at, Program}

-- ---- the state that is held

-- the old item at which a frame is; the first one of a method that hasn't begun
abbrev pub old_item : Marks → Frame → ℕ
old_item marks g = unwrap_or (kept_item marks g.method g.item) 0

-- the frame without the locals of holders
abbrev pub old_frame : Program → Marks → Frame → Frame
old_frame p marks g = record {
  method = g.method;
  item = old_item marks g;
  locals = take (max_locals_of p g.method) g.locals;
  stack = g.stack;
}

-- the same memory, and old frames; steps are counted apart
abbrev pub old_state : Program → Marks → ℕ → State → State
old_state p marks steps y = record y { frames = map (old_frame p marks) y.frames; steps = steps }

-- ---- frames

-- The holders of a frame at an old item: each is a reference; and it is null, or its class is busy there and it may hold something.
pub record HoldersStand (facts : Facts) (x : TypedMethod) (plan : Insertions) (g : Frame) (j : ℕ) : Type 0 where
  pub width : length g.locals ≡ x.code.max_locals + length plan.holders
  pub references : (h : ℕ) → h < length plan.holders → IsReference (word_at g.locals (local_of x.code h))
  pub may : (h : ℕ) (holder : Holder) → slice_get plan.holders h ≡ Some holder
      → (word_at g.locals (local_of x.code h) ≡ null) ⊎ ((is_busy facts x holder.class j ≡ true) × MayHold facts x holder.site holder.class j)

-- the frame's holders stand at an old item of its method
abbrev pub HoldersStandAt : Program → Facts → Plans → Frame → ℕ → Type 0
HoldersStandAt p facts plans g j =
    (code : Code) → code_at p g.method ≡ Some code → HoldersStand facts (typed_method p facts.typing g.method code) (inserted_by (plans g.method)) g j

-- a frame at an item that is kept
pub record StandsAtKept (p : Program) (facts : Facts) (plans : Plans) (marks : Marks) (g : Frame) : Type 0 where
  pub item : ℕ
  pub item_is : kept_item marks g.method g.item ≡ Some item
  pub holders : HoldersStandAt p facts plans g item

-- a frame of a method that waits for its class to start: its arguments are its first locals
pub record HasNotBegun (q : Program) (above g : Frame) : Type 0 where
  pub starts : is_start q.outline above.method ≡ true
  pub first : g.item ≡ 0
  pub empty : g.stack ≡ []
  pub width : length g.locals ≡ max_locals_of q g.method

-- the frames below this one
abbrev pub StandBelow : Program → Program → Facts → Plans → Marks → Frame → List Frame → Type 0
StandBelow p q facts plans marks above [] = Unit {0}
StandBelow p q facts plans marks above (g ∷ callers) =
    (StandsAtKept p facts plans marks g ⊎ HasNotBegun q above g) × StandBelow p q facts plans marks g callers

-- all frames, the topmost at a kept item
abbrev pub StandKept : Program → Program → Facts → Plans → Marks → List Frame → Type 0
StandKept p q facts plans marks [] = Unit {0}
StandKept p q facts plans marks (g ∷ callers) = StandsAtKept p facts plans marks g × StandBelow p q facts plans marks g callers

-- a state of the second program at a kept item, which holds a sound state of the first one; as many words may live as `fmrun` allows at most
pub record IsAtKept (p q : Program) (facts : Facts) (plans : Plans) (marks : Marks) (y : State) : Type 0 where
  pub sound : IsSoundBy p facts.typing (old_state p marks 0 y)
  pub frames : StandKept p q facts plans marks y.frames
  pub words : y.areas.store.budget ≤ MAX_LIVE_WORDS

-- ---- frames before and after a step

-- the locals of a frame that the first program's frame doesn't have: those of holders
abbrev pub holder_locals : Program → Frame → List Value
holder_locals p g = drop (max_locals_of p g.method) g.locals

-- Before the step the frame was at old item j, on the same others, with the same holders; what was above it is gone.
pub record WasAt (p : Program) (marks : Marks) (before : List Frame) (g : Frame) (below : List Frame) (j : ℕ) : Type 0 where
  pub above : List Frame
  pub was : Frame
  pub frames_are : before ≡ above ++ was ∷ below
  pub method : was.method ≡ g.method
  pub item_is : kept_item marks was.method was.item ≡ Some j
  pub holders : holder_locals p g ≡ holder_locals p was

-- the same frames, but for the stack of the topmost one, from which a call takes its arguments
abbrev pub WaitAs : (before frames : List Frame) → Type 0
WaitAs [] frames = frames ≡ []
WaitAs (was ∷ callers) frames = (stack : List Value) × (frames ≡ record was { stack = stack } ∷ callers)

-- Below a frame that begins are others that begin with it, at their first items, and then all frames from before; or it was among these, and waited.
pub data BeginsOn (before : List Frame) (g : Frame) (below : List Frame) : Type 0 where
  IsNew : (new waiting : List Frame) → below ≡ new ++ waiting → AllByRecursion (λ (h : Frame). h.item ≡ 0) new → WaitAs before waiting → BeginsOn before g below
  HasWaited : (above : List Frame) → before ≡ above ++ g ∷ below → BeginsOn before g below

-- ---- a step

-- How the first program goes on behind old item j, from the state that this one holds, where these frames are gone: the topmost frame's instruction is done; or it
-- is a branch that isn't taken, behind which no holder keeps anything; or the topmost frame returns.
pub data GoesPast (p : Program) (marks : Marks) (before : State) (above : List Frame) (plan : Insertions) (j : ℕ) : Type 0 where
  PastItem : above ≡ [] → (next_effect p (old_state p marks before.steps before)).next ≡ Falls → GoesPast p marks before above plan j
  PastBranch : above ≡ [] → after_at plan j ≡ [] → GoesPast p marks before above plan j
  PastCall : (top : Frame) (words : ℕ) → above ≡ top ∷ [] → is_start p.outline top.method ≡ false
      → (next_effect p (old_state p marks before.steps before)).next ≡ Returns words → GoesPast p marks before above plan j

-- where the topmost frame goes on after a step at an old item j: behind it, before another one of its method (as after a branch that is too far, at its goto_w),
-- or at the start of a method
pub data GoesOn (p q : Program) (marks : Marks) (before : State) (above : List Frame) (f g : Frame) (old : Code) (plan : Insertions) (w : HasInserted q marks g.method old plan) (j : ℕ) : Type 0 where
  GoesBehind : GoesPast p marks before above plan j → f.item ≡ j + 1 → g.item ≡ w.laid.behind j → GoesOn p q marks before above f g old plan w j
  GoesBefore : g.item ≡ w.laid.entries f.item → GoesOn p q marks before above f g old plan w j
  GoesByJump : insn_of w.new g.item ≡ Some (insn.Goto (w.laid.entries f.item)) → mark_at (own_marks marks g.method) g.item ≡ None
      → GoesOn p q marks before above f g old plan w j

-- the frame goes on along an edge from old item j, with its holders as they were there; or it begins; or it is as it was
pub data FrameGoes (p q : Program) (facts : Facts) (plans : Plans) (marks : Marks) (before : State) (f g : Frame) (below : List Frame) : Type 0 where
  InMethod : (j : ℕ) (old : Code) (code_is : code_at p g.method ≡ Some old) (w : HasInserted q marks g.method old (inserted_by (plans g.method)))
      → (was : WasAt p marks before.frames g below j) → GoesOn p q marks before was.above f g old (inserted_by (plans g.method)) w j → IsEdge old j f.item
      → HoldersStand facts (typed_method p facts.typing g.method old) (inserted_by (plans g.method)) g j
      → FrameGoes p q facts plans marks before f g below
  Begins : f.item ≡ 0 → g.item ≡ 0 → g.stack ≡ [] → length g.locals ≡ max_locals_of q g.method → BeginsOn before.frames g below
      → FrameGoes p q facts plans marks before f g below
  Resumes : StandsAtKept p facts plans marks g → kept_item marks g.method g.item ≡ Some f.item → (above : List Frame) → before.frames ≡ above ++ g ∷ below
      → FrameGoes p q facts plans marks before f g below

-- the frames of both states after a step
pub record FramesGo (p q : Program) (facts : Facts) (plans : Plans) (marks : Marks) (before : State) (f g : Frame) (callers below : List Frame) : Type 0 where
  pub method : g.method ≡ f.method
  pub locals : take (max_locals_of p g.method) g.locals ≡ f.locals
  pub stack : g.stack ≡ f.stack
  pub top : FrameGoes p q facts plans marks before f g below
  pub callers_are : map (old_frame p marks) below ≡ callers
  pub stands_below : StandBelow p q facts plans marks g below

-- of states with frames
abbrev pub StatesGo : Program → Program → Facts → Plans → Marks → (before : State) → List Frame → List Frame → Type 0
StatesGo p q facts plans marks before (f ∷ callers) (g ∷ below) = FramesGo p q facts plans marks before f g callers below
StatesGo p q facts plans marks before fs gs = ⊥

-- a state but for its frames
abbrev pub but_frames : State → State
but_frames y = record y { frames = [] }

-- Both programs do the same step; or the run of each ends in a fault.
pub data StepsAlike (p q : Program) (facts : Facts) (plans : Plans) (marks : Marks) (before : State) (x y : Moved) : Type 0 where
  BothDo : y.printed ≡ x.printed → but_frames y.state ≡ but_frames x.state
      → (x.state.ended ≡ None → StatesGo p q facts plans marks before x.state.frames y.state.frames) → StepsAlike p q facts plans marks before x y
  BothFault : (method offset other cell : ℕ) → x.state.ended ≡ Some (end.Fault (record { 0 = method }) offset cell)
      → y.state.ended ≡ Some (end.Fault (record { 0 = method }) other cell) → StepsAlike p q facts plans marks before x y

-- a step at a kept item is the step of the first program at the state that is held
abbrev pub KeptStepsAreSteps : Type 0
KeptStepsAreSteps =
    (p q : Program) (facts : Facts) (plans : Plans) (marks : Marks) → IsWovenFrom p q facts plans marks → StepsAreResolved p → MakesAreResolved p
    → (choose : Choose) (y : State) → IsAtKept p q facts plans marks y → y.ended ≡ None
    → StepsAlike p q facts plans marks y (step p (lawful choose) (old_state p marks y.steps y)) (step q (lawful choose) y)

-- and the opening of a run is that of the first program over the same store: no frame was there before
abbrev pub OpeningsAreOpenings : Type 0
OpeningsAreOpenings =
    (p q : Program) (facts : Facts) (plans : Plans) (marks : Marks) → IsWovenFrom p q facts plans marks → AreTyped p facts.typing
    → StepsAreResolved p → MakesAreResolved p → MainIsReady p
    → (choose : Choose) (job : Job) → ArgumentsFit job.arguments → (words : ℕ) → words ≤ MAX_LIVE_WORDS → (free : List (List ℕ))
    → StepsAlike p q facts plans marks (but_frames (opening p (lawful choose) job (opened words (Some MAX_MADE_WORDS) free)).state)
    (opening p (lawful choose) job (opened words (Some MAX_MADE_WORDS) free)) (opening q (lawful choose) job (opened words (Some MAX_MADE_WORDS) free))
