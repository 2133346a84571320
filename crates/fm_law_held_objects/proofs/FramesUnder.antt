-- What a step leaves below the topmost frame: frames that waited, frames that begin, and the one that was the topmost, which waits from then on.
use Rattle.std.proofs.Common.{◌≡◌, ◌<◌, ◌≤◌, ◌+◌, ℕ, Bool, true, false, cond, List, [], ◌∷◌, ◌++◌, length, drop, take, Option, Some, None, refl, sym, subst, arith, length-append}
use Rattle.std.specs.List.{AllByRecursion}
use Rattle.fm_cells.specs.Stores.{Store}
use Rattle.fm_frames.specs.Acts.{Sources, value_of}
use Rattle.fm_frames.specs.Effects.{Calls, Effect, Enters, Exits, Falls, Faults, Jumps, JumpsIfSame, Next, Returns, Throws}
use Rattle.fm_frames.specs.States.{Frame, State}
use Rattle.fm_frames.specs.Steps.{caught, Caught, caught_in, handler_of, InFrames, is_start, Leaves, returned, start_frames, thrown_by, type_at}
use Rattle.fm_frames.specs.declared.ends.Ended.TheVariants as end
use Rattle.fm_frames.specs.declared.values.Value.{Value}
use Rattle.fm_law_holders.proofs.FramesMade.{started_made, waiting_made}
use Rattle.fm_law_holders.specs.Uninitialised.{FrameIsMade, Made}
use Rattle.fm_law_sound.proofs.Following.{followed}
use Rattle.fm_law_sound.proofs.FramesStand.{not_left}
use Rattle.fm_law_sound.specs.Sound.{AreTyped, Stand, StandsWithout, Typings}
use Rattle.fm_types.specs.Named.{class_of_method}
use Rattle.fm_world.specs.Programs.{Program}
use Rattle.fm_base.specs.declared.kinds.TypeRef.{TypeRef}

-- all frames but the topmost
abbrev pub waiting : List Frame → List Frame
waiting [] = []
waiting (f ∷ callers) = callers

-- of each of these frames that has fewer than this many below it
abbrev pub AllUnder : (Frame → Type 0) → (depth : ℕ) → List Frame → Type 0
AllUnder P depth [] = Unit {0}
AllUnder P depth (f ∷ callers) = (length callers < depth → P f) × AllUnder P depth callers

pub all_waiting : (P : Frame → Type 0) (frames : List Frame) → AllByRecursion P frames → AllByRecursion P (waiting frames)
all_waiting P [] all = tt
all_waiting P (f ∷ callers) all = all.1

-- where the topmost frame has that many below it, or more, what holds of those that wait suffices
pub under_waiting : (P Q : Frame → Type 0) (depth : ℕ) (frames : List Frame) → depth < length frames → ((g : Frame) → P g → Q g)
    → AllByRecursion P (waiting frames) → AllUnder Q depth frames
under_waiting P Q depth [] there each all = tt
under_waiting P Q depth (f ∷ callers) there each all = ((λ less. absurd (omega (arith, there, less))), below callers all) where
  below : (frames : List Frame) → AllByRecursion P frames → AllUnder Q depth frames
  below [] all = tt
  below (g ∷ rest) all = ((λ less. each g all.0), below rest all.1)

pub under_both : (P Q R : Frame → Type 0) (depth : ℕ) (frames : List Frame) → depth < length frames → ((g : Frame) → P g → Q g → R g)
    → AllByRecursion P (waiting frames) → AllUnder Q depth frames → AllUnder R depth frames
under_both P Q R depth [] there each all under = tt
under_both P Q R depth (f ∷ callers) there each all under =
    ((λ less. absurd (omega (arith, there, less))), below callers all under.1) where
      below : (frames : List Frame) → AllByRecursion P frames → AllUnder Q depth frames → AllUnder R depth frames
      below [] all under = tt
      below (g ∷ rest) all under = ((λ less. each g all.0 (under.0 less)), below rest all.1 under.1)

module _ (p : Program) (typings : Typings) (typed : AreTyped p typings) (store : Store) (made : Made) (P : Frame → Type 0) (depth : ℕ) where
  abbrev Each : List Frame → Type 0
  Each frames = AllByRecursion (FrameIsMade typings store made) frames

  -- what holds of the next frames: those that wait hold what they held in the store before the step
  pub record AreLeft (frames : List Frame) : Type 0 where
    pub wait : Each (waiting frames)
    pub under : depth < length frames → AllUnder P depth frames

  topmost_left : (g : Frame) (callers : List Frame) → Each callers → AllUnder P depth callers → AreLeft (g ∷ callers)
  topmost_left g callers each under = record { wait = each; under = λ there. ((λ less. absurd (omega (arith, there, less))), under) }

  all_left : (frames : List Frame) → Each frames → AllUnder P depth frames → AreLeft frames
  all_left frames each under =
      record { wait = all_waiting (FrameIsMade typings store made) frames each; under = λ there. under }

  -- ---- frames that begin

  starts_under : (methods : List ℕ) (frames : List Frame) → depth ≤ length frames → AllUnder P depth frames
      → AllUnder P depth (start_frames p methods ++ frames)
  starts_under [] frames high under = under
  starts_under (m ∷ methods) frames high under =
      let long = length-append (start_frames p methods) frames in
      ((λ less. absurd (omega (arith, high, less, long))), starts_under methods frames high under)

  -- ---- to the frame below

  returned_to : (n : ℕ) (f g : Frame) (callers : List Frame) (y : State) → Each callers → AllUnder P depth callers → (b : Bool)
      → AreLeft (cond b (record y { frames = g ∷ callers })
      (record y { frames = record g { item = g.item + 1; stack = take n f.stack ++ g.stack } ∷ callers })).frames
  returned_to n f g callers y each under true = topmost_left g callers each under
  returned_to n f g callers y each under false =
      topmost_left (record g { item = g.item + 1; stack = take n f.stack ++ g.stack }) callers each under

  returned_left : (n : ℕ) (f : Frame) (callers : List Frame) (y : State) → Each callers → AllUnder P depth callers → AreLeft y.frames
      → AreLeft (returned p n f callers y).frames
  returned_left n f [] y each under same = same
  returned_left n f (g ∷ callers) y each under same = returned_to n f g callers y each.1 under.1 (is_start p.outline f.method)

  -- ---- where an exception is caught

  module _ (t : TypeRef) (v : Value) where
    caught_one : (f : Frame) (callers : List Frame) → Each callers → AllUnder P depth callers → (found : Option ℕ) (others : Caught) (after : List Frame)
        → (others ≡ InFrames after → AreLeft after) → caught_in p v f callers found others ≡ InFrames after → AreLeft after
    caught_one f callers each under (Some handler) others after rest is =
        let same : record f { item = handler; stack = v ∷ [] } ∷ callers ≡ after = cc in
        subst AreLeft same (topmost_left (record f { item = handler; stack = v ∷ [] }) callers each under)
    caught_one f callers each under None others after rest is =
        not_left (is_start p.outline f.method) (end.InitFailed (record { 0 = class_of_method p.outline f.method })) others after (λ no_start left. rest left) is

    caught_left : (frames : List Frame) → Each frames → AllUnder P depth frames → (after : List Frame) → caught p t v frames ≡ InFrames after → AreLeft after
    unfolding caught
    caught_left [] each under after is = absurd (cc)
    caught_left (f ∷ callers) each under after is =
        caught_one f callers each.1 under.1 (handler_of p f t) (caught p t v callers) after (λ left. caught_left callers each.1 under.1 after left) is

  thrown_left : (y : State) (c : Caught) → ((after : List Frame) → c ≡ InFrames after → AreLeft after) → AreLeft y.frames → AreLeft (thrown_by y c).frames
  thrown_left y (InFrames frames) each same = each frames refl
  thrown_left y (Leaves e) each same = same

  -- ---- wherever it leads

  pub next_left : (from : Sources) (e : Effect) (f : Frame) (callers : List Frame) (y : State) → y.frames ≡ f ∷ callers → StandsWithout p typings 0 f
      → depth ≤ length callers → Each (f ∷ callers) → AllUnder P depth (f ∷ callers) → (nx : Next)
      → Stand p typings (followed p from e f callers y nx).frames → AreLeft (followed p from e f callers y nx).frames
  next_left from e f callers y frames_are stands high each under Falls stand = topmost_left _ callers each.1 under.1
  next_left from e f callers y frames_are stands high each under (Jumps n) stand = topmost_left _ callers each.1 under.1
  next_left from e f callers y frames_are stands high each under (JumpsIfSame same) stand = topmost_left _ callers each.1 under.1
  next_left from e f callers y frames_are stands high each under (Calls m) stand =
      topmost_left _ (record f { stack = drop e.takes f.stack } ∷ callers)
      (waiting_made p typings typed store made f e.takes stands each.0, each.1) ((λ less. absurd (omega (arith, high, less))), under.1)
  next_left from e f callers y frames_are stands high each under (Returns n) stand =
      returned_left n f callers y each.1 under.1 (subst AreLeft (sym frames_are) (all_left (f ∷ callers) each under))
  next_left from e f callers y frames_are stands high each under (Throws s) stand =
      thrown_left y (caught p (type_at p.outline y.areas.store (value_of from s)) (value_of from s) (f ∷ callers))
      (λ after is. caught_left (type_at p.outline y.areas.store (value_of from s)) (value_of from s) (f ∷ callers) each under after is)
      (subst AreLeft (sym frames_are) (all_left (f ∷ callers) each under))
  next_left from e f callers y frames_are stands high each under (Enters methods) stand =
      all_left (start_frames p methods ++ f ∷ callers) (started_made p typings typed store made methods (f ∷ callers) stand each)
      (starts_under methods (f ∷ callers) (omega (arith, high)) under)
  next_left from e f callers y frames_are stands high each under (Exits n) stand = subst AreLeft (sym frames_are) (all_left (f ∷ callers) each under)
  next_left from e f callers y frames_are stands high each under (Faults s) stand = subst AreLeft (sym frames_are) (all_left (f ∷ callers) each under)
