-- What comes next after the actions of a step, as a table with a name; it leaves the areas.
use Rattle.std.proofs.Common.{◌≡◌, ℕ, ◌+◌, not, Bool, true, false, cond, if◌then◌else◌, List, [], ◌∷◌, ◌++◌, take, drop, reverse, refl}
use Rattle.fm_world.specs.Programs.{Program}
use Rattle.fm_frames.specs.Acts.{same_cell, Sources, value_of}
use Rattle.fm_frames.specs.Effects.{Effect, Next, Falls, Jumps, JumpsIfSame, Calls, Returns, Throws, Enters, Exits, Faults}
use Rattle.fm_frames.specs.States.{Areas, Frame, State, word_at}
use Rattle.fm_frames.specs.Steps.{caught, Caught, continued, fault_of, InFrames, is_start, Leaves, new_frame, returned, start_frames, stopped, target_at, thrown_by, type_at}
use Rattle.fm_frames.specs.Steps as steps
use Rattle.fm_frames.specs.declared.ends.Ended.TheVariants as end

-- the state once the actions are done, by what comes next
abbrev pub followed : Program → Sources → Effect → Frame → List Frame → State → Next → State
followed p from e f callers x Falls = record x { frames = steps.went from e f (f.item + 1) ∷ callers }
followed p from e f callers x (Jumps n) = record x { frames = steps.went from e f (target_at p f n) ∷ callers }
followed p from e f callers x (JumpsIfSame same) =
    let is_same = same_cell (word_at f.stack 0) (word_at f.stack 1) in
    record x { frames = steps.went from e f (if (if same then is_same else not is_same) then target_at p f 0 else f.item + 1) ∷ callers }
followed p from e f callers x (Calls m) =
    record x { frames = new_frame p m (reverse (take e.takes f.stack)) ∷ record f { stack = drop e.takes f.stack } ∷ callers }
followed p from e f callers x (Returns n) = returned p n f callers x
followed p from e f callers x (Throws source) =
    let v = value_of from source in thrown_by x (caught p (type_at p.outline x.areas.store v) v (f ∷ callers))
followed p from e f callers x (Enters methods) = record x { frames = start_frames p methods ++ f ∷ callers }
followed p from e f callers x (Exits n) = stopped x (end.Exit n)
followed p from e f callers x (Faults source) = stopped x (fault_of p x (value_of from source))

pub continued_is : (p : Program) (from : Sources) (e : Effect) (f : Frame) (callers : List Frame) (x : State)
    → continued p from e f callers x ≡ followed p from e f callers x e.next
unfolding continued
continued_is p from e f callers x = refl

-- what comes next leaves the areas

either_areas : (b : Bool) (one other : State) (areas : Areas) → one.areas ≡ areas → other.areas ≡ areas → (cond b one other).areas ≡ areas
either_areas true one other areas first second = first
either_areas false one other areas first second = second

returned_areas : (p : Program) (n : ℕ) (f : Frame) (callers : List Frame) (x : State) → (returned p n f callers x).areas ≡ x.areas
returned_areas p n f [] x = refl
returned_areas p n f (g ∷ callers) x =
    either_areas (is_start p.outline f.method) (record x { frames = g ∷ callers })
    (record x { frames = record g { item = g.item + 1; stack = take n f.stack ++ g.stack } ∷ callers }) x.areas refl refl

thrown_areas : (x : State) (c : Caught) → (thrown_by x c).areas ≡ x.areas
thrown_areas x (InFrames frames) = refl
thrown_areas x (Leaves e) = refl

pub followed_areas : (p : Program) (from : Sources) (e : Effect) (f : Frame) (callers : List Frame) (x : State) (nx : Next)
    → (followed p from e f callers x nx).areas ≡ x.areas
followed_areas p from e f callers x Falls = refl
followed_areas p from e f callers x (Jumps n) = refl
followed_areas p from e f callers x (JumpsIfSame same) = refl
followed_areas p from e f callers x (Calls m) = refl
followed_areas p from e f callers x (Returns n) = returned_areas p n f callers x
followed_areas p from e f callers x (Throws source) =
    thrown_areas x (caught p (type_at p.outline x.areas.store (value_of from source)) (value_of from source) (f ∷ callers))
followed_areas p from e f callers x (Enters methods) = refl
followed_areas p from e f callers x (Exits n) = refl
followed_areas p from e f callers x (Faults source) = refl
