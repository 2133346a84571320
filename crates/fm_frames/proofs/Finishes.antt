-- The result of an effect that makes nothing: the frame on top goes on, and one step is counted.
use Rattle.std.proofs.Common.{◌≡◌, ℕ, ◌+◌, List, [], ◌∷◌, ◌++◌, map, drop, set, Some, None, option_map, refl, ap, sym, ◌∙◌, subst}
use Rattle.std.proofs.lemmas.Option.{none-some, same_Some}
use Rattle.fm_world.specs.Programs.{Program}
use Rattle.fm_frames.specs.Acts.{cell_of, Choose, performed, value_of}
use Rattle.fm_frames.specs.Effects.{Source, Plain, Faults, going, words}
use Rattle.fm_frames.specs.States.{Frame, silent, State}
use Rattle.fm_frames.specs.Steps.{attempted, continued, offset_at, written}
use Rattle.fm_frames.specs.declared.ends.Ended.TheVariants as end
use Rattle.fm_frames.specs.declared.values.Value.{Value}
use Rattle.fm_frames.specs.declared.values.Value.TheVariants as value
use Rattle.fm_frames.specs.inner.Doings.{before, NextFits}
use Rattle.fm_frames.specs.inner.Frames.{on_top, place_of, topmost}

-- the frame after words are taken and given, and locals written
abbrev pub frame_after : State → (takes : ℕ) (gives : List Source) (writes : List (ℕ × Source)) → Frame → Frame
frame_after x takes gives writes f = record f {
  item = f.item + 1;
  locals = written (before x) writes f.locals;
  stack = map (value_of (before x)) gives ++ drop takes f.stack;
}

finishes : (p : Program) (choose : Choose) (x : State) (f : Frame) (callers : List Frame) (takes : ℕ) (gives : List Source) (writes : List (ℕ × Source))
    → silent (record x { frames = frame_after (record x { frames = f ∷ callers }) takes gives writes f ∷ callers; steps = x.steps + 1 })
    ≡ attempted p choose (record x { frames = f ∷ callers }) (record (words takes gives) { writes = writes })
unfolding performed continued
finishes p choose x f callers takes gives writes = refl

-- of a machine whose state was this one: its frames now are given where there is a topmost one
pub finished-by : (p : Program) (choose : Choose) (old x : State) (frames : List Frame) (takes : ℕ) (gives : List Source) (writes : List (ℕ × Source))
    → old ≡ x → NextFits x.frames
    → ((f : Frame) (callers : List Frame) → old.frames ≡ f ∷ callers → frames ≡ frame_after (record old { frames = f ∷ callers }) takes gives writes f ∷ callers)
    → silent (record old { frames = frames; steps = old.steps + 1 }) ≡ attempted p choose x (record (words takes gives) { writes = writes })
finished-by p choose old x frames takes gives writes is fits told =
    let P : State → Type 0 = λ x. NextFits x.frames
    → silent (record old { frames = frames; steps = old.steps + 1 }) ≡ attempted p choose x (record (words takes gives) { writes = writes }) in
    subst P is (λ fits. by_frames old.frames fits told) fits where
      by_frames : (frames' : List Frame) → NextFits frames'
          → ((f : Frame) (callers : List Frame) → frames' ≡ f ∷ callers → frames ≡ frame_after (record old { frames = f ∷ callers }) takes gives writes f ∷ callers)
          → silent (record old { frames = frames; steps = old.steps + 1 })
          ≡ attempted p choose (record old { frames = frames' }) (record (words takes gives) { writes = writes })
      by_frames [] fits told = absurd fits
      by_frames (f ∷ callers) fits told =
          ap (λ fs. silent (record old { frames = fs; steps = old.steps + 1 })) (told f callers refl) ∙ finishes p choose old f callers takes gives writes

-- one change of the topmost frame after the other
pub on_top-then : (first then : Frame → Frame) (frames : List Frame) → on_top then (on_top first frames) ≡ on_top (λ f. then (first f)) frames
on_top-then first then [] = refl
on_top-then first then (f ∷ callers) = refl

-- where the frames now are those of one change of the topmost one
pub finished-top : (p : Program) (choose : Choose) (old x : State) (frames : List Frame) (change : Frame → Frame) (takes : ℕ) (gives : List Source) (writes : List (ℕ × Source))
    → old ≡ x → NextFits x.frames → frames ≡ on_top change old.frames
    → ((f : Frame) (callers : List Frame) → old.frames ≡ f ∷ callers → change f ≡ frame_after (record old { frames = f ∷ callers }) takes gives writes f)
    → silent (record old { frames = frames; steps = old.steps + 1 }) ≡ attempted p choose x (record (words takes gives) { writes = writes })
finished-top p choose old x frames change takes gives writes is fits changed told =
    finished-by p choose old x frames takes gives writes is fits
    (λ f callers at. changed ∙ ap (on_top change) at ∙ ap (λ g. g ∷ callers) (told f callers at))

-- a source of the state that is known by its topmost frame
pub source-at : (old x : State) (source : Source) (v : Value) → old ≡ x → value_of (before x) source ≡ v
    → (f : Frame) (callers : List Frame) → old.frames ≡ f ∷ callers → value_of (before (record old { frames = f ∷ callers })) source ≡ v
source-at old x source v is told f callers at =
    subst (λ fs. value_of (before (record old { frames = fs })) source ≡ v) at (subst (λ (y : State). value_of (before y) source ≡ v) (sym is) told)

-- ---- the calls of a machine: what its frames became by one call after the other

abbrev pub moved_on : Frame → Frame
moved_on f = record f { item = f.item + 1 }

abbrev pub without_words : ℕ → Frame → Frame
without_words count f = record f { stack = drop count f.stack }

abbrev pub with_word : Value → Frame → Frame
with_word v f = record f { stack = v ∷ f.stack }

abbrev pub with_local : ℕ → Value → Frame → Frame
with_local k v f = record f { locals = set f.locals k v }

pub took : (p : Program) (choose : Choose) (old x : State) (moved frames : List Frame) (takes : ℕ)
    → old ≡ x → NextFits x.frames → moved ≡ on_top moved_on old.frames → frames ≡ on_top (without_words takes) moved
    → silent (record old { frames = frames; steps = old.steps + 1 }) ≡ attempted p choose x (words takes [])
took p choose old x moved frames takes is fits one two =
    finished-top p choose old x frames (λ f. without_words takes (moved_on f)) takes [] [] is fits
    (two ∙ ap (on_top (without_words takes)) one ∙ on_top-then moved_on (without_words takes) old.frames)
    (λ f callers at. refl)

pub given : (p : Program) (choose : Choose) (old x : State) (moved frames : List Frame) (takes : ℕ) (v : Value) (source : Source)
    → old ≡ x → NextFits x.frames → moved ≡ on_top moved_on old.frames → frames ≡ on_top (λ f. with_word v (without_words takes f)) moved
    → value_of (before x) source ≡ v
    → silent (record old { frames = frames; steps = old.steps + 1 }) ≡ attempted p choose x (words takes (source ∷ []))
given p choose old x moved frames takes v source is fits one two told =
    finished-top p choose old x frames (λ f. with_word v (without_words takes (moved_on f))) takes (source ∷ []) [] is fits
    (two ∙ ap (on_top (λ f. with_word v (without_words takes f))) one
    ∙ on_top-then moved_on (λ f. with_word v (without_words takes f)) old.frames)
    (λ f callers at. ap (λ w. record f { item = f.item + 1; stack = w ∷ drop takes f.stack }) (sym (source-at old x source v is told f callers at)))

pub given_wide : (p : Program) (choose : Choose) (old x : State) (moved half frames : List Frame) (takes : ℕ) (v : Value) (source : Source)
    → old ≡ x → NextFits x.frames → moved ≡ on_top moved_on old.frames → half ≡ on_top (λ f. with_word v (without_words takes f)) moved
    → frames ≡ on_top (with_word value.Top) half → value_of (before x) source ≡ v
    → silent (record old { frames = frames; steps = old.steps + 1 }) ≡ attempted p choose x (words takes (Plain value.Top ∷ source ∷ []))
given_wide p choose old x moved half frames takes v source is fits one two three told =
    finished-top p choose old x frames (λ f. with_word value.Top (with_word v (without_words takes (moved_on f)))) takes (Plain value.Top ∷ source ∷ []) [] is fits
    (three ∙ ap (on_top (with_word value.Top)) (two ∙ ap (on_top (λ f. with_word v (without_words takes f))) one
    ∙ on_top-then moved_on (λ f. with_word v (without_words takes f)) old.frames)
    ∙ on_top-then (λ f. with_word v (without_words takes (moved_on f))) (with_word value.Top) old.frames)
    (λ f callers at. ap (λ w. record f { item = f.item + 1; stack = value.Top ∷ w ∷ drop takes f.stack }) (sym (source-at old x source v is told f callers at)))

pub stored_word : (p : Program) (choose : Choose) (old x : State) (moved dropped frames : List Frame) (takes k : ℕ) (v : Value) (source : Source)
    → old ≡ x → NextFits x.frames → moved ≡ on_top moved_on old.frames → dropped ≡ on_top (without_words takes) moved
    → frames ≡ on_top (with_local k v) dropped → value_of (before x) source ≡ v
    → silent (record old { frames = frames; steps = old.steps + 1 }) ≡ attempted p choose x (record (words takes []) { writes = (k, source) ∷ [] })
stored_word p choose old x moved dropped frames takes k v source is fits one two three told =
    finished-top p choose old x frames (λ f. with_local k v (without_words takes (moved_on f))) takes [] ((k, source) ∷ []) is fits
    (three
    ∙ ap (on_top (with_local k v)) (two ∙ ap (on_top (without_words takes)) one ∙ on_top-then moved_on (without_words takes) old.frames)
    ∙ on_top-then (λ f. without_words takes (moved_on f)) (with_local k v) old.frames)
    (λ f callers at. ap (λ w. record f { item = f.item + 1; locals = set f.locals k w; stack = drop takes f.stack }) (sym (source-at old x source v is told f callers at)))

pub stored_wide : (p : Program) (choose : Choose) (old x : State) (moved dropped half frames : List Frame) (takes k : ℕ) (v : Value) (source : Source)
    → old ≡ x → NextFits x.frames → moved ≡ on_top moved_on old.frames → dropped ≡ on_top (without_words takes) moved
    → half ≡ on_top (with_local k v) dropped → frames ≡ on_top (with_local (k + 1) value.Top) half → value_of (before x) source ≡ v
    → silent (record old { frames = frames; steps = old.steps + 1 })
    ≡ attempted p choose x (record (words takes []) { writes = (k, source) ∷ (k + 1, Plain value.Top) ∷ [] })
stored_wide p choose old x moved dropped half frames takes k v source is fits one two three four told =
    finished-top p choose old x frames (λ f. with_local (k + 1) value.Top (with_local k v (without_words takes (moved_on f)))) takes []
    ((k, source) ∷ (k + 1, Plain value.Top) ∷ []) is fits
    (four ∙ ap (on_top (with_local (k + 1) value.Top)) (three
    ∙ ap (on_top (with_local k v)) (two ∙ ap (on_top (without_words takes)) one ∙ on_top-then moved_on (without_words takes) old.frames)
    ∙ on_top-then (λ f. without_words takes (moved_on f)) (with_local k v) old.frames)
    ∙ on_top-then (λ f. with_local k v (without_words takes (moved_on f))) (with_local (k + 1) value.Top) old.frames)
    (λ f callers at. ap (λ w. record f { item = f.item + 1; locals = set (set f.locals k w) (k + 1) value.Top; stack = drop takes f.stack })
    (sym (source-at old x source v is told f callers at)))

-- ---- steps that can't be done

in_frame : (p : Program) (choose : Choose) (old : State) (source : Source) (f : Frame) (callers : List Frame) (method offset cell : ℕ)
    → method ≡ f.method → offset ≡ offset_at p f → cell_of (value_of (before (record old { frames = f ∷ callers })) source) ≡ cell
    → silent (record old { frames = f ∷ callers; ended = Some (end.Fault (record { 0 = method }) offset cell) })
    ≡ attempted p choose (record old { frames = f ∷ callers }) (going 0 (Faults source))
unfolding performed continued
in_frame p choose old source f callers method offset cell m o told =
    λ i. silent (record old { frames = f ∷ callers; ended = Some (end.Fault (record { 0 = m i }) (o i) (sym told i)) })

without_frames : (p : Program) (choose : Choose) (old : State) (source : Source)
    → silent (record old { frames = [] }) ≡ attempted p choose (record old { frames = [] }) (going 0 (Faults source))
unfolding performed continued
without_frames p choose old source = refl

pub faulted : (p : Program) (choose : Choose) (old x : State) (source : Source) (cell method item offset : ℕ)
    → old ≡ x → cell_of (value_of (before x) source) ≡ cell → Some (method, item) ≡ option_map place_of (topmost old.frames)
    → ((f : Frame) → f.method ≡ method → f.item ≡ item → offset ≡ offset_at p f)
    → silent (record old { ended = Some (end.Fault (record { 0 = method }) offset cell) }) ≡ attempted p choose x (going 0 (Faults source))
faulted p choose old x source cell method item offset is told at offset_is =
    let P : State → Type 0 = λ x. cell_of (value_of (before x) source) ≡ cell
    → silent (record old { ended = Some (end.Fault (record { 0 = method }) offset cell) }) ≡ attempted p choose x (going 0 (Faults source)) in
    subst P is (by_frames old.frames at) told where
      by_frames : (frames : List Frame) → Some (method, item) ≡ option_map place_of (topmost frames)
          → cell_of (value_of (before (record old { frames = frames })) source) ≡ cell
          → silent (record old { frames = frames; ended = Some (end.Fault (record { 0 = method }) offset cell) })
          ≡ attempted p choose (record old { frames = frames }) (going 0 (Faults source))
      by_frames [] at told = absurd (none-some _ (sym at))
      by_frames (f ∷ callers) at told =
          let place : (method, item) ≡ (f.method, f.item) = same_Some _ _ at in
          let m : method ≡ f.method = ap (λ x. x.0) place in
          let j : item ≡ f.item = ap (λ x. x.1) place in
          in_frame p choose old source f callers method offset cell m (offset_is f (sym m) (sym j)) told

pub faulted-none : (p : Program) (choose : Choose) (old x : State) (source : Source)
    → old ≡ x → None ≡ option_map place_of (topmost old.frames) → silent x ≡ attempted p choose x (going 0 (Faults source))
faulted-none p choose old x source is none =
    let P : State → Type 0 = λ x. silent x ≡ attempted p choose x (going 0 (Faults source)) in
    subst P is (by_frames old.frames none) where
      by_frames : (frames : List Frame) → None ≡ option_map place_of (topmost frames)
          → silent (record old { frames = frames }) ≡ attempted p choose (record old { frames = frames }) (going 0 (Faults source))
      by_frames [] none = without_frames p choose old source
      by_frames (f ∷ callers) none = absurd (none-some _ none)
