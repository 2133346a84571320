-- A call: the frames after it, or the end where too many frames would be there.
use Rattle.std.proofs.Common.{◌≡◌, ℕ, ◌+◌, ◌<◌, ◌≤◌, Bool, true, false, nat_lt, if◌then◌else◌, List, [], ◌∷◌, length, drop, slice_get, option_map, ◌^◌, Some, refl, ap, sym, ◌∙◌, subst, arith}
use Rattle.std.proofs.lemmas.Bool.{lt-ltb, le-ltb}
use Rattle.std.proofs.lemmas.Option.{none-some, same_Some}
use Rattle.fm_world.specs.Members.{methods_of}
use Rattle.fm_world.specs.Programs.{Program}
use Rattle.fm_frames.specs.Acts.{Choose, performed}
use Rattle.fm_frames.specs.Effects.{Calls, Returns, going}
use Rattle.fm_frames.specs.States.{Frame, silent, State}
use Rattle.fm_frames.specs.Steps.{attempted, continued, halted, is_start, max_locals_of}
use Rattle.fm_frames.specs.declared.ends.Ended.TheVariants as end
use Rattle.fm_frames.specs.inner.Doings.{AreFramesIn, CanStep, NextFits}
use Rattle.fm_frames.specs.inner.Frames.{place_of, topmost, with_called, with_result}
use Rattle.fm_frames.specs.States.{Moved}

-- a call by whether it is too deep
abbrev called_by : Program → ℕ → ℕ → State → Bool → Moved
called_by p words method x true = halted x (end.TooDeep (length x.frames))
called_by p words method x false =
    silent (record x { frames = with_called method (max_locals_of p method) words x.frames; steps = x.steps + 1 })

calls : (p : Program) (choose : Choose) (x : State) (words method : ℕ) (frames : List Frame) → NextFits frames
    → attempted p choose (record x { frames = frames }) (going words (Calls method))
    ≡ called_by p words method (record x { frames = frames }) (nat_lt x.depth (length frames + 1))
unfolding performed continued
calls p choose x words method [] fits = absurd fits
calls p choose x words method (f ∷ callers) fits = by_depth (nat_lt x.depth (length (f ∷ callers) + 1)) where
  by_depth : (deep : Bool)
      → (if deep then halted (record x { frames = f ∷ callers }) (end.TooDeep (length (f ∷ callers))) else
      silent (record x { frames = with_called method (max_locals_of p method) words (f ∷ callers); steps = x.steps + 1 }))
      ≡ called_by p words method (record x { frames = f ∷ callers }) deep
  by_depth true = refl
  by_depth false = refl

pub too-deep : (p : Program) (choose : Choose) (old x : State) (words method : ℕ) → old ≡ x → NextFits x.frames
    → length x.frames ≤ x.depth → old.depth ≤ length old.frames
    → silent (record old { ended = Some (end.TooDeep old.depth) }) ≡ attempted p choose x (going words (Calls method))
too-deep p choose old x words method is fits within deep =
    let P : State → Type 0 = λ x. NextFits x.frames → length x.frames ≤ x.depth
    → silent (record old { ended = Some (end.TooDeep old.depth) }) ≡ attempted p choose x (going words (Calls method)) in
    subst P is
    (λ fits within.
    let count : old.depth ≡ length old.frames = omega arith in
    (λ i. silent (record old { ended = Some (end.TooDeep (count i)) }))
    ∙ sym (calls p choose old words method old.frames fits
    ∙ ap (called_by p words method old) (lt-ltb old.depth (length old.frames + 1) (omega arith))))
    fits within

pub called-one : (p : Program) (choose : Choose) (old x : State) (words method max_locals : ℕ) (frames : List Frame) → old ≡ x → NextFits x.frames
    → length old.frames < old.depth → max_locals ≡ max_locals_of p method → frames ≡ with_called method max_locals words old.frames
    → silent (record old { frames = frames; steps = old.steps + 1 }) ≡ attempted p choose x (going words (Calls method))
called-one p choose old x words method max_locals frames is fits room many entered =
    let P : State → Type 0 = λ x. NextFits x.frames
    → silent (record old { frames = frames; steps = old.steps + 1 }) ≡ attempted p choose x (going words (Calls method)) in
    subst P is
    (λ fits.
    ap (λ fs. silent (record old { frames = fs; steps = old.steps + 1 }))
    (entered ∙ ap (λ n. with_called method n words old.frames) many)
    ∙ sym (calls p choose old words method old.frames fits
    ∙ ap (called_by p words method old) (le-ltb old.depth (length old.frames + 1) (omega arith))))
    fits

-- ---- returns

-- a return from a frame by those below it, and by whether it starts its class
abbrev left_by : ℕ → (x : State) → Frame → List Frame → (starts : Bool) → State
left_by words x f [] starts = record x { ended = Some end.Returned; steps = x.steps + 1 }
left_by words x f (caller ∷ callers) starts =
    if starts then record x { frames = caller ∷ callers; steps = x.steps + 1 }
    else record x { frames = with_result words (f ∷ caller ∷ callers); steps = x.steps + 1 }

leaves : (p : Program) (choose : Choose) (x : State) (words : ℕ) (f : Frame) (callers : List Frame)
    → silent (left_by words (record x { frames = f ∷ callers }) f callers (is_start p.outline f.method))
    ≡ attempted p choose (record x { frames = f ∷ callers }) (going 0 (Returns words))
unfolding performed continued
leaves p choose x words f [] = refl
leaves p choose x words f (caller ∷ callers) = refl

-- what the frames of a machine are that has one on top
pub record HasTop (frames : List Frame) (method : ℕ) : Type 0 where
  pub f : Frame
  pub callers : List Frame
  pub is : frames ≡ f ∷ callers
  pub of_method : f.method ≡ method

pub has-top : (frames : List Frame) (method item : ℕ) → Some (method, item) ≡ option_map place_of (topmost frames) → HasTop frames method
has-top [] method item at = absurd (none-some _ (sym at))
has-top (f ∷ callers) method item at =
    record { f = f; callers = callers; is = refl; of_method = sym (ap (λ x. x.0) (same_Some _ _ at)) }

-- the state with its frames given
told-frames : (p : Program) (choose : Choose) (old x : State) (words : ℕ) (f : Frame) (callers : List Frame) → old ≡ x → old.frames ≡ f ∷ callers
    → silent (left_by words old f callers (is_start p.outline f.method)) ≡ attempted p choose x (going 0 (Returns words))
told-frames p choose old x words f callers is at =
    let P : State → Type 0 = λ x. silent (left_by words old f callers (is_start p.outline f.method)) ≡ attempted p choose x (going 0 (Returns words)) in
    let Q : List Frame → Type 0 = λ fs. silent (left_by words (record old { frames = fs }) f callers (is_start p.outline f.method))
    ≡ attempted p choose (record old { frames = fs }) (going 0 (Returns words)) in
    subst P is (subst Q (sym at) (leaves p choose old words f callers))

pub left-main : (p : Program) (choose : Choose) (old x : State) (words method item : ℕ) → old ≡ x
    → Some (method, item) ≡ option_map place_of (topmost old.frames) → length old.frames ≡ 1
    → silent (record old { ended = Some end.Returned; steps = old.steps + 1 }) ≡ attempted p choose x (going 0 (Returns words))
left-main p choose old x words method item is at one =
    let top = has-top old.frames method item at in
    by_callers top.callers top.is where
      by_callers : {f : Frame} (callers : List Frame) → old.frames ≡ f ∷ callers
          → silent (record old { ended = Some end.Returned; steps = old.steps + 1 }) ≡ attempted p choose x (going 0 (Returns words))
      by_callers {f} [] told = told-frames p choose old x words f [] is told
      by_callers {f} (caller ∷ callers) told = absurd (omega (arith, one, ap length told))

pub left-start : (p : Program) (choose : Choose) (old x : State) (words method item : ℕ) (frames : List Frame) → old ≡ x
    → Some (method, item) ≡ option_map place_of (topmost old.frames) → (length old.frames ≡ 1 → ⊥) → true ≡ is_start p.outline method
    → frames ≡ drop 1 old.frames
    → silent (record old { frames = frames; steps = old.steps + 1 }) ≡ attempted p choose x (going 0 (Returns words))
left-start p choose old x words method item frames is at more starts popped =
    let top = has-top old.frames method item at in
    by_callers top.f top.callers top.is top.of_method where
      by_callers : (f : Frame) (callers : List Frame) → old.frames ≡ f ∷ callers → f.method ≡ method
          → silent (record old { frames = frames; steps = old.steps + 1 }) ≡ attempted p choose x (going 0 (Returns words))
      by_callers f [] told of_method = absurd (more (ap length told))
      by_callers f (caller ∷ callers) told of_method =
          ap (λ fs. silent (record old { frames = fs; steps = old.steps + 1 })) (popped ∙ ap (drop 1) told)
          ∙ ap (λ b. silent (left_by words old f (caller ∷ callers) b)) (starts ∙ ap (is_start p.outline) (sym of_method))
          ∙ told-frames p choose old x words f (caller ∷ callers) is told

pub left-caller : (p : Program) (choose : Choose) (old x : State) (words method item : ℕ) (frames : List Frame) → old ≡ x
    → Some (method, item) ≡ option_map place_of (topmost old.frames) → (length old.frames ≡ 1 → ⊥) → false ≡ is_start p.outline method
    → frames ≡ with_result words old.frames
    → silent (record old { frames = frames; steps = old.steps + 1 }) ≡ attempted p choose x (going 0 (Returns words))
left-caller p choose old x words method item frames is at more starts given =
    let top = has-top old.frames method item at in
    by_callers top.f top.callers top.is top.of_method where
      by_callers : (f : Frame) (callers : List Frame) → old.frames ≡ f ∷ callers → f.method ≡ method
          → silent (record old { frames = frames; steps = old.steps + 1 }) ≡ attempted p choose x (going 0 (Returns words))
      by_callers f [] told of_method = absurd (more (ap length told))
      by_callers f (caller ∷ callers) told of_method =
          ap (λ fs. silent (record old { frames = fs; steps = old.steps + 1 })) (given ∙ ap (with_result words) told)
          ∙ ap (λ b. silent (left_by words old f (caller ∷ callers) b)) (starts ∙ ap (is_start p.outline) (sym of_method))
          ∙ told-frames p choose old x words f (caller ∷ callers) is told

-- the frame below the topmost one goes on
pub below-fits : (p : Program) (x : State) (method item : ℕ) → CanStep p x → Some (method, item) ≡ option_map place_of (topmost x.frames)
    → (length x.frames ≡ 1 → ⊥) → NextFits (drop 1 x.frames)
below-fits p x method item can at more = by_frames x.frames at more can.items_fit where
  by_frames : (frames : List Frame) → Some (method, item) ≡ option_map place_of (topmost frames) → (length frames ≡ 1 → ⊥)
      → ((k : ℕ) (f : Frame) → slice_get frames k ≡ Some f → f.item + 1 < 2 ^ 64) → NextFits (drop 1 frames)
  by_frames [] at more fits = absurd (none-some _ (sym at))
  by_frames (f ∷ []) at more fits = absurd (more refl)
  by_frames (f ∷ caller ∷ callers) at more fits = fits 1 caller refl

-- the topmost frame's method is there
pub method-inside : (p : Program) (x : State) (method item : ℕ) → CanStep p x → Some (method, item) ≡ option_map place_of (topmost x.frames)
    → method < length (methods_of p.outline.classes)
method-inside p x method item can at = by_frames x.frames at can.frames where
  by_frames : (frames : List Frame) → Some (method, item) ≡ option_map place_of (topmost frames) → AreFramesIn p frames
      → method < length (methods_of p.outline.classes)
  by_frames [] at inside = absurd (none-some _ (sym at))
  by_frames (f ∷ callers) at inside =
      subst (λ m. m < length (methods_of p.outline.classes)) (sym (ap (λ x. x.0) (same_Some _ _ at))) (inside 0 f refl)
