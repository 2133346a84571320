-- The result of jumps: the frame on top goes on at an item, and one step is counted.
use Rattle.std.proofs.Common.{◌≡◌, ℕ, ◌+◌, Bool, true, false, List, [], ◌∷◌, drop, if◌then◌else◌, refl, ap, sym, ◌∙◌, subst}
use Rattle.fm_world.specs.Programs.{Program}
use Rattle.fm_frames.proofs.Finishes.{without_words}
use Rattle.fm_frames.specs.Acts.{Choose, performed}
use Rattle.fm_frames.specs.Effects.{Jumps, JumpsIfSame, going, words}
use Rattle.fm_frames.specs.States.{Frame, silent, State}
use Rattle.fm_frames.specs.Steps.{attempted, continued, target_at}
use Rattle.fm_frames.specs.inner.Doings.{DoesIn}
use Rattle.fm_frames.specs.inner.Frames.{on_top}
use Rattle.fm_frames.specs.inner.Targets.{goes_same, IsTarget, IsTargetIn}

-- ---- to a target

abbrev at_item : ℕ → Frame → Frame
at_item item f = record f { item = item }

jumped-frames : (p : Program) (choose : Choose) (x : State) (frames : List Frame) (takes item target : ℕ) → IsTargetIn p frames target item
    → silent (record x { frames = on_top (without_words takes) (on_top (at_item item) frames); steps = x.steps + 1 })
    ≡ attempted p choose (record x { frames = frames }) (going takes (Jumps target))
unfolding performed continued
jumped-frames p choose x [] takes item target there = refl
jumped-frames p choose x (f ∷ callers) takes item target there =
    ap (λ i. silent (record x { frames = record f { item = i; stack = drop takes f.stack } ∷ callers; steps = x.steps + 1 })) there

-- a machine whose frames went to an item and then lost words
pub jumped : (p : Program) (choose : Choose) (old x : State) (gone frames : List Frame) (takes item target : ℕ)
    → old ≡ x → gone ≡ on_top (at_item item) old.frames → frames ≡ on_top (without_words takes) gone → IsTarget p x target item
    → silent (record old { frames = frames; steps = old.steps + 1 }) ≡ attempted p choose x (going takes (Jumps target))
jumped p choose old x gone frames takes item target is one two there =
    ap (λ fs. silent (record old { frames = fs; steps = old.steps + 1 })) (two ∙ ap (on_top (without_words takes)) one)
    ∙ jumped-frames p choose old old.frames takes item target (subst (λ (y : State). IsTarget p y target item) (sym is) there)
    ∙ ap (λ y. attempted p choose y (going takes (Jumps target))) is

-- ---- where two references are the same, or where they aren't

same-taken-frames : (p : Program) (choose : Choose) (x : State) (frames : List Frame) (same : Bool)
    → goes_same same (record x { frames = frames }) ≡ true
    → attempted p choose (record x { frames = frames }) (going 2 (Jumps 0)) ≡ attempted p choose (record x { frames = frames }) (going 2 (JumpsIfSame same))
unfolding performed continued
same-taken-frames p choose x [] same is = refl
same-taken-frames p choose x (f ∷ callers) same is =
    ap (λ b. silent (record x { frames = record f { item = (if b then target_at p f 0 else f.item + 1); stack = drop 2 f.stack } ∷ callers; steps = x.steps + 1 }))
    (sym is)

same-passed-frames : (p : Program) (choose : Choose) (x : State) (frames : List Frame) (same : Bool)
    → goes_same same (record x { frames = frames }) ≡ false
    → attempted p choose (record x { frames = frames }) (words 2 []) ≡ attempted p choose (record x { frames = frames }) (going 2 (JumpsIfSame same))
unfolding performed continued
same-passed-frames p choose x [] same is = refl
same-passed-frames p choose x (f ∷ callers) same is =
    ap (λ b. silent (record x { frames = record f { item = (if b then target_at p f 0 else f.item + 1); stack = drop 2 f.stack } ∷ callers; steps = x.steps + 1 }))
    (sym is)

pub same-jumps : (p : Program) (choose : Choose) (x y : State) (same taken : Bool) → taken ≡ goes_same same x → taken ≡ true
    → DoesIn p choose x y (going 2 (Jumps 0)) → DoesIn p choose x y (going 2 (JumpsIfSame same))
same-jumps p choose x y same taken is jumps does = does ∙ same-taken-frames p choose x x.frames same (sym is ∙ jumps)

pub same-passes : (p : Program) (choose : Choose) (x y : State) (same taken : Bool) → taken ≡ goes_same same x → taken ≡ false
    → DoesIn p choose x y (words 2 []) → DoesIn p choose x y (going 2 (JumpsIfSame same))
same-passes p choose x y same taken is passes does = does ∙ same-passed-frames p choose x x.frames same (sym is ∙ passes)
