-- The result of giving several words: they are pushed one by one, the last of them first.
use Rattle.std.proofs.Common.{◌≡◌, ℕ, ◌+◌, ◌-◌, ◌≤◌, List, [], ◌∷◌, ◌++◌, length, map, drop, get_or, refl, ap, sym, ◌∙◌, subst, arith, add-one, drop-cons, drop_of_length-le}
use Rattle.fm_world.specs.Programs.{Program}
use Rattle.fm_frames.proofs.Finishes.{finished-top, moved_on, on_top-then, with_word, without_words}
use Rattle.fm_frames.specs.Acts.{Choose, value_of}
use Rattle.fm_frames.specs.Effects.{Source, words}
use Rattle.fm_frames.specs.States.{Frame, silent, State}
use Rattle.fm_frames.specs.Steps.{attempted}
use Rattle.fm_frames.specs.declared.values.Value.{Value}
use Rattle.fm_frames.specs.inner.Doings.{before, NextFits}
use Rattle.fm_frames.specs.inner.Frames.{on_top, with_words}

-- ---- one word after the other

no-words : (frames : List Frame) → frames ≡ on_top (with_words []) frames
no-words [] = refl
no-words (f ∷ callers) = refl

pub none-pushed : (pushed : List Value) (frames : List Frame) → frames ≡ on_top (with_words (drop (length pushed - 0) pushed)) frames
none-pushed pushed frames =
    no-words frames ∙ ap (λ w. on_top (with_words w) frames) (sym (drop_of_length-le pushed {i = length pushed - 0} (omega arith)))

pub more-pushed : (pushed : List Value) (k i : ℕ) (v d : Value) (first frames next : List Frame) → i + k + 1 ≡ length pushed → v ≡ get_or pushed i d
    → frames ≡ on_top (with_words (drop (length pushed - k) pushed)) first → next ≡ on_top (with_word v) frames
    → next ≡ on_top (with_words (drop (length pushed - (k + 1)) pushed)) first
more-pushed pushed k i v d first frames next many is so_far one =
    let here : length pushed - k ≡ i + 1 = omega arith in
    let there : i ≡ length pushed - (k + 1) = omega arith in
    one ∙ ap (on_top (with_word v)) (so_far ∙ ap (λ n. on_top (with_words (drop n pushed)) first) here)
    ∙ on_top-then (with_words (drop (i + 1) pushed)) (with_word v) first
    ∙ ap (λ w. on_top (with_words w) first)
    (ap (λ w. w ∷ drop (i + 1) pushed) is ∙ ap (λ n. get_or pushed i d ∷ drop n pushed) (add-one i) ∙ sym (drop-cons pushed i d (omega arith)))
    ∙ ap (λ n. on_top (with_words (drop n pushed)) first) there

pub all-pushed : (pushed : List Value) (k : ℕ) (first frames : List Frame) → length pushed ≤ k
    → frames ≡ on_top (with_words (drop (length pushed - k) pushed)) first → frames ≡ on_top (with_words pushed) first
all-pushed pushed k first frames done is =
    let none : length pushed - k ≡ 0 = omega arith in
    is ∙ ap (λ n. on_top (with_words (drop n pushed)) first) none

-- ---- the step

-- sources of the state that is known by its topmost frame
sources-at : (old x : State) (sources : List Source) (vs : List Value) → old ≡ x → map (value_of (before x)) sources ≡ vs
    → (f : Frame) (callers : List Frame) → old.frames ≡ f ∷ callers → map (value_of (before (record old { frames = f ∷ callers }))) sources ≡ vs
sources-at old x sources vs is told f callers at =
    subst (λ fs. map (value_of (before (record old { frames = fs }))) sources ≡ vs) at
    (subst (λ (y : State). map (value_of (before y)) sources ≡ vs) (sym is) told)

pub gave-words : (p : Program) (choose : Choose) (old x : State) (moved dropped frames : List Frame) (takes : ℕ) (vs : List Value) (sources : List Source)
    → old ≡ x → NextFits x.frames → moved ≡ on_top moved_on old.frames → dropped ≡ on_top (without_words takes) moved
    → frames ≡ on_top (with_words vs) dropped → map (value_of (before x)) sources ≡ vs
    → silent (record old { frames = frames; steps = old.steps + 1 }) ≡ attempted p choose x (words takes sources)
gave-words p choose old x moved dropped frames takes vs sources is fits one two three told =
    finished-top p choose old x frames (λ f. with_words vs (without_words takes (moved_on f))) takes sources [] is fits
    (three
    ∙ ap (on_top (with_words vs)) (two ∙ ap (on_top (without_words takes)) one ∙ on_top-then moved_on (without_words takes) old.frames)
    ∙ on_top-then (λ f. without_words takes (moved_on f)) (with_words vs) old.frames)
    (λ f callers at. ap (λ w. record f { item = f.item + 1; stack = w ++ drop takes f.stack }) (sym (sources-at old x sources vs is told f callers at)))
