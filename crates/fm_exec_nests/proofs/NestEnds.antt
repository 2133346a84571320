-- The whole step of the row, once all arrays are made.
use Rattle.std.proofs.Common.{◌≡◌, ◌⊎◌, inl, inr, ℕ, ◌+◌, ◌-◌, ◌<◌, ◌≤◌, ◌^◌, None, List, [], ◌∷◌, max, min, length, ap, sym, ◌∙◌, subst, arith}
use Rattle.std.proofs.lemmas.Bool.{cases_lt}
use Rattle.std.proofs.lemmas.List.{append-nil}
use Rattle.fm_cells.specs.Soundness.{IsSound}
use Rattle.fm_cells.specs.Stores.{live_words}
use Rattle.fm_base.specs.declared.kinds.TypeRef.{TypeRef}
use Rattle.fm_frames.proofs.Acting.{done-one}
use Rattle.fm_frames.specs.Acts.{Choose, Did, performed}
use Rattle.fm_frames.specs.ArrayRows.{array_actions, arrays_made}
use Rattle.fm_frames.specs.Effects.{acting, Action, Effect, OfMade, Plain, Source, words}
use Rattle.fm_frames.specs.States.{Areas, Frame, ref, silent, State}
use Rattle.fm_frames.specs.Steps.{attempted, continued, done_by, objects_made, words_made}
use Rattle.fm_frames.specs.inner.Doings.{DoesIn, IsReady, NextFits, Underway}
use Rattle.fm_exec_nests.proofs.NestActions.{nest-objects, nest-words-then}
use Rattle.fm_exec_nests.specs.inner.Nests.{CanGive, CanNest, IsNest, nest_effect, nest_words, Nests}
use Rattle.fm_world.specs.Programs.{Outline, Program}
use Rattle.fm_frames.specs.Steps.{most_words, words_among}

-- ---- the words of all arrays

pub nest-made : (o : Outline) (x : Areas) (takes : ℕ) (t : TypeRef) (lens : List ℕ)
    → words_made o x (nest_effect takes t lens).actions ≡ min (nest_words o t lens) most_words
nest-made o x takes t lens =
    let all = nest-words-then o x [] t lens 0 [] in
    let same : words_among o x [] (array_actions t lens 0) ≡ nest_words o t lens + 0 =
    ap (words_among o x []) (sym (append-nil (array_actions t lens 0))) ∙ all in
    let plain : nest_words o t lens + 0 ≡ nest_words o t lens = omega arith in
    ap (λ n. min n most_words) (same ∙ plain)

-- ---- the price

-- the effect with what it gives
abbrev given_by : ℕ → List Action → Source → Effect
given_by takes actions source = record (acting takes actions) { gives = source ∷ [] }

abbrev with_steps : State → ℕ → State
with_steps x steps = record x { steps = steps }

-- a step of a price is a step of price 1 from where the others are counted already
priced : (p : Program) (x : State) (areas : Areas) (takes : ℕ) (actions : List Action) (made : List ℕ) (source : Source) (more : ℕ) (frames : List Frame)
    → done_by p 1 (given_by takes actions source) (record x { frames = frames; steps = x.steps + more }) (Did areas made)
    ≡ done_by p (more + 1) (given_by takes actions source) (record x { frames = frames }) (Did areas made)
priced p x areas takes actions made source more [] =
    let sum : x.steps + more + 1 ≡ x.steps + (more + 1) = omega arith in
    ap (λ n. silent (record x { frames = []; areas = areas; steps = n })) sum
priced p x areas takes actions made source more (f ∷ callers) =
    let sum : x.steps + more + 1 ≡ x.steps + (more + 1) = omega arith in
    ap (λ n. silent (continued p (record { locals = f.locals; stack = f.stack; areas = areas; made = made }) (given_by takes actions source) f callers
    (record x { frames = f ∷ callers; areas = areas; steps = n }))) sum

pub nest-given : (p : Program) (choose : Choose) (x y z : State) (takes : ℕ) (t : TypeRef) (lens : List ℕ) (array : ℕ) (others : List ℕ) (more : ℕ) → NextFits x.frames
    → more + 1 ≡ arrays_made lens → Underway p choose x y (nest_effect takes t lens) (array ∷ others) []
    → silent z ≡ attempted p choose (record y { steps = y.steps + more }) (words takes (Plain (ref array) ∷ []))
    → DoesIn p choose x z (nest_effect takes t lens)
unfolding performed
nest-given p choose x y z takes t lens array others more fits many so given =
    let actions : List Action = array_actions t lens 0 in
    let objects = nest-objects t lens 0 in
    let price : more + 1 ≡ max 1 (objects_made actions) = omega (arith, objects, many) in
    given
    ∙ ap (λ (y : State). attempted p choose (record y { steps = y.steps + more }) (words takes (Plain (ref array) ∷ []))) so.same
    ∙ done-one p choose (record x { steps = x.steps + more }) y.areas takes actions (array ∷ others) (OfMade 0) x.frames fits
    ∙ priced p x y.areas takes actions (array ∷ others) (OfMade 0) more x.frames
    ∙ ap (λ n. done_by p n (nest_effect takes t lens) x (Did y.areas (array ∷ others))) price
    ∙ sym so.so_far

-- ---- what comes of the arrays

-- the words that are asked for are there
pub nest-can : (o : Outline) (x : State) (t : TypeRef) (lens : List ℕ) (needed : ℕ) → CanGive x t lens → x.areas.store.budget ≤ 2 ^ 27 → IsSound x.areas.store
    → needed ≡ min (nest_words o t lens) most_words → (0 < needed → live_words x.areas.store + needed ≤ x.areas.store.budget) → CanNest o x t lens
nest-can o x t lens needed can budget sound is room =
    record { are = can.are; births = can.births; room = by_some (cases_lt 0 needed) } where
      by_some : (0 < needed) ⊎ (needed ≤ 0) → live_words x.areas.store + nest_words o t lens ≤ x.areas.store.budget
      by_some (inl some) = let fits = room some in omega (arith, fits, is, budget)
      by_some (inr none) =
          let lives = sound.live_within_peak in
          let peak = sound.peak_within_budget in
          omega (arith, none, is, lives, peak)

pub nest-stopped : (p : Program) (choose : Choose) (x b y : State) (takes : ℕ) (t : TypeRef) (lens : List ℕ)
    → Underway p choose x b (nest_effect takes t lens) [] (nest_effect takes t lens).actions → Nests p choose b y t lens None → DoesIn p choose x y (nest_effect takes t lens)
nest-stopped p choose x b y takes t lens so stops =
    stops x (nest_effect takes t lens) [] [] (subst (Underway p choose x b (nest_effect takes t lens) []) (sym (append-nil (array_actions t lens 0))) so)

pub nest-done : (p : Program) (choose : Choose) (x b y : State) (takes : ℕ) (t : TypeRef) (lens : List ℕ) (array : ℕ)
    → Underway p choose x b (nest_effect takes t lens) [] (nest_effect takes t lens).actions → (nest : IsNest p choose b y t lens array)
    → Underway p choose x y (nest_effect takes t lens) (array ∷ nest.others) []
nest-done p choose x b y takes t lens array so nest =
    nest.leads x (nest_effect takes t lens) [] [] (subst (Underway p choose x b (nest_effect takes t lens) []) (sym (append-nil (array_actions t lens 0))) so)

-- the births give how many arrays were made
pub nest-count : (p : Program) (choose : Choose) (b y : State) (t : TypeRef) (lens : List ℕ) (array before after : ℕ) → IsNest p choose b y t lens array
    → before ≡ b.areas.store.births → after ≡ y.areas.store.births → after - before ≡ arrays_made lens
nest-count p choose b y t lens array before after nest old new = let births = nest.grows.births in omega (arith, old, new, births)

pub nest-some : (lens : List ℕ) → 0 < length lens → 0 < arrays_made lens
nest-some [] some = absurd (omega (arith, some))
nest-some (len ∷ []) some = omega arith
nest-some (len ∷ next ∷ lens) some = omega arith

-- the steps of all arrays but one can be counted, and then that of the instruction
pub nest-steps : (p : Program) (choose : Choose) (x y : State) (e : Effect) (made : List ℕ) (left : List Action) (t : TypeRef) (lens : List ℕ) (count : ℕ)
    → CanGive x t lens → Underway p choose x y e made left → count ≡ arrays_made lens → y.steps + (count - 1) < 2 ^ 64
nest-steps p choose x y e made left t lens count can so is =
    let same : y.steps ≡ x.steps = ap (λ (y : State). y.steps) so.same in
    let fits = can.steps in
    let some = nest-some lens can.are.some in
    omega (arith, same, fits, some, is)

pub nest-ready : (p : Program) (choose : Choose) (x y z : State) (e : Effect) (made : List ℕ) (left : List Action) (t : TypeRef) (lens : List ℕ) (count : ℕ)
    → NextFits x.frames → CanGive x t lens → Underway p choose x y e made left → count ≡ arrays_made lens → z ≡ record y { steps = y.steps + (count - 1) } → IsReady z
nest-ready p choose x y z e made left t lens count fits can so is counted =
    let same : y.steps ≡ x.steps = ap (λ (y : State). y.steps) so.same in
    let whole : z.steps ≡ y.steps + (count - 1) = ap (λ (z : State). z.steps) counted in
    let frames : z.frames ≡ x.frames = ap (λ (z : State). z.frames) counted ∙ ap (λ (y : State). y.frames) so.same in
    let room = can.steps in
    let some = nest-some lens can.are.some in
    record { next_fits = subst NextFits (sym frames) fits; step_fits = omega (arith, same, whole, room, some, is) }

-- the whole step
pub nest-whole : (p : Program) (choose : Choose) (x y z w : State) (takes : ℕ) (t : TypeRef) (lens : List ℕ) (array : ℕ) (others : List ℕ) (count : ℕ) → NextFits x.frames
    → 0 < length lens → Underway p choose x y (nest_effect takes t lens) (array ∷ others) [] → count ≡ arrays_made lens → z ≡ record y { steps = y.steps + (count - 1) }
    → silent w ≡ attempted p choose z (words takes (Plain (ref array) ∷ [])) → DoesIn p choose x w (nest_effect takes t lens)
nest-whole p choose x y z w takes t lens array others count fits some so is counted given =
    let more = nest-some lens some in
    let many : count - 1 + 1 ≡ arrays_made lens = omega (arith, more, is) in
    nest-given p choose x y w takes t lens array others (count - 1) fits many so
    (given ∙ ap (λ (z : State). attempted p choose z (words takes (Plain (ref array) ∷ []))) counted)
