-- What comes of effects that change only the areas: the frame on top goes on once the areas are
-- changed.
use Rattle.std.proofs.Common.{◌≡◌, ℕ, ◌+◌, ◌≤◌, ℤ, List, [], ◌∷◌, drop, map, set, length, true, Option, Some, None, option_map, refl, ap, sym, ◌∙◌, subst, arith}
use Rattle.std.proofs.lemmas.List.{drop-drop, map-set, set_past}
use Rattle.std.proofs.lemmas.Option.{none-some, same_Some}
use Rattle.fm_cells.specs.Answers.{head_at, head_of}
use Rattle.fm_cells.specs.Changes.{put_by, with_object}
use Rattle.fm_cells.specs.Objects.{Object}
use Rattle.fm_cells.specs.Stores.{object_at, Store}
use Rattle.fm_cells.specs.declared.answers.Cell.{Cell}
use Rattle.fm_cells.specs.declared.answers.Head.{Head}
use Rattle.fm_frames.proofs.Contents.{insert-same, put_in}
use Rattle.fm_frames.specs.Elements.{kept}
use Rattle.fm_base.specs.declared.kinds.Kind.{Kind}
use Rattle.fm_world.specs.Programs.{Program}
use Rattle.fm_frames.specs.Acts.{Choose, Did, literal_made, performed, put_value, set_static, Sources, value_of}
use Rattle.fm_frames.specs.Effects.{Action, Put, SetStatic, Source, Plain, Exits, acting, going, printing, words}
use Rattle.fm_frames.specs.States.{Areas, Frame, Moved, ref, silent, State}
use Rattle.fm_frames.specs.Steps.{attempted, continued, done_by, locals_of, stack_of}
use Rattle.fm_frames.specs.declared.ends.Ended.TheVariants as end
use Rattle.fm_frames.specs.declared.values.Value.{Value}
use Rattle.fm_frames.specs.inner.Doings.{before, NextFits}

-- ---- once all actions are done

-- where the values come from, once the areas are these and these cells were made
abbrev pub sources_in : State → Areas → List ℕ → Sources
sources_in x areas made = record { locals = locals_of x; stack = stack_of x; areas = areas; made = made }

pub done-none : (p : Program) (choose : Choose) (x : State) (areas : Areas) (takes : ℕ) (actions : List Action) (made : List ℕ) (frames : List Frame)
    → NextFits frames
    → attempted p choose (record x { frames = frames; areas = areas }) (words takes [])
    ≡ done_by p 1 (acting takes actions) (record x { frames = frames }) (Did areas made)
unfolding performed continued
done-none p choose x areas takes actions made [] fits = absurd fits
done-none p choose x areas takes actions made (f ∷ callers) fits = refl

pub done-one : (p : Program) (choose : Choose) (x : State) (areas : Areas) (takes : ℕ) (actions : List Action) (made : List ℕ) (source : Source) (frames : List Frame)
    → NextFits frames
    → attempted p choose (record x { frames = frames; areas = areas })
    (words takes (Plain (value_of (sources_in (record x { frames = frames }) areas made) source) ∷ []))
    ≡ done_by p 1 (record (acting takes actions) { gives = source ∷ [] }) (record x { frames = frames }) (Did areas made)
unfolding performed continued
done-one p choose x areas takes actions made source [] fits = absurd fits
done-one p choose x areas takes actions made source (f ∷ callers) fits = refl

-- ---- one value is put

put-performed : (p : Program) (choose : Choose) (x : State) (takes place : ℕ) (kind : Kind) (object source : Source)
    → attempted p choose x (acting takes (Put object place kind source ∷ []))
    ≡ done_by p 1 (acting takes (Put object place kind source ∷ [])) x
    (Did (put_value x.areas (value_of (before x) object) place kind (value_of (before x) source)) [])
unfolding performed
put-performed p choose x takes place kind object source = refl

pub put-done : (p : Program) (choose : Choose) (x y z : State) (takes cell place : ℕ) (kind : Kind) (object source : Source) (v : Value) → NextFits x.frames
    → value_of (before x) object ≡ ref cell → value_of (before x) source ≡ v
    → y ≡ record x { areas = put_value x.areas (ref cell) place kind v } → silent z ≡ attempted p choose y (words takes [])
    → silent z ≡ attempted p choose x (acting takes (Put object place kind source ∷ []))
put-done p choose x y z takes cell place kind object source v fits to from is took =
    took ∙ ap (λ (y : State). attempted p choose y (words takes [])) is
    ∙ done-none p choose x (put_value x.areas (ref cell) place kind v) takes (Put object place kind source ∷ []) [] x.frames fits
    ∙ (λ i. done_by p 1 (acting takes (Put object place kind source ∷ [])) x (Did (put_value x.areas (sym to i) place kind (sym from i)) []))
    ∙ sym (put-performed p choose x takes place kind object source)

static-performed : (p : Program) (choose : Choose) (x : State) (takes slot : ℕ) (kind : Kind) (source : Source)
    → attempted p choose x (acting takes (SetStatic slot kind source ∷ []))
    ≡ done_by p 1 (acting takes (SetStatic slot kind source ∷ [])) x (Did (set_static x.areas slot kind (value_of (before x) source)) [])
unfolding performed
static-performed p choose x takes slot kind source = refl

pub static-done : (p : Program) (choose : Choose) (x y z : State) (takes slot : ℕ) (kind : Kind) (source : Source) (v : Value) → NextFits x.frames
    → value_of (before x) source ≡ v
    → y ≡ record x { areas = set_static x.areas slot kind v } → silent z ≡ attempted p choose y (words takes [])
    → silent z ≡ attempted p choose x (acting takes (SetStatic slot kind source ∷ []))
static-done p choose x y z takes slot kind source v fits from is took =
    took ∙ ap (λ (y : State). attempted p choose y (words takes [])) is
    ∙ done-none p choose x (set_static x.areas slot kind v) takes (SetStatic slot kind source ∷ []) [] x.frames fits
    ∙ (λ i. done_by p 1 (acting takes (SetStatic slot kind source ∷ [])) x (Did (set_static x.areas slot kind (sym from i)) []))
    ∙ sym (static-performed p choose x takes slot kind source)

-- ---- output, input and the end

printed-frames : (p : Program) (choose : Choose) (x : State) (takes : ℕ) (bytes : List ℕ) (frames : List Frame)
    → ◌≡◌ {A = Moved} (record { state = (attempted p choose (record x { frames = frames }) (words takes [])).state; printed = bytes })
    (attempted p choose (record x { frames = frames }) (printing takes bytes))
unfolding performed continued
printed-frames p choose x takes bytes [] = refl
printed-frames p choose x takes bytes (f ∷ callers) = refl

pub printed-done : (p : Program) (choose : Choose) (x z : State) (takes : ℕ) (bytes : List ℕ) → silent z ≡ attempted p choose x (words takes [])
    → ◌≡◌ {A = Moved} (record { state = z; printed = bytes }) (attempted p choose x (printing takes bytes))
printed-done p choose x z takes bytes took =
    (λ i. record { state = (took i).state; printed = bytes })
    ∙ printed-frames p choose x takes bytes x.frames

read-frames : (p : Program) (choose : Choose) (x : State) (takes : ℕ) (source : Source) (frames : List Frame) → NextFits frames
    → attempted p choose (record x { frames = frames; input = drop 1 x.input }) (words takes (source ∷ []))
    ≡ attempted p choose (record x { frames = frames }) (record (words takes (source ∷ [])) { reads = true })
unfolding performed continued
read-frames p choose x takes source [] fits = absurd fits
read-frames p choose x takes source (f ∷ callers) fits = refl

pub read-done : (p : Program) (choose : Choose) (x y z : State) (takes : ℕ) (source : Source) → NextFits x.frames
    → y ≡ record x { input = drop 1 x.input } → silent z ≡ attempted p choose y (words takes (source ∷ []))
    → silent z ≡ attempted p choose x (record (words takes (source ∷ [])) { reads = true })
read-done p choose x y z takes source fits is given =
    given ∙ ap (λ (y : State). attempted p choose y (words takes (source ∷ []))) is ∙ read-frames p choose x takes source x.frames fits

exit-frames : (p : Program) (choose : Choose) (x : State) (takes : ℕ) (n : ℤ) (frames : List Frame) → NextFits frames
    → silent (record x { frames = frames; steps = x.steps + 1; ended = Some (end.Exit n) })
    ≡ attempted p choose (record x { frames = frames }) (going takes (Exits n))
unfolding performed continued
exit-frames p choose x takes n [] fits = absurd fits
exit-frames p choose x takes n (f ∷ callers) fits = refl

pub exit-done : (p : Program) (choose : Choose) (old x : State) (takes : ℕ) (n m : ℤ) → old ≡ x → m ≡ n → NextFits x.frames
    → silent (record old { steps = old.steps + 1; ended = Some (end.Exit m) }) ≡ attempted p choose x (going takes (Exits n))
exit-done p choose old x takes n m is same fits =
    let P : State → Type 0 = λ x. NextFits x.frames
    → silent (record old { steps = old.steps + 1; ended = Some (end.Exit m) }) ≡ attempted p choose x (going takes (Exits n)) in
    subst P is
    (λ fits. ap (λ m. silent (record old { steps = old.steps + 1; ended = Some (end.Exit m) })) same ∙ exit-frames p choose old takes n old.frames fits) fits

-- ---- the parts of a machine

-- a byte of the input is taken
pub skipped : (taken : ℕ) (bytes : List ℕ) → drop (taken + 1) bytes ≡ drop 1 (drop taken bytes)
skipped taken bytes = sym (drop-drop 1 taken bytes)

pub input-skipped : (old x : State) (bytes : List ℕ) (taken : ℕ) → old ≡ x → old.input ≡ drop taken bytes
    → record old { input = drop (taken + 1) bytes } ≡ record x { input = drop 1 x.input }
input-skipped old x bytes taken is input =
    ap (λ left. record old { input = left }) (skipped taken bytes ∙ ap (drop 1) (sym input)) ∙ ap (λ (x : State). record x { input = drop 1 x.input }) is

pub input-none : (x : State) → x.input ≡ [] → x ≡ record x { input = drop 1 x.input }
input-none x none = ap (λ left. record x { input = left }) (none ∙ ap (drop 1) (sym none))

-- a literal is kept
pub literal-kept : (old x : State) (cells : List Cell) (text : ℕ) (cell : Cell) → old ≡ x → old.areas.literals ≡ map (λ (c : Cell). c.0) cells
    → record old { areas = record old.areas { literals = map (λ (c : Cell). c.0) (set cells text cell) } } ≡ record x { areas = literal_made x.areas text cell.0 }
literal-kept old x cells text cell is literals =
    ap (λ cells. record old { areas = record old.areas { literals = cells } })
    (map-set (λ (c : Cell). c.0) cells text cell ∙ ap (λ cells. set cells text cell.0) (sym literals))
    ∙ ap (λ (x : State). record x { areas = literal_made x.areas text cell.0 }) is

-- nothing is put past the end of an object
past-object : (store : Store) (cell place element : ℕ) (object : Option Object) → object_at store cell ≡ object
    → (head : Head) → Some head ≡ option_map head_of object → head.len ≤ place → put_by store cell place element ≡ store
past-object store cell place element None at head is past = absurd (none-some _ (sym is))
past-object store cell place element (Some object) at head is past =
    let len : head.len ≡ length object.elements = ap (λ (h : Head). h.len) (same_Some _ _ is) in
    ap (put_in store cell place element) at
    ∙ ap (λ elements. with_object store cell (record object { elements = elements })) (set_past object.elements place element (omega arith))
    ∙ ap (λ m. record store { held = m }) (insert-same store.held cell object at)

pub put-past : (x : State) (cell place : ℕ) (kind : Kind) (v : Value) (head : Head) → Some head ≡ head_at x.areas.store cell → head.len ≤ place
    → x ≡ record x { areas = put_value x.areas (ref cell) place kind v }
put-past x cell place kind v head is past =
    ap (λ s. record x { areas = record x.areas { store = s } })
    (sym (past-object x.areas.store cell place (kept kind v) (object_at x.areas.store cell) refl head is past))
