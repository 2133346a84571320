-- What the calls of the opening do: its actions are done one after the other, and it goes on or has ended.
use Rattle.std.specs.Prelude.{◌≡◌, ℕ, ◌+◌, ◌<◌, ◌≤◌, ◌^◌, Bool, true, false, List, [], ◌∷◌, ◌++◌, length, map, if◌then◌else◌, Option, Some, None}
use Rattle.std.specs.List.{slice_index_or}
use Rattle.fm_base.specs.declared.kinds.Kind.{Kind}
use Rattle.fm_cells.specs.Objects.{Request, request_words}
use Rattle.fm_cells.specs.declared.answers.Cell.{Cell}
use Rattle.fm_frames.specs.Acts.{Choose, Did, literal_text, made_then, performed}
use Rattle.fm_frames.specs.Effects.{Action, MakeLiteral, OfLiteral, OfMade, Plain, Put, SetStatic}
use Rattle.fm_frames.specs.Elements.{first_of, int_bits, kept}
use Rattle.fm_frames.specs.NativeRows.{text_kind, text_made}
use Rattle.fm_frames.specs.Runs.{argument_actions, Job, framed, opened_by, opening_actions, opening_frames, with_streams}
use Rattle.fm_frames.specs.Starts.{start_actions, start_methods, to_start}
use Rattle.fm_frames.specs.States.{Areas, State}
use Rattle.fm_frames.specs.Steps.{makes, most_words, words_made}
use Rattle.fm_frames.specs.declared.values.Value.{Value}
use Rattle.fm_frames.specs.inner.Places.{IsOfKind}
use Rattle.fm_world.specs.Programs.{Outline, Program}

-- what follows all actions
abbrev pub Follows : Type 0
Follows = State → List ℕ → State

-- the action asks for an object that holds this content; once the object is there, the areas and the cells made are these
pub record Asks (o : Outline) (x : Areas) (action : Action) (r : Request) (content : List ℕ) (after : Areas → ℕ → Areas) (grown : List ℕ → ℕ → List ℕ) : Type 0 where
  pub making : makes (action ∷ []) ≡ true
  pub needs : request_words r ≤ most_words → words_made o x (action ∷ []) ≡ request_words r
  pub does : (choose : Choose) (made : List ℕ)
      → performed o choose [] [] (action ∷ []) x made ≡ made_then x r content (choose x.store r) (λ y cell. Did (after y cell) (grown made cell))

-- the action is done, and the opening goes on from this state
abbrev pub Opens : Program → Choose → State → Action → State → (List ℕ → List ℕ) → Type 0
Opens p choose x action y grown =
    (more : List Action) (made : List ℕ) (follows : Follows)
    → opened_by p choose (action ∷ more) x made follows ≡ opened_by p choose more y (grown made) follows

-- the run has ended at the action
abbrev pub EndsAt : Program → Choose → State → Action → State → Type 0
EndsAt p choose x action y = (more : List Action) (made : List ℕ) (follows : Follows) → opened_by p choose (action ∷ more) x made follows ≡ y

-- each action that asks for the object is done so far that it lies in this cell, or the run has ended at it
abbrev pub OpensAsked : Program → Choose → State → State → Request → List ℕ → Option Cell → Type 0
OpensAsked p choose x y r content None =
    (action : Action) (after : Areas → ℕ → Areas) (grown : List ℕ → ℕ → List ℕ) → Asks p.outline x.areas action r content after grown
    → EndsAt p choose x action y
OpensAsked p choose x y r content (Some cell) =
    (action : Action) (after : Areas → ℕ → Areas) (grown : List ℕ → ℕ → List ℕ) → Asks p.outline x.areas action r content after grown
    → Opens p choose x action (record y { areas = after y.areas cell.0 }) (λ made. grown made cell.0)

-- the action is done, and makes no cell of its own; or the run has ended at it
abbrev pub OpensOne : Program → Choose → State → State → Action → Bool → Type 0
OpensOne p choose x y action true = Opens p choose x action y (λ made. made)
OpensOne p choose x y action false = EndsAt p choose x action y

-- all these actions are done, or the run has ended at one of them
abbrev pub OpensAll : Program → Choose → State → State → List Action → Bool → Type 0
OpensAll p choose x y actions true = (made : List ℕ) (follows : Follows) → opened_by p choose actions x made follows ≡ follows y made
OpensAll p choose x y actions false = (made : List ℕ) (follows : Follows) → opened_by p choose actions x made follows ≡ y

-- one object more was made at most, and the budget of words is as it was
pub record GrowsOnce (x y : State) : Type 0 where
  pub births : y.areas.store.births ≤ x.areas.store.births + 1
  pub budget : y.areas.store.budget ≡ x.areas.store.budget

-- what the start of a class asks: the text of a literal has a number and isn't too long, a literal goes to a field that has references, and a number to one
-- of its kind
abbrev pub StartFits : Outline → Action → Type 0
StartFits o (MakeLiteral text) = (text < length o.texts) × (length (literal_text o text) < 2 ^ 31)
StartFits o (SetStatic slot kind (OfLiteral text)) = 32 ≤ int_bits kind
StartFits o (SetStatic slot kind (Plain v)) = IsOfKind kind (kept kind v)
StartFits o action = Unit {0}

-- what a field of a kind holds at first, if it is static
abbrev pub first_by : Bool → Kind → List Value
first_by is_static kind = if is_static then first_of kind ∷ [] else []

-- the text of an argument is made and put into the array of the arguments at this place, or the run has ended
abbrev pub OpensArgument : Program → Choose → State → State → (array place : ℕ) → List ℕ → Bool → Type 0
OpensArgument p choose x y array place units true =
    (cell : ℕ)
    × ((more : List Action) (made : List ℕ) (follows : Follows) → length made ≡ 3 + place → slice_index_or made 2 0 ≡ array
    → opened_by p choose (text_made p.outline units ∷ Put (OfMade 2) place (text_kind p.outline) (OfMade (3 + place)) ∷ more) x made follows
    ≡ opened_by p choose more y (made ++ cell ∷ []) follows)
OpensArgument p choose x y array place units false =
    (more : List Action) (made : List ℕ) (follows : Follows) → length made ≡ 3 + place → slice_index_or made 2 0 ≡ array
    → opened_by p choose (text_made p.outline units ∷ Put (OfMade 2) place (text_kind p.outline) (OfMade (3 + place)) ∷ more) x made follows ≡ y

-- all of them, where three objects were made before, the third of them the array
abbrev pub OpensArguments : Program → Choose → State → State → (array : ℕ) → List (List ℕ) → Bool → Type 0
OpensArguments p choose x y array arguments true =
    (made : List ℕ) → length made ≡ 3 → slice_index_or made 2 0 ≡ array
    → (texts : List ℕ) × ((follows : Follows) → opened_by p choose (argument_actions p.outline 0 arguments) x made follows ≡ follows y (made ++ texts))
OpensArguments p choose x y array arguments false =
    (made : List ℕ) → length made ≡ 3 → slice_index_or made 2 0 ≡ array
    → (follows : Follows) → opened_by p choose (argument_actions p.outline 0 arguments) x made follows ≡ y

-- at most `count` objects more were made, and the budget of words is as it was
pub record GrowsBy (count : ℕ) (x y : State) : Type 0 where
  pub births : y.areas.store.births ≤ x.areas.store.births + count
  pub budget : y.areas.store.budget ≡ x.areas.store.budget

-- the first objects of the opening are made and the streams are set, the array of the arguments among them; or the run has ended
abbrev pub OpensObjects : Program → Choose → State → State → List (List ℕ) → Option Cell → Type 0
OpensObjects p choose x y arguments None =
    (job : Job) → job.arguments ≡ arguments → (follows : Follows) → opened_by p choose (opening_actions p.outline job) x [] follows ≡ y
OpensObjects p choose x y arguments (Some array) =
    (job : Job) → job.arguments ≡ arguments
    → (cells : List ℕ) × (slice_index_or cells 2 0 ≡ array.0)
    × ((follows : Follows)
    → opened_by p choose (opening_actions p.outline job) x [] (λ z made. follows (record z { areas = with_streams z.areas made }) made) ≡ follows y cells)

-- the classes are started, and main's frame is there with those of the methods that start them above it; or the run has ended
abbrev pub OpensMain : Program → Choose → State → State → (classes : List ℕ) → (array : ℕ) → Type 0
OpensMain p choose x y classes array =
    (cells : List ℕ) → slice_index_or cells 2 0 ≡ array
    → opened_by p choose (start_actions p.outline classes) x cells
    (λ z made. framed z (opening_frames p (start_methods p.outline classes) (slice_index_or cells 2 0)))
    ≡ y

-- the classes that the opening starts: the one that holds main, and its superclasses
abbrev pub opening_classes : Outline → List ℕ
opening_classes o = to_start o (map (λ class. false) o.classes) o.main_class
