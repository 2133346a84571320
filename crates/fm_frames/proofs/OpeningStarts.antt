-- The actions that start the main class are done one after the other.
use Rattle.std.proofs.Common.{◌≡◌, ℕ, zero, suc, ◌+◌, ◌<◌, ◌≤◌, List, [], ◌∷◌, length, map, drop, get_or, refl, ap, sym, ◌∙◌, subst, arith, add-one, drop-cons, drop_of_length-le}
use Rattle.std.specs.List.{AllByRecursion}
use Rattle.fm_frames.specs.Acts.{Choose}
use Rattle.fm_frames.specs.Effects.{Action}
use Rattle.fm_frames.specs.Runs.{opened_by}
use Rattle.fm_frames.specs.States.{State}
use Rattle.fm_frames.specs.declared.actions.StartAction.{StartAction}
use Rattle.fm_frames.specs.inner.Opening.{EndsAt, Follows, GrowsOnce, Opens}
use Rattle.fm_frames.specs.inner.StartActions.{action_of}
use Rattle.fm_world.specs.Programs.{Program}

-- the actions before this place are done
pub record StartsSoFar (p : Program) (choose : Choose) (actions : List StartAction) (place : ℕ) (first now : State) : Type 0 where
  pub so_far : (made : List ℕ) (follows : Follows)
      → opened_by p choose (map action_of actions) first made follows ≡ opened_by p choose (map action_of (drop place actions)) now made follows
  pub births : now.areas.store.births ≤ first.areas.store.births + place
  pub budget : now.areas.store.budget ≡ first.areas.store.budget

pub starts-begin : (p : Program) (choose : Choose) (actions : List StartAction) (first : State) → StartsSoFar p choose actions 0 first first
starts-begin p choose actions first = record { so_far = λ made follows. refl; births = omega arith; budget = refl }

pub action-at : (P : Action → Type 0) (actions : List StartAction) (i : ℕ) (a d : StartAction) → AllByRecursion P (map action_of actions)
    → i < length actions → a ≡ get_or actions i d → P (action_of a)
action-at P [] i a d all inside is = absurd (omega (arith, inside))
action-at P (b ∷ actions) zero a d all inside is = subst (λ c. P (action_of c)) (sym is) all.0
action-at P (b ∷ actions) (suc i) a d all inside is = action-at P actions i a d all.1 (omega (arith, inside)) is

action-next : (actions : List StartAction) (i : ℕ) (a d : StartAction) → i < length actions → a ≡ get_or actions i d
    → map action_of (drop i actions) ≡ action_of a ∷ map action_of (drop (i + 1) actions)
action-next actions i a d inside is =
    ap (map action_of)
    (drop-cons actions i d inside ∙ ap (λ n. get_or actions i d ∷ drop n actions) (sym (add-one i)) ∙ ap (λ b. b ∷ drop (i + 1) actions) (sym is))

pub starts-next : (p : Program) (choose : Choose) (actions : List StartAction) (i : ℕ) (a d : StartAction) (first x y : State) → i < length actions
    → a ≡ get_or actions i d → StartsSoFar p choose actions i first x → Opens p choose x (action_of a) y (λ made. made) → GrowsOnce x y
    → StartsSoFar p choose actions (i + 1) first y
starts-next p choose actions i a d first x y inside is before opens grows =
    let few = before.births in
    let more = grows.births in
    record {
      so_far = λ made follows.
          before.so_far made follows ∙ ap (λ left. opened_by p choose left x made follows) (action-next actions i a d inside is)
          ∙ opens (map action_of (drop (i + 1) actions)) made follows;
      births = omega (arith, few, more);
      budget = grows.budget ∙ before.budget;
    }

pub starts-ended : (p : Program) (choose : Choose) (actions : List StartAction) (i : ℕ) (a d : StartAction) (first x y : State) → i < length actions
    → a ≡ get_or actions i d → StartsSoFar p choose actions i first x → EndsAt p choose x (action_of a) y
    → (made : List ℕ) (follows : Follows) → opened_by p choose (map action_of actions) first made follows ≡ y
starts-ended p choose actions i a d first x y inside is before ends made follows =
    before.so_far made follows ∙ ap (λ left. opened_by p choose left x made follows) (action-next actions i a d inside is)
    ∙ ends (map action_of (drop (i + 1) actions)) made follows

pub starts-all : (p : Program) (choose : Choose) (actions : List StartAction) (i : ℕ) (first x : State) → length actions ≤ i
    → StartsSoFar p choose actions i first x
    → (made : List ℕ) (follows : Follows) → opened_by p choose (map action_of actions) first made follows ≡ follows x made
starts-all p choose actions i first x done before made follows =
    before.so_far made follows
    ∙ ap (λ left. opened_by p choose (map action_of left) x made follows) (drop_of_length-le actions {i = i} done)
