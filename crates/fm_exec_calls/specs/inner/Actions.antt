-- What the start of classes requires of the program and of the state, and how far it has come.
use Rattle.std.specs.Prelude.{◌≡◌, ℕ, ◌+◌, ◌-◌, ◌^◌, ◌==◌, ◌<◌, ◌≤◌, Bool, true, false, List, [], ◌∷◌, ◌++◌, length, count_by}
use Rattle.std.specs.List.{AllByRecursion}
use Rattle.fm_base.specs.Rows.{has}
use Rattle.fm_base.specs.declared.kinds.Kind.TheVariants as kind
use Rattle.fm_base.specs.declared.kinds.TypeRef.{TypeRef}
use Rattle.fm_cells.specs.Stores.{live_words}
use Rattle.fm_frames.specs.Acts.{Choose}
use Rattle.fm_frames.specs.Effects.{Action, Effect, Make, MakeLiteral, OfLiteral, Plain, SetStatic}
use Rattle.fm_frames.specs.Elements.{kept}
use Rattle.fm_frames.specs.States.{Areas, State}
use Rattle.fm_frames.specs.Steps.{words_among}
use Rattle.fm_frames.specs.inner.Doings.{DoesIn, Underway}
use Rattle.fm_frames.specs.inner.Places.{IsOfKind}
use Rattle.fm_world.specs.Chains.{is_among}
use Rattle.fm_world.specs.Programs.{Outline, Program}

-- a text that is named is there, and is one of the `literals` texts that have places for their
-- literals; a number fits the kind of its field; and where a literal is given to a field, that one
-- is of references
abbrev pub Suits : Program → (literals : ℕ) → Action → Type 0
Suits p literals (MakeLiteral text) = (text < length p.outline.texts) × (text < literals)
Suits p literals (SetStatic slot k (Plain v)) = IsOfKind k (kept k v)
Suits p literals (SetStatic slot k (OfLiteral text)) = (t : TypeRef) × (k ≡ kind.Ref t)
Suits p literals action = Unit {0}

-- all of several actions suit
abbrev pub AllSuit : Program → (literals : ℕ) → List Action → Type 0
AllSuit p literals actions = AllByRecursion (Suits p literals) actions

-- the bits that are set are those of these literals
abbrev pub AreCounted : List Bool → List ℕ → Type 0
AreCounted counted literals = (text : ℕ) → text < length counted → has counted text ≡ is_among text literals

-- the actions make objects of this many words, whatever was made before
abbrev pub HasWords : Outline → List Action → ℕ → Type 0
HasWords o actions words = (x : Areas) (literals : List ℕ) → words_among o x literals actions ≡ words

-- ---- acting

-- how many literals aren't made yet
abbrev pub unmade : List ℕ → ℕ
unmade literals = count_by (λ cell. cell == 0) literals

-- what the actions that are left need, where the instruction after them needs `own` words: one more
-- object can be numbered after the literals that aren't made yet, and all that is made may live
pub record CanAct (o : Outline) (x : State) (left : List Action) (own : ℕ) : Type 0 where
  pub births : x.areas.store.births + unmade x.areas.literals < 2 ^ 32 - 1
  pub budget : x.areas.store.budget ≤ 2 ^ 27
  pub room : live_words x.areas.store + (words_among o x.areas [] left + own) ≤ x.areas.store.budget

-- one action is done: it is taken off what an effect has left, and what the others ask holds on; or the run has ended
abbrev pub Acts : Program → Choose → (y z : State) → Action → Bool → Type 0
Acts p choose y z action true =
    ((x : State) (e : Effect) (made : List ℕ) (left : List Action) → Underway p choose x y e made (action ∷ left) → Underway p choose x z e made left)
    × ((left : List Action) (own : ℕ) → CanAct p.outline y (action ∷ left) own → CanAct p.outline z left own)
    × (length z.areas.literals ≡ length y.areas.literals)
Acts p choose y z action false = (x : State) (e : Effect) (made : List ℕ) (left : List Action) → Underway p choose x y e made (action ∷ left) → DoesIn p choose x z e

-- the same of all actions in order
abbrev pub ActsAll : Program → Choose → (y z : State) → List Action → Bool → Type 0
ActsAll p choose y z actions true =
    ((x : State) (e : Effect) (made : List ℕ) (left : List Action) → Underway p choose x y e made (actions ++ left) → Underway p choose x z e made left)
    × ((own : ℕ) → CanAct p.outline y actions own → CanAct p.outline z [] own)
ActsAll p choose y z actions false =
    (x : State) (e : Effect) (made : List ℕ) (left : List Action) → Underway p choose x y e made (actions ++ left) → DoesIn p choose x z e

-- an instruction makes objects or gives static fields values, and does nothing else to the areas
abbrev pub MakesOrSets : List Action → Type 0
MakesOrSets [] = Unit {0}
MakesOrSets (Make t len content ∷ more) = MakesOrSets more
MakesOrSets (SetStatic slot k v ∷ more) = MakesOrSets more
MakesOrSets (other ∷ more) = ⊥
