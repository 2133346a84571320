-- The texts of the arguments are made, and put into their array one after the other.
use Rattle.std.proofs.Common.{◌≡◌, ℕ, ◌+◌, ◌<◌, ◌≤◌, true, false, cond, List, [], ◌∷◌, ◌++◌, length, length-append, drop, get_or, Some, None, refl, ap, sym, ◌∙◌, arith, add-one, drop-cons, drop_of_length-le}
use Rattle.std.proofs.lemmas.Bool.{eq-eqb}
use Rattle.std.proofs.lemmas.List.{append-nil, append_assoc, get_or-append-add, get_or_append_left}
use Rattle.std.specs.List.{slice_index_or}
use Rattle.fm_base.specs.declared.kinds.Kind.{Kind}
use Rattle.fm_cells.proofs.Changes.{object_at-with_object}
use Rattle.fm_cells.specs.Changes.{on_object, put_by, with_element, with_object}
use Rattle.fm_cells.specs.Stores.{object_at, Store}
use Rattle.fm_cells.specs.declared.answers.Cell.{Cell}
use Rattle.fm_frames.proofs.OpeningSteps.{added, as_made, asks-object}
use Rattle.fm_frames.specs.Acts.{Choose, performed, put_value, requested}
use Rattle.fm_frames.specs.Effects.{OfMade, Put}
use Rattle.fm_frames.specs.NativeRows.{text_kind, text_made, text_type}
use Rattle.fm_frames.specs.Runs.{argument_actions, opened_by}
use Rattle.fm_frames.specs.States.{ref, State}
use Rattle.fm_frames.specs.inner.Opening.{Follows, GrowsOnce, OpensArgument, OpensAsked}
use Rattle.fm_frames.specs.inner.Places.{IsWide}
use Rattle.fm_world.specs.Programs.{Program}

-- ---- one argument

-- an object has whole words still once a value is put into it
pub wide-put : (store : Store) (cell place element : ℕ) → IsWide store cell → IsWide (put_by store cell place element) cell
wide-put store cell place element (object, held, pack) = (
  with_element object place element,
  ap (λ (s : Store). object_at s cell) (ap (λ o. on_object o (λ object. with_object store cell (with_element object place element)) store) held)
      ∙ object_at-with_object store cell (with_element object place element) cell
      ∙ ap (λ b. cond b (Some (with_element object place element)) (object_at store cell)) (eq-eqb cell cell refl),
  pack,
)

opened_put : (p : Program) (choose : Choose) (y z : State) (array place cell : ℕ) (own : Kind) → z ≡ record y { areas = put_value y.areas (ref array) place own (ref cell) }
    → (cells : List ℕ) → slice_index_or cells 2 0 ≡ array → slice_index_or cells (3 + place) 0 ≡ cell
    → (more : List _) (follows : Follows)
    → opened_by p choose (Put (OfMade 2) place (text_kind p.outline) (OfMade (3 + place)) ∷ more) y cells follows ≡ opened_by p choose more z cells follows
unfolding performed
opened_put p choose y z array place cell own is cells two last more follows =
    (λ i. opened_by p choose more (record y { areas = put_value y.areas (ref (two i)) place own (ref (last i)) }) cells follows)
    ∙ ap (λ z. opened_by p choose more z cells follows) (sym is)

pub argument-opened : (p : Program) (choose : Choose) (x y z : State) (array place : ℕ) (own : Kind) (units : List ℕ) (cell : Cell)
    → OpensAsked p choose x y (requested p.outline (text_type p.outline) (length units) false) units (Some cell)
    → z ≡ record y { areas = put_value y.areas (ref array) place own (ref cell.0) } → OpensArgument p choose x z array place units true
argument-opened p choose x y z array place own units cell told is = (
  cell.0,
  λ more made follows many at.
      let two : slice_index_or (made ++ cell.0 ∷ []) 2 0 ≡ array =
      get_or_append_left made (cell.0 ∷ []) 0 2 (omega (arith, many)) ∙ at in
      let end : 3 + place ≡ length made + 0 = omega (arith, many) in
      let last : slice_index_or (made ++ cell.0 ∷ []) (3 + place) 0 ≡ cell.0 =
      ap (λ n. slice_index_or (made ++ cell.0 ∷ []) n 0) end ∙ get_or-append-add made (cell.0 ∷ []) 0 0 in
      told (text_made p.outline units) as_made added
      (asks-object p.outline x.areas (text_type p.outline) (length units) units (requested p.outline (text_type p.outline) (length units) false) refl)
      (Put (OfMade 2) place (text_kind p.outline) (OfMade (3 + place)) ∷ more) made follows
      ∙ opened_put p choose y z array place cell.0 own is (made ++ cell.0 ∷ []) two last more follows,
)

pub argument-ended : (p : Program) (choose : Choose) (x y : State) (array place : ℕ) (units : List ℕ)
    → OpensAsked p choose x y (requested p.outline (text_type p.outline) (length units) false) units None → OpensArgument p choose x y array place units false
argument-ended p choose x y array place units told more made follows many at =
    told (text_made p.outline units) as_made added
    (asks-object p.outline x.areas (text_type p.outline) (length units) units (requested p.outline (text_type p.outline) (length units) false) refl)
    (Put (OfMade 2) place (text_kind p.outline) (OfMade (3 + place)) ∷ more) made follows

-- ---- all arguments

-- the texts of the arguments before this place are made and put
pub record ArgumentsSoFar (p : Program) (choose : Choose) (array : ℕ) (arguments : List (List ℕ)) (place : ℕ) (first now : State) (made : List ℕ) : Type 0 where
  pub texts : List ℕ
  pub many : length texts ≡ place
  pub so_far : (follows : Follows) → opened_by p choose (argument_actions p.outline 0 arguments) first made follows
      ≡ opened_by p choose (argument_actions p.outline place (drop place arguments)) now (made ++ texts) follows

pub record ArgumentsRound (p : Program) (choose : Choose) (array : ℕ) (arguments : List (List ℕ)) (place : ℕ) (first now : State) : Type 0 where
  pub done : (made : List ℕ) → length made ≡ 3 → slice_index_or made 2 0 ≡ array → ArgumentsSoFar p choose array arguments place first now made
  pub wide : IsWide now.areas.store array
  pub births : now.areas.store.births ≤ first.areas.store.births + place
  pub budget : now.areas.store.budget ≡ first.areas.store.budget

pub arguments-begin : (p : Program) (choose : Choose) (array : ℕ) (arguments : List (List ℕ)) (first : State) → IsWide first.areas.store array
    → ArgumentsRound p choose array arguments 0 first first
arguments-begin p choose array arguments first wide = record {
  done = λ made many at. record {
    texts = [];
    many = refl;
    so_far = λ follows. ap (λ cells. opened_by p choose (argument_actions p.outline 0 arguments) first cells follows) (sym (append-nil made));
  };
  wide = wide;
  births = omega arith;
  budget = refl;
}

here : (p : Program) (arguments : List (List ℕ)) (i : ℕ) (units d : List ℕ) → i < length arguments → units ≡ get_or arguments i d
    → argument_actions p.outline i (drop i arguments)
    ≡ text_made p.outline units ∷ Put (OfMade 2) i (text_kind p.outline) (OfMade (3 + i)) ∷ argument_actions p.outline (i + 1) (drop (i + 1) arguments)
here p arguments i units d inside is =
    ap (argument_actions p.outline i)
    (drop-cons arguments i d inside ∙ ap (λ n. get_or arguments i d ∷ drop n arguments) (sym (add-one i)) ∙ ap (λ u. u ∷ drop (i + 1) arguments) (sym is))

pub arguments-next : (p : Program) (choose : Choose) (array : ℕ) (arguments : List (List ℕ)) (i : ℕ) (units d : List ℕ) (first x y : State) → i < length arguments
    → units ≡ get_or arguments i d → ArgumentsRound p choose array arguments i first x → OpensArgument p choose x y array i units true → GrowsOnce x y
    → IsWide y.areas.store array → ArgumentsRound p choose array arguments (i + 1) first y
arguments-next p choose array arguments i units d first x y inside is before (cell, opens) grows wide =
    let few = before.births in
    let one = grows.births in
    record {
      done = λ made many at.
          let old = before.done made many at in
          let count = length-append made old.texts in
          let fewer = old.many in
          record {
            texts = old.texts ++ cell ∷ [];
            many = length-append old.texts (cell ∷ []) ∙ ap (λ n. n + 1) old.many;
            so_far = λ follows.
                old.so_far follows ∙ ap (λ actions. opened_by p choose actions x (made ++ old.texts) follows) (here p arguments i units d inside is)
                ∙ opens (argument_actions p.outline (i + 1) (drop (i + 1) arguments)) (made ++ old.texts) follows (omega (arith, count, many, fewer))
                (get_or_append_left made old.texts 0 2 (omega (arith, many)) ∙ at)
                ∙ ap (λ cells. opened_by p choose (argument_actions p.outline (i + 1) (drop (i + 1) arguments)) y cells follows)
                (append_assoc made old.texts (cell ∷ []));
          };
      wide = wide;
      births = omega (arith, few, one);
      budget = grows.budget ∙ before.budget;
    }

pub arguments-ended : (p : Program) (choose : Choose) (array : ℕ) (arguments : List (List ℕ)) (i : ℕ) (units d : List ℕ) (first x y : State) → i < length arguments
    → units ≡ get_or arguments i d → ArgumentsRound p choose array arguments i first x → OpensArgument p choose x y array i units false
    → (made : List ℕ) → length made ≡ 3 → slice_index_or made 2 0 ≡ array → (follows : Follows)
    → opened_by p choose (argument_actions p.outline 0 arguments) first made follows ≡ y
arguments-ended p choose array arguments i units d first x y inside is before ends made many at follows =
    let old = before.done made many at in
    let count = length-append made old.texts in
    let fewer = old.many in
    old.so_far follows ∙ ap (λ actions. opened_by p choose actions x (made ++ old.texts) follows) (here p arguments i units d inside is)
    ∙ ends (argument_actions p.outline (i + 1) (drop (i + 1) arguments)) (made ++ old.texts) follows (omega (arith, count, many, fewer))
    (get_or_append_left made old.texts 0 2 (omega (arith, many)) ∙ at)

pub arguments-all : (p : Program) (choose : Choose) (array : ℕ) (arguments : List (List ℕ)) (i : ℕ) (first x : State) → length arguments ≤ i
    → ArgumentsRound p choose array arguments i first x → (made : List ℕ) → length made ≡ 3 → slice_index_or made 2 0 ≡ array
    → (texts : List ℕ) × ((follows : Follows) → opened_by p choose (argument_actions p.outline 0 arguments) first made follows ≡ follows x (made ++ texts))
arguments-all p choose array arguments i first x past before made many at =
    let old = before.done made many at in (
      old.texts,
      λ follows.
          old.so_far follows
          ∙ ap (λ left. opened_by p choose (argument_actions p.outline i left) x (made ++ old.texts) follows)
          (drop_of_length-le arguments {i = i} past),
    )
