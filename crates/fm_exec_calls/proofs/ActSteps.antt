-- One action of a start: what it leaves of an effect, and what the others ask after it.
use Rattle.std.proofs.Common.{◌≡◌, ℕ, ◌<◌, true, false, List, [], ◌∷◌, ◌++◌, length, Some, None, refl, ap, sym, ◌∙◌, subst, arith}
use Rattle.std.proofs.lemmas.List.{length-set}
use Rattle.std.specs.List.{slice_index_or}
use Rattle.fm_base.specs.declared.kinds.Kind.{Kind}
use Rattle.fm_exec_calls.proofs.StartRoom.{can-after, can-still, can-there}
use Rattle.fm_exec_calls.proofs.StartSteps.{start-next}
use Rattle.fm_exec_calls.specs.inner.Actions.{Acts, ActsAll, AllSuit, CanAct}
use Rattle.fm_cells.specs.Soundness.{IsSound}
use Rattle.fm_cells.specs.declared.answers.Cell.{Cell}
use Rattle.fm_frames.proofs.Underways.{literal-full, literal-next, literal-there, static-next}
use Rattle.fm_frames.specs.Acts.{Choose, class_started, is_there, literal_made, literal_text, literal_type, requested, set_static}
use Rattle.fm_frames.specs.Effects.{Action, Effect, MakeLiteral, OfLiteral, Plain, SetStatic, Start}
use Rattle.fm_frames.specs.States.{ref, State}
use Rattle.fm_frames.specs.declared.values.Value.{Value}
use Rattle.fm_frames.specs.inner.Doings.{Makes, Underway}
use Rattle.fm_world.specs.Programs.{Outline, Program}

pub started-acts : (p : Program) (choose : Choose) (y z : State) (class : ℕ) → z ≡ record y { areas = class_started y.areas class }
    → Acts p choose y z (Start class) true
started-acts p choose y z class is = (
  (λ x e made left so. start-next p choose x y z e made class left so is),
  (λ left own can.
      can-still p.outline y z (Start class) (ap (λ (z : State). z.areas.store) is) (ap (λ (z : State). z.areas.literals) is) (λ literals. refl) refl left own can),
  ap (λ (z : State). length z.areas.literals) is,
)

pub number-acts : (p : Program) (choose : Choose) (y z : State) (slot : ℕ) (k : Kind) (v : Value) → z ≡ record y { areas = set_static y.areas slot k v }
    → Acts p choose y z (SetStatic slot k (Plain v)) true
number-acts p choose y z slot k v is = (
  (λ x e made left so. static-next p choose x y z e made slot k (Plain v) v left so refl is),
  (λ left own can.
      can-still p.outline y z (SetStatic slot k (Plain v)) (ap (λ (z : State). z.areas.store) is) (ap (λ (z : State). z.areas.literals) is) (λ literals. refl) refl left own can),
  ap (λ (z : State). length z.areas.literals) is,
)

pub literal-acts : (p : Program) (choose : Choose) (y z : State) (slot : ℕ) (k : Kind) (text : ℕ) (cell : Cell) → cell.0 ≡ slice_index_or y.areas.literals text 0
    → z ≡ record y { areas = set_static y.areas slot k (ref cell.0) } → Acts p choose y z (SetStatic slot k (OfLiteral text)) true
literal-acts p choose y z slot k text cell at is = (
  (λ x e made left so. static-next p choose x y z e made slot k (OfLiteral text) (ref cell.0) left so (ap ref (sym at)) is),
  (λ left own can.
      can-still p.outline y z (SetStatic slot k (OfLiteral text)) (ap (λ (z : State). z.areas.store) is) (ap (λ (z : State). z.areas.literals) is) (λ literals. refl) refl left own can),
  ap (λ (z : State). length z.areas.literals) is,
)

pub there-acts : (p : Program) (choose : Choose) (y : State) (text : ℕ) → is_there y.areas text ≡ true → Acts p choose y y (MakeLiteral text) true
there-acts p choose y text there =
    ((λ x e made left so. literal-there p choose x y e made text left there so), (λ left own can. can-there p.outline y text there left own can), refl)

pub made-acts : (p : Program) (choose : Choose) (y w z : State) (text : ℕ) (units : List ℕ) (cell : Cell) → is_there y.areas text ≡ false → text < length y.areas.literals
    → literal_text p.outline text ≡ units
    → Makes choose y w (requested p.outline (literal_type p.outline text) (length units) true) units (Some cell)
    → z ≡ record w { areas = literal_made w.areas text cell.0 } → IsSound z.areas.store → Acts p choose y z (MakeLiteral text) true
made-acts p choose y w z text units cell none inside is makes kept sound =
    let made = subst (λ units. Makes choose y w (requested p.outline (literal_type p.outline text) (length units) true) units (Some cell)) (sym is) makes in
    let (grows, taken, free, changed) = made in (
      (λ x e made_before left so. literal-next p choose x y w z e made_before text left cell none so made kept),
      (λ left own can. can-after p.outline choose y w z text cell none inside made kept sound left own can),
      ap (λ (z : State). length z.areas.literals) kept ∙ length-set w.areas.literals text cell.0 ∙ ap (λ (w : State). length w.areas.literals) changed,
    )

pub full-acts : (p : Program) (choose : Choose) (y z : State) (text : ℕ) (units : List ℕ) → is_there y.areas text ≡ false → literal_text p.outline text ≡ units
    → Makes choose y z (requested p.outline (literal_type p.outline text) (length units) true) units None → Acts p choose y z (MakeLiteral text) false
full-acts p choose y z text units none is makes =
    λ x e made left so. literal-full p choose x y z e made text left none so
    (subst (λ units. Makes choose y z (requested p.outline (literal_type p.outline text) (length units) true) units None) (sym is) makes)

-- ---- all actions

-- how far the actions have come
pub record IsActing (p : Program) (choose : Choose) (y z : State) (all left : List Action) : Type 0 where
  pub underway : (x : State) (e : Effect) (made : List ℕ) (more : List Action) → Underway p choose x y e made (all ++ more) → Underway p choose x z e made (left ++ more)
  pub can : (own : ℕ) → CanAct p.outline y all own → CanAct p.outline z left own
  pub suit : AllSuit p (length z.areas.literals) left
  pub room : CanAct p.outline z left 0

pub acting-from : (p : Program) (choose : Choose) (y : State) (all : List Action) → AllSuit p (length y.areas.literals) all → CanAct p.outline y all 0
    → IsActing p choose y y all all
acting-from p choose y all suit can = record { underway = λ x e made more so. so; can = λ own can. can; suit = suit; room = can }

pub acting-next : (p : Program) (choose : Choose) (y z w : State) (all left : List Action) (action : Action) → IsActing p choose y z all (action ∷ left)
    → Acts p choose z w action true → IsActing p choose y w all left
acting-next p choose y z w all left action so (underway, can, literals) = record {
  underway = λ x e made more begun. underway x e made (left ++ more) (so.underway x e made more begun);
  can = λ own able. can left own (so.can own able);
  suit = subst (λ n. AllSuit p n left) (sym literals) so.suit.1;
  room = can left 0 so.room;
}

pub acting-stopped : (p : Program) (choose : Choose) (y z w : State) (all left : List Action) (action : Action) → IsActing p choose y z all (action ∷ left)
    → Acts p choose z w action false → ActsAll p choose y w all false
acting-stopped p choose y z w all left action so stops = λ x e made more begun. stops x e made (left ++ more) (so.underway x e made more begun)

pub acting-ended : (p : Program) (choose : Choose) (y z : State) (all : List Action) → IsActing p choose y z all [] → ActsAll p choose y z all true
acting-ended p choose y z all so = (so.underway, so.can)

-- the first of the actions that are left can be done
pub first-can : (o : Outline) (x : State) (action : Action) (left : List Action) → CanAct o x (action ∷ left) 0 → CanAct o x (action ∷ []) 0
first-can o x action left can = let room = can.room in record { births = can.births; budget = can.budget; room = omega (arith, room) }
