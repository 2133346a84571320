-- The effects of rows that ask an object for its type in the run.
use Rattle.std.proofs.Common.{◌≡◌, ℕ, pos, Bool, if◌then◌else◌, List, [], None, Some, slice_get, ap, sym, ◌∙◌, codes}
use Rattle.fm_base.specs.declared.ids.TypeId.{TypeId}
use Rattle.fm_base.specs.declared.kinds.TypeRef.{TypeRef}
use Rattle.fm_cells.specs.Stores.{Store}
use Rattle.fm_cells.specs.declared.answers.Cell.{Cell}
use Rattle.fm_cells.specs.declared.answers.Head.{Head}
use Rattle.fm_exec.proofs.HeldSteps.{held-refused, looks-type, refused_as, Seen}
use Rattle.fm_frames.specs.Effects.{Effect, int_word, words}
use Rattle.fm_frames.specs.ObjectRows.{cast_effect, is_a_effect}
use Rattle.fm_frames.specs.Operands.{on_held, thrown}
use Rattle.fm_frames.specs.Sights.{Looks, Sight, sights, type_numbered}
use Rattle.fm_frames.specs.Uses.{by_type}
use Rattle.fm_frames.specs.declared.looks.Look.{Look}
use Rattle.fm_frames.specs.declared.values.Value.{Value}
use Rattle.fm_frames.specs.inner.Looks.{look_at, object_in}
use Rattle.fm_world.specs.Chains.{is_sub}
use Rattle.fm_world.specs.Programs.{Outline}
use Rattle.fm_world.specs.declared.uses.Use.TheVariants as used

-- ---- whether the type of an object is below another one

-- what follows of an object, by that
abbrev pub by_below : Outline → TypeRef → (Bool → Effect) → Looks → Effect
by_below o t follows it = follows (is_sub o.classes it.type t)

pub below-told : (o : Outline) (store : Store) (stack : List Value) (of_null : Effect) (operand : ℕ) (cell : Cell) (head : Head) (t : TypeRef) (below : Bool)
    (follows : Bool → Effect) → Seen o store stack operand cell head → below ≡ is_sub o.classes (type_numbered o head.class) t
    → on_held of_null (sights o store stack) operand (by_below o t follows) ≡ follows below
below-told o store stack of_null operand cell head t below follows it is =
    it.any of_null (by_below o t follows)
    ∙ ap (λ type. follows (is_sub o.classes type t)) (looks-type o store it.object ∙ ap (λ (h : Head). type_numbered o h.class) it.head_is)
    ∙ ap follows (sym is)

-- ---- casts

abbrev pub casts_by : Outline → Bool → Effect
casts_by o below = if below then words 0 [] else thrown o (codes "java/lang/ClassCastException")

pub cast-named : (o : Outline) (t : TypeId) (named : TypeRef) (s : List Sight) → slice_get o.types t.0 ≡ Some named
    → cast_effect o (used.OfType t) s ≡ on_held (words 0 []) s 0 (by_below o named (casts_by o))
unfolding cast_effect
cast-named o t named s at = ap (λ found. by_type found (λ named. on_held (words 0 []) s 0 (by_below o named (casts_by o)))) at

-- what is no object
pub cast-refused : (o : Outline) (store : Store) (stack : List Value) (t : TypeId) (named : TypeRef) (seen : Look) → slice_get o.types t.0 ≡ Some named
    → seen ≡ look_at store (slice_get stack 0) → object_in seen ≡ None
    → cast_effect o (used.OfType t) (sights o store stack) ≡ refused_as (words 0 []) 0 seen
cast-refused o store stack t named seen at is none =
    cast-named o t named (sights o store stack) at
    ∙ held-refused o store stack (words 0 []) 0 (by_below o named (casts_by o)) seen is (ap object_in (sym is) ∙ none)

-- an object
pub cast-told : (o : Outline) (store : Store) (stack : List Value) (t : TypeId) (named : TypeRef) (cell : Cell) (head : Head) (below : Bool)
    → slice_get o.types t.0 ≡ Some named → Seen o store stack 0 cell head → below ≡ is_sub o.classes (type_numbered o head.class) named
    → cast_effect o (used.OfType t) (sights o store stack) ≡ casts_by o below
cast-told o store stack t named cell head below at it is =
    cast-named o t named (sights o store stack) at
    ∙ below-told o store stack (words 0 []) 0 cell head named below (casts_by o) it is

-- ---- instances

abbrev pub answered_by : Bool → Effect
answered_by below = words 1 (int_word (if below then pos 1 else pos 0))

pub is_a-named : (o : Outline) (t : TypeId) (named : TypeRef) (s : List Sight) → slice_get o.types t.0 ≡ Some named
    → is_a_effect o (used.OfType t) s ≡ on_held (words 1 (int_word (pos 0))) s 0 (by_below o named answered_by)
unfolding is_a_effect
is_a-named o t named s at = ap (λ found. by_type found (λ named. on_held (words 1 (int_word (pos 0))) s 0 (by_below o named answered_by))) at

-- what is no object
pub is_a-refused : (o : Outline) (store : Store) (stack : List Value) (t : TypeId) (named : TypeRef) (seen : Look) → slice_get o.types t.0 ≡ Some named
    → seen ≡ look_at store (slice_get stack 0) → object_in seen ≡ None
    → is_a_effect o (used.OfType t) (sights o store stack) ≡ refused_as (words 1 (int_word (pos 0))) 0 seen
is_a-refused o store stack t named seen at is none =
    is_a-named o t named (sights o store stack) at
    ∙ held-refused o store stack (words 1 (int_word (pos 0))) 0 (by_below o named answered_by) seen is (ap object_in (sym is) ∙ none)

-- an object
pub is_a-told : (o : Outline) (store : Store) (stack : List Value) (t : TypeId) (named : TypeRef) (cell : Cell) (head : Head) (below : Bool)
    → slice_get o.types t.0 ≡ Some named → Seen o store stack 0 cell head → below ≡ is_sub o.classes (type_numbered o head.class) named
    → is_a_effect o (used.OfType t) (sights o store stack) ≡ answered_by below
is_a-told o store stack t named cell head below at it is =
    is_a-named o t named (sights o store stack) at
    ∙ below-told o store stack (words 1 (int_word (pos 0))) 0 cell head named below answered_by it is
