-- What rows see of operands that are references, by what the machine looked at.
use Rattle.std.proofs.Common.{◌≡◌, ℕ, zero, suc, Bool, ◌==◌, if◌then◌else◌, List, Option, Some, None, slice_get, option_map, refl, ap, sym, ◌∙◌, arith}
use Rattle.std.proofs.lemmas.Bool.{ne_eqb}
use Rattle.std.proofs.lemmas.Option.{get_or_from_slice_get, none-some, same_Some, slice_get-map}
use Rattle.fm_base.specs.declared.kinds.TypeRef.{TypeRef}
use Rattle.fm_cells.specs.Answers.{head_at, head_of}
use Rattle.fm_cells.specs.Objects.{Object}
use Rattle.fm_cells.specs.Stores.{object_at, Store}
use Rattle.fm_cells.specs.declared.answers.Cell.{Cell}
use Rattle.fm_cells.specs.declared.answers.Head.{Head}
use Rattle.fm_frames.proofs.Refusals.{object-in}
use Rattle.fm_frames.specs.Effects.{Effect, OfOperand, Throws, faulty, going, stuck}
use Rattle.fm_frames.specs.JumpRows.{throw_effect}
use Rattle.fm_frames.specs.Operands.{on_held_of, on_object, thrown_null}
use Rattle.fm_frames.specs.Sights.{looks, Looks, sight, sight_of_cell, sight_of_object, sights, type_numbered}
use Rattle.fm_frames.specs.States.{word_at}
use Rattle.fm_frames.specs.declared.looks.Look.{Look}
use Rattle.fm_frames.specs.declared.looks.Look.TheVariants as look
use Rattle.fm_frames.specs.declared.values.Value.{Value}
use Rattle.fm_frames.specs.declared.values.Value.TheVariants as value
use Rattle.fm_frames.specs.inner.Looks.{look_at, look_head}
use Rattle.fm_types.specs.Fits.{fits_type}
use Rattle.fm_types.specs.Named.{throwable_type}
use Rattle.fm_world.specs.Programs.{Outline}

-- ---- what follows of an object of a type

-- of an effect that doesn't depend on what the object is, but for its type
abbrev pub held_as : Outline → TypeRef → ℕ → Effect → Look → Effect
held_as o t operand follows look.Other = stuck
held_as o t operand follows look.Null = thrown_null o
held_as o t operand follows (look.Gone cell) = faulty operand
held_as o t operand follows (look.Object cell head) =
    if fits_type o.classes (type_numbered o head.class) t then follows else faulty operand

abbrev tested : Outline → TypeRef → ℕ → Effect → Looks → Effect
tested o t operand follows it = if fits_type o.classes it.type t then follows else faulty operand

cell-seen : (o : Outline) (store : Store) (t : TypeRef) (operand : ℕ) (follows : Effect) (cell : ℕ)
    → on_held_of (thrown_null o) operand (Some (sight_of_cell o store cell)) (tested o t operand follows)
    ≡ held_as o t operand follows (if cell == 0 then look.Null else look_head (record { 0 = cell }) (head_at store cell))
unfolding looks
cell-seen o store t operand follows zero = refl
cell-seen o store t operand follows (suc cell) =
    by_object (object_at store (suc cell))
    ∙ ap (λ null. held_as o t operand follows (if null then look.Null else look_head (record { 0 = suc cell }) (head_at store (suc cell))))
    (sym (ne_eqb (suc cell) 0 (λ e. absurd (omega (arith, e))))) where
      by_object : (object : Option Object)
          → on_held_of (thrown_null o) operand (Some (sight_of_object o store object)) (tested o t operand follows)
          ≡ held_as o t operand follows (look_head (record { 0 = suc cell }) (option_map head_of object))
      by_object None = refl
      by_object (Some object) = refl

value-seen : (o : Outline) (store : Store) (t : TypeRef) (operand : ℕ) (follows : Effect) (v : Option Value)
    → on_held_of (thrown_null o) operand (option_map (sight o store) v) (tested o t operand follows) ≡ held_as o t operand follows (look_at store v)
value-seen o store t operand follows None = refl
value-seen o store t operand follows (Some value.Top) = refl
value-seen o store t operand follows (Some (value.Int n)) = refl
value-seen o store t operand follows (Some (value.Long n)) = refl
value-seen o store t operand follows (Some (value.Ref cell)) = cell-seen o store t operand follows cell.0

pub object-seen : (o : Outline) (store : Store) (stack : List Value) (t : TypeRef) (operand : ℕ) (follows : Effect) (seen : Look)
    → seen ≡ look_at store (slice_get stack operand)
    → on_object o t (sights o store stack) operand (λ it. follows) ≡ held_as o t operand follows seen
object-seen o store stack t operand follows seen is =
    ap (λ s. on_held_of (thrown_null o) operand s (tested o t operand follows)) (slice_get-map (sight o store) stack operand)
    ∙ value-seen o store t operand follows (slice_get stack operand) ∙ ap (held_as o t operand follows) (sym is)

-- ---- which cell was looked at

pub record Found (store : Store) (stack : List Value) (operand : ℕ) (cell : Cell) (head : Head) : Type 0 where
  pub object : Object
  pub held : object_at store cell.0 ≡ Some object
  pub head_is : head_of object ≡ head
  pub word : word_at stack operand ≡ value.Ref cell

pub found-at : (store : Store) (stack : List Value) (operand : ℕ) (cell : Cell) (head : Head)
    → look.Object cell head ≡ look_at store (slice_get stack operand) → Found store stack operand cell head
found-at store stack operand cell head e =
    let it = object-in store cell head (slice_get stack operand) e in
    by_object (object_at store cell.0) refl it.1 where
      by_object : (object : Option Object) → object_at store cell.0 ≡ object → option_map head_of object ≡ Some head → Found store stack operand cell head
      by_object None held is = absurd (none-some _ is)
      by_object (Some object) held is = record {
        object = object;
        held = held;
        head_is = same_Some _ _ is;
        word = get_or_from_slice_get stack operand (value.Ref cell) value.Top (object-in store cell head (slice_get stack operand) e).0;
      }

-- ---- athrow

pub throw-seen : (o : Outline) (store : Store) (stack : List Value) (seen : Look) → seen ≡ look_at store (slice_get stack 0)
    → throw_effect o (sights o store stack) ≡ held_as o (throwable_type o) 0 (going 0 (Throws (OfOperand 0))) seen
unfolding throw_effect
throw-seen o store stack seen is = object-seen o store stack (throwable_type o) 0 (going 0 (Throws (OfOperand 0))) seen is

-- whether the object is a throwable, as the code found it out
pub fits-told : (o : Outline) (t throwable : TypeRef) (class : ℕ) (told : Bool) → t ≡ type_numbered o class → throwable ≡ throwable_type o
    → told ≡ fits_type o.classes t throwable
    → (if fits_type o.classes (type_numbered o class) (throwable_type o) then going 0 (Throws (OfOperand 0)) else faulty 0)
    ≡ (if told then going 0 (Throws (OfOperand 0)) else faulty 0)
fits-told o t throwable class told type_is class_is is =
    ap (λ b. if b then going 0 (Throws (OfOperand 0)) else faulty 0)
    (sym (is ∙ (λ i. fits_type o.classes (type_is i) (class_is i))))
