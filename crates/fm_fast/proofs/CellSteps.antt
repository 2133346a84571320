-- Steps of a machine whose frames are out, by what was found in its cells.
use Rattle.std.proofs.Common.{◌≡◌, ◌≢◌, ℕ, ◌+◌, ℤ, List, [], ◌∷◌, Option, Some, slice_get, false, ap, refl}
use Rattle.fm_base.specs.declared.kinds.Kind.{Kind}
use Rattle.fm_base.specs.declared.kinds.Kind.TheVariants as kind
use Rattle.fm_base.specs.declared.kinds.TypeRef.{TypeRef}
use Rattle.fm_cells.specs.declared.answers.Cell.{Cell}
use Rattle.fm_cells.specs.declared.answers.Head.{Head}
use Rattle.fm_code.specs.declared.operations.Elem.{Elem}
use Rattle.fm_code.specs.declared.operations.Elem.TheVariants as elem
use Rattle.fm_exec.proofs.HeldSteps.{object-found, Seen}
use Rattle.fm_fast.proofs.FlowSteps.{seen-on, took, word-on}
use Rattle.fm_fast.specs.Flows.{resumed, with_branched}
use Rattle.fm_fast.specs.Operands.{AsksOfPut, HasInt, HasReference}
use Rattle.fm_frames.proofs.Acting.{put-done}
use Rattle.fm_frames.specs.Acts.{Choose, put_value}
use Rattle.fm_code.specs.StackWords.{element_words}
use Rattle.fm_frames.specs.Effects.{OfOperand, Put, acting}
use Rattle.fm_frames.specs.States.{Frame, ref, State, word_at}
use Rattle.fm_frames.specs.Steps.{stack_of}
use Rattle.fm_frames.specs.declared.values.Value.{Value}
use Rattle.fm_frames.specs.inner.Doings.{DoesIn, int_in, NextFits}
use Rattle.fm_frames.specs.inner.Frames.{on_top, stack_in}
use Rattle.fm_frames.specs.inner.Looks.{look_at, object_in}
use Rattle.fm_base.specs.Kinds.{kind_words}
use Rattle.fm_world.specs.Programs.{Outline, Program}

-- the object that was found is seen by the state with these frames
pub found-over : (o : Outline) (x : State) (frames : List Frame) (steps operand : ℕ) (cell : Cell) (head : Head)
    → Some (cell, head) ≡ object_in (look_at x.areas.store (slice_get (stack_in frames) operand))
    → Seen o x.areas.store (stack_of (resumed x frames steps)) operand cell head
found-over o x frames steps operand cell head is =
    object-found o x.areas.store (stack_of (resumed x frames steps)) operand cell head
    (seen-on (record x { steps = steps }) frames operand (λ v. object_in (look_at x.areas.store v)) (Some (cell, head)) is)

-- the word that was found
pub word-over : (x : State) (frames : List Frame) (steps operand : ℕ) (v : Value) → Some v ≡ slice_get (stack_in frames) operand
    → word_at (stack_of (resumed x frames steps)) operand ≡ v
word-over x frames steps operand v is = word-on (record x { steps = steps }) frames operand v is

pub int-over : (x : State) (frames : List Frame) (steps operand : ℕ) (found : Option ℤ) → found ≡ int_in (slice_get (stack_in frames) operand)
    → found ≡ int_in (slice_get (stack_of (resumed x frames steps)) operand)
int-over x frames steps operand found is = seen-on (record x { steps = steps }) frames operand int_in found is

-- a value was put at a place of an object, and words were taken
pub put-over : (p : Program) (choose : Choose) (x y : State) (old new : List Frame) (steps takes object source cell place : ℕ) (kind : Kind) (v : Value)
    → NextFits old → word_at (stack_of (resumed x old steps)) object ≡ ref cell → word_at (stack_of (resumed x old steps)) source ≡ v
    → y ≡ record x { areas = put_value x.areas (ref cell) place kind v } → new ≡ on_top (with_branched takes false 0) old
    → DoesIn p choose (resumed x old steps) (resumed y new (steps + 1)) (acting takes (Put (OfOperand object) place kind (OfOperand source) ∷ []))
put-over p choose x y old new steps takes object source cell place kind v fits to from is taken =
    put-done p choose (resumed x old steps) (resumed y old steps) (resumed y new (steps + 1)) takes cell place kind (OfOperand object) (OfOperand source) v fits to from
    (ap (λ (m : State). resumed m old steps) is) (took p choose (record y { steps = steps }) old new takes fits taken)

-- ---- how many words a value has

pub one-kind-word : (k : Kind) → k ≢ kind.Long → 1 ≡ kind_words k
one-kind-word kind.Long other = absurd (other refl)
one-kind-word kind.Boolean other = refl
one-kind-word kind.Byte other = refl
one-kind-word kind.Char other = refl
one-kind-word kind.Short other = refl
one-kind-word kind.Int other = refl
one-kind-word (kind.Ref t) other = refl

pub one-element-word : (e : Elem) → e ≢ elem.Long → 1 ≡ element_words e
one-element-word elem.Long other = absurd (other refl)
one-element-word elem.Boolean other = refl
one-element-word elem.Byte other = refl
one-element-word elem.Char other = refl
one-element-word elem.Short other = refl
one-element-word elem.Int other = refl
one-element-word elem.Ref other = refl

-- what putfield asks where the kind is neither Long nor a reference
pub one-word-asks : (k : Kind) (frames : List Frame) → k ≢ kind.Long → ((t : TypeRef) → k ≢ kind.Ref t) → AsksOfPut k frames
    → HasReference frames 1 × HasInt frames 0
one-word-asks kind.Long frames long reference asks = absurd (long refl)
one-word-asks (kind.Ref t) frames long reference asks = absurd (reference t refl)
one-word-asks kind.Boolean frames long reference asks = asks
one-word-asks kind.Byte frames long reference asks = asks
one-word-asks kind.Char frames long reference asks = asks
one-word-asks kind.Short frames long reference asks = asks
one-word-asks kind.Int frames long reference asks = asks
