-- A new object is made and thrown.
use Rattle.std.proofs.Common.{◌≡◌, ℕ, ◌+◌, List, [], ◌∷◌, Option, Some, None, Result, Ok, Err, OnOk, unwrap_or, false, refl, ap, sym, ◌∙◌}
use Rattle.fm_base.specs.declared.kinds.TypeRef.{TypeRef}
use Rattle.fm_cells.specs.Objects.{Object, request_of}
use Rattle.fm_cells.specs.Stores.{object_at}
use Rattle.fm_cells.specs.declared.answers.Cell.{Cell}
use Rattle.fm_types.specs.Named.{built_in_type, throwable_type}
use Rattle.fm_world.specs.Members.{size_of}
use Rattle.fm_world.specs.Numbers.{type_number, type_of_class}
use Rattle.fm_world.specs.Programs.{Outline, Program}
use Rattle.fm_frames.specs.Acts.{cell_of, Choose, Did, performed, requested}
use Rattle.fm_frames.specs.Effects.{Make, OfOperand, Plain, Throws, going, making, words}
use Rattle.fm_frames.specs.Elements.{pack_of}
use Rattle.fm_frames.specs.Operands.{size_of_type, thrown}
use Rattle.fm_frames.specs.Sights.{type_numbered}
use Rattle.fm_frames.specs.States.{Areas, Frame, ref, silent, State, word_at}
use Rattle.fm_frames.specs.Steps.{attempted, caught, continued, done_by, thrown_by}
use Rattle.fm_frames.specs.inner.Doings.{MakesOne, NextFits}
use Rattle.fm_frames.specs.inner.Frames.{stack_in}

-- the type of an object that is thrown
abbrev pub type_of : Outline → Option Object → TypeRef
type_of o None = throwable_type o
type_of o (Some object) = type_numbered o object.class

in_frames : (p : Program) (name : List ℕ) (x : State) (areas : Areas) (cell : ℕ) (frames : List Frame) → NextFits frames
    → done_by p 1 (thrown p.outline name) (record x { frames = frames }) (Did areas (cell ∷ []))
    ≡ silent (thrown_by (record x { frames = frames; areas = areas; steps = x.steps + 1 })
    (caught p (type_of p.outline (object_at areas.store cell)) (ref cell) frames))
unfolding continued
in_frames p name x areas cell [] fits = absurd fits
in_frames p name x areas cell (f ∷ callers) fits = refl

pub thrown-new : (p : Program) (choose : Choose) (x y z : State) (name : List ℕ) (cell : Cell) (object : Object) (t : TypeRef)
    → NextFits x.frames → MakesOne p choose x y (thrown p.outline name) (Some cell)
    → object_at y.areas.store cell.0 ≡ Some object → t ≡ type_numbered p.outline object.class
    → z ≡ thrown_by (record y { steps = y.steps + 1 }) (caught p t (ref cell.0) y.frames)
    → silent z ≡ attempted p choose x (thrown p.outline name)
thrown-new p choose x y z name cell object t fits makes held is left =
    let same : t ≡ type_of p.outline (object_at y.areas.store cell.0) = is ∙ sym (ap (type_of p.outline) held) in
    ap silent (left
    ∙ ap (λ (y : State). thrown_by (record y { steps = y.steps + 1 }) (caught p t (ref cell.0) y.frames)) makes.1
    ∙ ap (λ t. thrown_by (record x { areas = y.areas; steps = x.steps + 1 }) (caught p t (ref cell.0) x.frames)) same)
    ∙ sym (makes.0 ∙ in_frames p name x y.areas cell.0 x.frames fits)

-- ---- what is asked of the memory

pub thrown-actions : (o : Outline) (name : List ℕ) (class size : ℕ) → built_in_type o name ≡ type_of_class class → size ≡ size_of o.classes class
    → (thrown o name).actions ≡ Make (built_in_type o name) size [] ∷ []
thrown-actions o name class size is much =
    ap (λ n. Make (built_in_type o name) n [] ∷ []) (ap (size_of_type o) is ∙ sym much)

pub thrown-request : (o : Outline) (name : List ℕ) (class id size pack : ℕ) (t : TypeRef) → built_in_type o name ≡ type_of_class class
    → t ≡ type_of_class class → id ≡ unwrap_or (type_number o.types t) 0 → pack ≡ pack_of o t
    → requested o (built_in_type o name) size false ≡ request_of id size pack false
thrown-request o name class id size pack t is same number packed =
    ap (λ t. requested o t size false) (is ∙ sym same)
    ∙ (λ i. request_of (sym number i) size (sym packed i) false)

-- what holds of a result that is Ok
pub told-ok : {T E : Type 0} (r : Result T E) (P Q : Type 0) → (P → Q) → OnOk r P → OnOk r Q
told-ok (Ok x) P Q f h = f h
told-ok (Err e) P Q f h = tt

-- ---- an object that is made and given

given-frames : (p : Program) (choose : Choose) (x : State) (areas : Areas) (takes cell : ℕ) (t : TypeRef) (len : ℕ) (frames : List Frame) → NextFits frames
    → attempted p choose (record x { frames = frames; areas = areas }) (words takes (Plain (ref cell) ∷ []))
    ≡ done_by p 1 (making takes (Make t len [])) (record x { frames = frames }) (Did areas (cell ∷ []))
unfolding performed continued
given-frames p choose x areas takes cell t len [] fits = absurd fits
given-frames p choose x areas takes cell t len (f ∷ callers) fits = refl

pub made-given : (p : Program) (choose : Choose) (x y z : State) (takes : ℕ) (t : TypeRef) (len : ℕ) (cell : Cell) → NextFits x.frames
    → MakesOne p choose x y (making takes (Make t len [])) (Some cell)
    → silent z ≡ attempted p choose y (words takes (Plain (ref cell.0) ∷ []))
    → silent z ≡ attempted p choose x (making takes (Make t len []))
made-given p choose x y z takes t len cell fits makes given =
    given ∙ ap (λ (y : State). attempted p choose y (words takes (Plain (ref cell.0) ∷ []))) makes.1
    ∙ given-frames p choose x y.areas takes cell.0 t len x.frames fits ∙ sym makes.0

-- what is asked of the memory for an object of a type
pub type-request : (o : Outline) (t : TypeRef) (id len pack : ℕ) → id ≡ unwrap_or (type_number o.types t) 0 → pack ≡ pack_of o t
    → requested o t len false ≡ request_of id len pack false
type-request o t id len pack number packed = λ i. request_of (sym number i) len (sym packed i) false

-- ---- an operand that is thrown

operand-thrown : (p : Program) (choose : Choose) (x : State) (cell : ℕ) (frames : List Frame) → NextFits frames
    → word_at (stack_in frames) 0 ≡ ref cell
    → attempted p choose (record x { frames = frames }) (going 0 (Throws (OfOperand 0)))
    ≡ silent (thrown_by (record x { frames = frames; steps = x.steps + 1 })
    (caught p (type_of p.outline (object_at x.areas.store cell)) (ref cell) frames))
unfolding performed continued
operand-thrown p choose x cell [] fits is = absurd fits
operand-thrown p choose x cell (f ∷ callers) fits is =
    ap (λ v. silent (thrown_by (record x { frames = f ∷ callers; steps = x.steps + 1 })
    (caught p (type_of p.outline (object_at x.areas.store (cell_of v))) v (f ∷ callers)))) is

pub threw-operand : (p : Program) (choose : Choose) (x z : State) (cell : ℕ) (object : Object) (t : TypeRef) → NextFits x.frames
    → word_at (stack_in x.frames) 0 ≡ ref cell → object_at x.areas.store cell ≡ Some object → t ≡ type_numbered p.outline object.class
    → z ≡ thrown_by (record x { steps = x.steps + 1 }) (caught p t (ref cell) x.frames)
    → silent z ≡ attempted p choose x (going 0 (Throws (OfOperand 0)))
threw-operand p choose x z cell object t fits at held is left =
    ap silent (left
    ∙ ap (λ t. thrown_by (record x { steps = x.steps + 1 }) (caught p t (ref cell) x.frames)) (is ∙ sym (ap (type_of p.outline) held)))
    ∙ sym (operand-thrown p choose x cell x.frames fits at)
