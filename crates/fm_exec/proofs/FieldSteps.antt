-- The effects of rows of fields, by what the operands are.
use Rattle.std.proofs.lemmas.Option.{get_or_from_slice_get}
use Rattle.fm_cells.specs.Answers.{head_of}
use Rattle.fm_cells.specs.Objects.{Object}
use Rattle.fm_frames.specs.Acts.{cell_of, value_of}
use Rattle.fm_frames.specs.Elements.{read}
use Rattle.fm_frames.specs.States.{ref, State, word_at}
use Rattle.fm_frames.specs.Steps.{stack_of}
use Rattle.fm_frames.specs.inner.Doings.{before}
use Rattle.fm_frames.specs.inner.Places.{element_at}
use Rattle.fm_world.specs.Numbers.{type_of_class}
use Rattle.fm_base.specs.declared.kinds.Kind.TheVariants as kind
use Rattle.fm_frames.specs.declared.values.Value.TheVariants as value
use Rattle.std.proofs.Common.{◌≡◌, ◌≢◌, ℕ, ◌+◌, ◌-◌, Bool, true, if◌then◌else◌, List, [], ◌∷◌, Some, slice_get, refl, ap, sym, ◌∙◌}
use Rattle.fm_base.specs.declared.ids.FieldId.{FieldId}
use Rattle.fm_base.specs.declared.ids.TypeId.{TypeId}
use Rattle.fm_base.specs.declared.kinds.Kind.{Kind}
use Rattle.fm_base.specs.declared.kinds.TypeRef.{TypeRef}
use Rattle.fm_cells.specs.Stores.{Store}
use Rattle.fm_cells.specs.declared.answers.Cell.{Cell}
use Rattle.fm_cells.specs.declared.answers.Head.{Head}
use Rattle.fm_exec.proofs.HeldSteps.{looks-type, Seen}
use Rattle.fm_frames.specs.Effects.{Effect, OfOperand, OfPlace, OfStatic, Put, SetStatic, Source, Plain, acting, faulty, loaded, words}
use Rattle.fm_frames.specs.ObjectRows.{class_of_field, get_field_effect, get_static_effect, kind_of_field, put_field_effect, put_static_effect, starting}
use Rattle.fm_frames.specs.Operands.{on_object, thrown_null}
use Rattle.fm_frames.specs.Sights.{looks, Looks, Sight, sights, type_numbered}
use Rattle.fm_frames.specs.Uses.{by_type}
use Rattle.fm_frames.specs.declared.values.Value.{Value}
use Rattle.fm_types.specs.Fits.{fits_type}
use Rattle.fm_base.specs.Kinds.{kind_words}
use Rattle.fm_world.specs.Members.{slot_of}
use Rattle.fm_world.specs.Programs.{field_info, Outline}
use Rattle.fm_world.specs.declared.uses.Use.TheVariants as used

-- an object of a type, as it was found and tested
pub object-told : (o : Outline) (store : Store) (stack : List Value) (operand : ℕ) (cell : Cell) (head : Head) (t : TypeRef) (fits : Bool) (follows : Looks → Effect)
    → (it : Seen o store stack operand cell head) → fits ≡ fits_type o.classes (type_numbered o head.class) t
    → on_object o t (sights o store stack) operand follows ≡ (if fits then follows (looks o store it.object) else faulty operand)
object-told o store stack operand cell head t fits follows it is =
    it.any (thrown_null o) (λ l. if fits_type o.classes l.type t then follows l else faulty operand)
    ∙ ap (λ type. if fits_type o.classes type t then follows (looks o store it.object) else faulty operand)
    (looks-type o store it.object ∙ ap (λ (h : Head). type_numbered o h.class) it.head_is)
    ∙ ap (λ b. if b then follows (looks o store it.object) else faulty operand) (sym is)

abbrev field_read : Outline → FieldId → TypeRef → List Sight → Effect
field_read o f named s =
    let kind = kind_of_field o f.0 in on_object o named s 0 (λ it. words 1 (loaded kind (OfPlace 0 (slot_of o.classes f.0) kind)))

-- what follows of the object whose field is read
abbrev pub read_of : Outline → FieldId → TypeRef → Looks → Effect
read_of o f named it =
    if fits_type o.classes it.type named then words 1 (loaded (kind_of_field o f.0) (OfPlace 0 (slot_of o.classes f.0) (kind_of_field o f.0)))
    else faulty 0

pub get_field-named : (o : Outline) (f : FieldId) (t : TypeId) (named : TypeRef) (s : List Sight) → slice_get o.types t.0 ≡ Some named
    → get_field_effect o (used.OfField f t) s
    ≡ on_object o named s 0 (λ it. words 1 (loaded (kind_of_field o f.0) (OfPlace 0 (slot_of o.classes f.0) (kind_of_field o f.0))))
unfolding get_field_effect
get_field-named o f t named s at = ap (λ found. by_type found (λ named. field_read o f named s)) at

abbrev pub field_written : Outline → FieldId → TypeRef → List Sight → Effect
field_written o f named s =
    let kind = kind_of_field o f.0 in
    let n = kind_words kind in
    on_object o named s n (λ it. acting (n + 1) (Put (OfOperand n) (slot_of o.classes f.0) kind (OfOperand (n - 1)) ∷ []))

-- what follows of the object whose field is written
abbrev pub written_of : Outline → FieldId → TypeRef → Looks → Effect
written_of o f named it =
    let kind = kind_of_field o f.0 in
    let n = kind_words kind in
    if fits_type o.classes it.type named then acting (n + 1) (Put (OfOperand n) (slot_of o.classes f.0) kind (OfOperand (n - 1)) ∷ []) else faulty n

pub put_field-named : (o : Outline) (f : FieldId) (t : TypeId) (named : TypeRef) (s : List Sight) → slice_get o.types t.0 ≡ Some named
    → put_field_effect o (used.OfField f t) s ≡ field_written o f named s
unfolding put_field_effect
put_field-named o f t named s at = ap (λ found. by_type found (λ named. field_written o f named s)) at

pub get_static-named : (o : Outline) (f : FieldId) (t : TypeId) (named : TypeRef) → slice_get o.types t.0 ≡ Some named
    → get_static_effect o (used.OfField f t)
    ≡ starting (class_of_field o f.0) (words 0 (loaded (kind_of_field o f.0) (OfStatic (slot_of o.classes f.0))))
unfolding get_static_effect
get_static-named o f t named at =
    ap (λ found. by_type found (λ named. starting (class_of_field o f.0) (words 0 (loaded (kind_of_field o f.0) (OfStatic (slot_of o.classes f.0)))))) at

pub put_static-named : (o : Outline) (f : FieldId) (t : TypeId) (named : TypeRef) → slice_get o.types t.0 ≡ Some named
    → put_static_effect o (used.OfField f t)
    ≡ starting (class_of_field o f.0)
    (acting (kind_words (kind_of_field o f.0)) (SetStatic (slot_of o.classes f.0) (kind_of_field o f.0) (OfOperand (kind_words (kind_of_field o f.0) - 1)) ∷ []))
unfolding put_static_effect
put_static-named o f t named at =
    ap (λ found. by_type found (λ named. starting (class_of_field o f.0)
    (acting (kind_words (kind_of_field o f.0)) (SetStatic (slot_of o.classes f.0) (kind_of_field o f.0) (OfOperand (kind_words (kind_of_field o f.0) - 1)) ∷ [])))) at

pub field-kind : (o : Outline) (f : ℕ) → (field_info o f).kind ≡ kind_of_field o f
unfolding field_info
field-kind o f = refl

pub named-fits : (o : Outline) (object : Object) (head : Head) (t : TypeRef) (named : ℕ) → head_of object ≡ head → slice_get o.types named ≡ Some t
    → true ≡ fits_type o.classes (type_numbered o head.class) t → fits_type o.classes (type_numbered o object.class) (type_numbered o named) ≡ true
named-fits o object head t named head_is at fits =
    (λ i. fits_type o.classes (type_numbered o (head_is i).class) (get_or_from_slice_get o.types named t (type_of_class 0) at i)) ∙ sym fits

-- the value that is read is that of the source
pub place-source : (x : State) (operand cell place slot : ℕ) (k own : Kind) → word_at (stack_of x) operand ≡ ref cell → place ≡ slot → k ≡ own
    → value_of (before x) (OfPlace operand slot own) ≡ read k (element_at x.areas.store cell place)
place-source x operand cell place slot k own word place_is kind_is =
    ap (λ v. read own (element_at x.areas.store (cell_of v) slot)) word ∙ (λ i. read (sym kind_is i) (element_at x.areas.store cell (sym place_is i)))

-- the words of a value of a kind
pub loaded-long : (k : Kind) (source : Source) → k ≡ kind.Long → loaded k source ≡ Plain value.Top ∷ source ∷ []
loaded-long k source is = ap (λ k. loaded k source) is

pub loaded-one : (k : Kind) (source : Source) → k ≢ kind.Long → loaded k source ≡ source ∷ []
loaded-one kind.Long source other = absurd (other refl)
loaded-one kind.Boolean source other = refl
loaded-one kind.Byte source other = refl
loaded-one kind.Char source other = refl
loaded-one kind.Short source other = refl
loaded-one kind.Int source other = refl
loaded-one (kind.Ref t) source other = refl
