-- What follows from the packing of an object for its type, and what the kinds of its elements are.
use Rattle.std.proofs.Common.{◌≡◌, ◌≢◌, ℕ, ◌-◌, ◌==◌, ◌&&◌, Bool, true, false, Some, if◌then◌else◌, refl, ap, ◌∙◌, subst, arith, zero, suc, ◌<◌}
use Rattle.std.proofs.lemmas.Bool.{and_parts, eqb-true, false≢true, ltb-true, ne_eqb}
use Rattle.fm_base.specs.declared.ids.ClassId.{ClassId}
use Rattle.fm_base.specs.declared.kinds.Base.{Base}
use Rattle.fm_base.specs.declared.kinds.Base.TheVariants as base
use Rattle.fm_base.specs.declared.kinds.Kind.TheVariants as kind
use Rattle.fm_base.specs.declared.kinds.TypeRef.{TypeRef}
use Rattle.fm_cells.specs.Answers.{head_of}
use Rattle.fm_cells.specs.Objects.{Object}
use Rattle.fm_cells.specs.Stores.{object_at}
use Rattle.fm_cells.specs.declared.answers.Head.{Head}
use Rattle.fm_code.specs.declared.operations.Elem.{Elem}
use Rattle.fm_code.specs.declared.operations.Elem.TheVariants as elem
use Rattle.fm_fast.specs.Packed.{ArePacked, IsPacked, elem_pack}
use Rattle.fm_frames.specs.ArrayRows.{element_kind}
use Rattle.fm_frames.specs.Elements.{is_text_type, pack_of, pack_of_base}
use Rattle.fm_frames.specs.States.{State}
use Rattle.fm_law_sound.proofs.InsnActs.{depth_deep}
use Rattle.fm_law_sound.proofs.NestedArrays.{array_is_no_text}
use Rattle.fm_types.specs.ArrayRows.{has_letter, is_array_of}
use Rattle.fm_types.specs.Fits.{depth_of, depth_with}
use Rattle.fm_world.specs.Descriptors.{kind_with}
use Rattle.fm_world.specs.Programs.{Outline, Program}

-- the object of a head is packed as the objects that are held
pub head-packed : (p : Program) (x : State) (cell : ℕ) (object : Object) (head : Head) → ArePacked p x → object_at x.areas.store cell ≡ Some object
    → head_of object ≡ head → IsPacked p head.class head.pack
head-packed p x cell object head packed held is = subst (λ (h : Head). IsPacked p h.class h.pack) is (packed cell object held)

-- ---- what follows from a packing

abbrev packing : (one text : Bool) → Base → ℕ
packing one text b = if one then pack_of_base b else (if text then 4 else 1)

ints-told : (one text : Bool) (b : Base) → packing one text b ≡ 2 → (one && has_letter elem.Int b) ≡ true
ints-told true text base.Int is = refl
ints-told true text base.Boolean is = absurd (omega (arith, is))
ints-told true text base.Byte is = absurd (omega (arith, is))
ints-told true text base.Char is = absurd (omega (arith, is))
ints-told true text base.Short is = absurd (omega (arith, is))
ints-told true text base.Long is = absurd (omega (arith, is))
ints-told true text (base.OfClass class) is = absurd (omega (arith, is))
ints-told false true b is = absurd (omega (arith, is))
ints-told false false b is = absurd (omega (arith, is))

bytes-told : (one text : Bool) (b : Base) → packing one text b ≡ 8 → (one && has_letter elem.Byte b) ≡ true
bytes-told true text base.Byte is = refl
bytes-told true text base.Boolean is = refl
bytes-told true text base.Char is = absurd (omega (arith, is))
bytes-told true text base.Short is = absurd (omega (arith, is))
bytes-told true text base.Int is = absurd (omega (arith, is))
bytes-told true text base.Long is = absurd (omega (arith, is))
bytes-told true text (base.OfClass class) is = absurd (omega (arith, is))
bytes-told false true b is = absurd (omega (arith, is))
bytes-told false false b is = absurd (omega (arith, is))

-- a word holds two elements only of arrays of ints, and eight only of those of bytes and of
-- booleans
pub packed-ints : (o : Outline) (t : TypeRef) → pack_of o t ≡ 2 → is_array_of elem.Int t ≡ true
packed-ints o t is = ints-told (t.dims == 1) (is_text_type o t) t.base is

pub packed-bytes : (o : Outline) (t : TypeRef) → pack_of o t ≡ 8 → is_array_of elem.Byte t ≡ true
packed-bytes o t is = bytes-told (t.dims == 1) (is_text_type o t) t.base is

-- a word holds as many elements of an array as the letter says by which they are loaded and stored
letter-pack : (e : Elem) (b : Base) → has_letter e b ≡ true → pack_of_base b ≡ elem_pack e
letter-pack elem.Boolean base.Boolean is = refl
letter-pack elem.Boolean b is = absurd (false≢true is)
letter-pack elem.Byte base.Byte is = refl
letter-pack elem.Byte base.Boolean is = refl
letter-pack elem.Byte b is = absurd (false≢true is)
letter-pack elem.Char base.Char is = refl
letter-pack elem.Char b is = absurd (false≢true is)
letter-pack elem.Short base.Short is = refl
letter-pack elem.Short b is = absurd (false≢true is)
letter-pack elem.Int base.Int is = refl
letter-pack elem.Int b is = absurd (false≢true is)
letter-pack elem.Long base.Long is = refl
letter-pack elem.Long b is = absurd (false≢true is)
letter-pack elem.Ref b is = absurd (false≢true is)

number-pack : (o : Outline) (t : TypeRef) (e : Elem) → ((t.dims == 1) && has_letter e t.base) ≡ true → pack_of o t ≡ elem_pack e
number-pack o t e is =
    let parts = and_parts (t.dims == 1) (has_letter e t.base) is in
    ap (λ one. packing one (is_text_type o t) t.base) parts.0 ∙ letter-pack e t.base parts.1

class-pack : (one text : Bool) (class : ClassId) → text ≡ false → packing one text (base.OfClass class) ≡ 1
class-pack true text class none = refl
class-pack false text class none = ap (λ b. if b then 4 else 1) none

deep-pack : (dims : ℕ) (b : Base) (text : Bool) → 0 < depth_with dims b → text ≡ false → packing (dims == 1) text b ≡ 1
deep-pack dims (base.OfClass class) text deep none = class-pack (dims == 1) text class none
deep-pack dims b text deep none =
    ap (λ one. packing one text b) (ne_eqb dims 1 (λ e. absurd (omega (arith, e, deep)))) ∙ ap (λ x. if x then 4 else 1) none

pub array-pack : (o : Outline) (t : TypeRef) (e : Elem) → is_array_of e t ≡ true → pack_of o t ≡ elem_pack e
array-pack o t elem.Ref is =
    let deep = ltb-true 0 (depth_of t) is in
    deep-pack t.dims t.base (is_text_type o t) deep (array_is_no_text o t (depth_deep t.dims t.base deep))
array-pack o t elem.Boolean is = number-pack o t elem.Boolean is
array-pack o t elem.Byte is = number-pack o t elem.Byte is
array-pack o t elem.Char is = number-pack o t elem.Char is
array-pack o t elem.Short is = number-pack o t elem.Short is
array-pack o t elem.Int is = number-pack o t elem.Int is
array-pack o t elem.Long is = number-pack o t elem.Long is

-- ---- kinds of elements

level : (t : TypeRef) (rest : Bool) → ((t.dims == 1) && rest) ≡ true → t.dims - 1 ≡ 0
level t rest is = let one : t.dims ≡ 1 = eqb-true t.dims 1 (and_parts (t.dims == 1) rest is).0 in omega (arith, one)

int-letter : (b : Base) → has_letter elem.Int b ≡ true → kind_with 0 b ≡ kind.Int
int-letter base.Int is = refl
int-letter b is = absurd (false≢true is)

-- of an array of ints the elements are ints
pub int-elements : (t : TypeRef) → is_array_of elem.Int t ≡ true → element_kind t ≡ kind.Int
int-elements t is =
    ap (λ n. kind_with n t.base) (level t (has_letter elem.Int t.base) is)
    ∙ int-letter t.base (and_parts (t.dims == 1) (has_letter elem.Int t.base) is).1

byte-letter : (b : Base) → b ≢ base.Boolean → has_letter elem.Byte b ≡ true → kind_with 0 b ≡ kind.Byte
byte-letter base.Byte other is = refl
byte-letter base.Boolean other is = absurd (other refl)
byte-letter b other is = absurd (false≢true is)

-- of an array of bytes or booleans they are booleans where its letter says so, and else bytes
pub boolean-elements : (t : TypeRef) → is_array_of elem.Byte t ≡ true → t.base ≡ base.Boolean → element_kind t ≡ kind.Boolean
boolean-elements t is letter = ap (λ n. kind_with n t.base) (level t (has_letter elem.Byte t.base) is) ∙ ap (kind_with 0) letter

pub byte-elements : (t : TypeRef) → is_array_of elem.Byte t ≡ true → t.base ≢ base.Boolean → element_kind t ≡ kind.Byte
byte-elements t is other =
    ap (λ n. kind_with n t.base) (level t (has_letter elem.Byte t.base) is)
    ∙ byte-letter t.base other (and_parts (t.dims == 1) (has_letter elem.Byte t.base) is).1

deep-kind : (dims : ℕ) (b : Base) → 0 < dims → kind_with dims b ≡ kind.Ref (record { dims = dims; base = b })
deep-kind dims b deep =
    ap (λ (none : Bool). if none then kind_with 0 b else kind.Ref (record { dims = dims; base = b })) (ne_eqb dims 0 (λ e. absurd (omega (arith, e, deep))))

class-kind : (dims : ℕ) (class : ClassId) → kind_with dims (base.OfClass class) ≡ kind.Ref (record { dims = dims; base = base.OfClass class })
class-kind zero class = refl
class-kind (suc dims) class = deep-kind (suc dims) (base.OfClass class) (omega arith)

kind-below : (dims : ℕ) (b : Base) → 0 < depth_with dims b → kind_with (dims - 1) b ≡ kind.Ref (record { dims = dims - 1; base = b })
kind-below dims (base.OfClass class) deep = class-kind (dims - 1) class
kind-below dims b deep = deep-kind (dims - 1) b deep

-- of an array of references they are references of one dimension less
pub reference-elements : (t : TypeRef) → is_array_of elem.Ref t ≡ true → element_kind t ≡ kind.Ref (record { dims = t.dims - 1; base = t.base })
reference-elements t is = kind-below t.dims t.base (ltb-true 0 (depth_of t) is)
