-- The words of an object are few.
use Rattle.std.proofs.Common.{ℕ, ◌^◌, ◌<◌, ◌≤◌, ◌==◌, Bool, true, false, cond, length, Option, Some, None, refl, sym, subst, inl, inr, arith}
use Rattle.fm_base.specs.declared.kinds.Base.{Base}
use Rattle.fm_base.specs.declared.kinds.Base.TheVariants as base
use Rattle.fm_base.specs.declared.kinds.TypeRef.{TypeRef}
use Rattle.fm_cells.proofs.Soundness.{body_words_bound}
use Rattle.fm_cells.specs.Objects.{Object, object_words}
use Rattle.fm_cells.specs.Sizes.{IsPack}
use Rattle.fm_world.specs.Members.{size_of}
use Rattle.fm_world.specs.Programs.{class_of_type, Outline}
use Rattle.fm_frames.specs.Elements.{is_text_type, pack_of, pack_of_base}
use Rattle.fm_frames.specs.Sights.{type_numbered}
use Rattle.fm_law_sound.specs.Sound.{HasLengthBy, IsObjectIn}

base_pack : (b : Base) → IsPack (pack_of_base b)
base_pack base.Boolean = inr (inr (inr refl))
base_pack base.Byte = inr (inr (inr refl))
base_pack base.Char = inr (inr (inl refl))
base_pack base.Short = inr (inr (inl refl))
base_pack base.Int = inr (inl refl)
base_pack base.Long = inl refl
base_pack (base.OfClass class) = inl refl

either_pack : (b : Bool) (one other : ℕ) → IsPack one → IsPack other → IsPack (cond b one other)
either_pack true one other first second = first
either_pack false one other first second = second

pub type_pack : (o : Outline) (t : TypeRef) → IsPack (pack_of o t)
type_pack o t =
    either_pack (t.dims == 1) (pack_of_base t.base) (cond (is_text_type o t) 4 1) (base_pack t.base) (either_pack (is_text_type o t) 4 1 (inr (inr (inl refl))) (inl refl))

pub length_below : (o : Outline) → ((class : ℕ) → size_of o.classes class < 2 ^ 31) → (is_text : Bool) (class : Option ℕ) (n : ℕ) → HasLengthBy o is_text class n
    → n < 2 ^ 31
length_below o sizes true class n h = h
length_below o sizes false None n h = h
length_below o sizes false (Some class) n h = subst (λ m. m < 2 ^ 31) (sym h) (sizes class)

pub words_few : (o : Outline) → ((class : ℕ) → size_of o.classes class < 2 ^ 31) → (object : Object) → IsObjectIn o object → object_words object ≤ 2 ^ 32
words_few o sizes object h =
    let t : TypeRef = type_numbered o object.class in
    let below : length object.elements < 2 ^ 31 =
    length_below o sizes (is_text_type o t) (class_of_type t) (length object.elements) h.of_type.len in
    let pack : IsPack object.pack = subst IsPack (sym h.of_type.pack) (type_pack o t) in
    let bound = body_words_bound (length object.elements) object.pack below pack in omega (arith, bound)
