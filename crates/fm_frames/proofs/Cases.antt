-- What holds of each effect that a row can have holds of the row: one lemma for each way in which
-- rows require of their operands.
use Rattle.std.proofs.Common.{◌≡◌, ℕ, ℤ, Bool, true, false, cond, List, codes, Option, Some, None, refl, slice_get}
use Rattle.fm_base.specs.declared.kinds.TypeRef.{TypeRef}
use Rattle.fm_base.specs.declared.ids.FieldId.{FieldId}
use Rattle.fm_base.specs.declared.ids.MethodId.{MethodId}
use Rattle.fm_base.specs.declared.ids.TypeId.{TypeId}
use Rattle.fm_world.specs.Programs.{Outline}
use Rattle.fm_world.specs.declared.uses.Use.{Use}
use Rattle.fm_world.specs.declared.uses.Use.TheVariants as resolved
use Rattle.fm_types.specs.Fits.{fits_type}
use Rattle.fm_frames.specs.Effects.{Effect, faulty, stuck}
use Rattle.fm_frames.specs.Operands.{on_any, on_held, on_held_of, on_int, on_int_of, on_long, on_long_of, on_number, on_object, on_passing, on_reference, on_reference_of, or_thrown, thrown, thrown_null}
use Rattle.fm_frames.specs.Sights.{Gone, Looks, Null, Sight, Thing, Word}
use Rattle.fm_frames.specs.Uses.{by_type, on_field, on_method, on_type}
use Rattle.fm_frames.specs.declared.values.Value.TheVariants as value

module _ (P : Effect → Type 0) where
  pub by_if : (b : Bool) (one other : Effect) → (b ≡ true → P one) → (b ≡ false → P other) → P (cond b one other)
  by_if true one other first second = first refl
  by_if false one other first second = second refl

  by_int_of : (s : Option Sight) (k : ℤ → Effect) → P stuck → ((n : ℤ) → P (k n)) → P (on_int_of s k)
  by_int_of (Some (Word (value.Int n))) k none some = some n
  by_int_of s k none some = none

  pub by_int : (sights : List Sight) (operand : ℕ) (k : ℤ → Effect) → P stuck → ((n : ℤ) → P (k n)) → P (on_int sights operand k)
  by_int sights operand k none some = by_int_of (slice_get sights operand) k none some

  by_long_of : (s : Option Sight) (k : ℤ → Effect) → P stuck → ((n : ℤ) → P (k n)) → P (on_long_of s k)
  by_long_of (Some (Word (value.Long n))) k none some = some n
  by_long_of s k none some = none

  pub by_long : (sights : List Sight) (operand : ℕ) (k : ℤ → Effect) → P stuck → ((n : ℤ) → P (k n)) → P (on_long sights operand k)
  by_long sights operand k none some = by_long_of (slice_get sights operand) k none some

  pub by_number : (is_long : Bool) (sights : List Sight) (k : ℤ → Effect) → P stuck → ((n : ℤ) → P (k n)) → P (on_number is_long sights k)
  by_number true sights k none some = by_long sights 1 k none some
  by_number false sights k none some = by_int sights 0 k none some

  by_reference_of : (s : Option Sight) (k : Bool → Effect) → P stuck → ((b : Bool) → P (k b)) → P (on_reference_of s k)
  by_reference_of None k none some = none
  by_reference_of (Some (Word v)) k none some = none
  by_reference_of (Some Null) k none some = some true
  by_reference_of (Some (Thing it)) k none some = some false
  by_reference_of (Some Gone) k none some = some false

  pub by_reference : (sights : List Sight) (operand : ℕ) (k : Bool → Effect) → P stuck → ((b : Bool) → P (k b)) → P (on_reference sights operand k)
  by_reference sights operand k none some = by_reference_of (slice_get sights operand) k none some

  by_held_of : (of_null : Effect) (operand : ℕ) (s : Option Sight) (k : Looks → Effect) → P of_null → P stuck → P (faulty operand)
      → ((it : Looks) → s ≡ Some (Thing it) → P (k it)) → P (on_held_of of_null operand s k)
  by_held_of of_null operand None k null none gone some = none
  by_held_of of_null operand (Some (Word v)) k null none gone some = none
  by_held_of of_null operand (Some Null) k null none gone some = null
  by_held_of of_null operand (Some (Thing it)) k null none gone some = some it refl
  by_held_of of_null operand (Some Gone) k null none gone some = gone

  pub by_held : (of_null : Effect) (sights : List Sight) (operand : ℕ) (k : Looks → Effect) → P of_null → P stuck → P (faulty operand)
      → ((it : Looks) → slice_get sights operand ≡ Some (Thing it) → P (k it)) → P (on_held of_null sights operand k)
  by_held of_null sights operand k null none gone some = by_held_of of_null operand (slice_get sights operand) k null none gone some

  pub by_any : (o : Outline) (sights : List Sight) (operand : ℕ) (k : Looks → Effect) → P (thrown_null o) → P stuck → P (faulty operand)
      → ((it : Looks) → slice_get sights operand ≡ Some (Thing it) → P (k it)) → P (on_any o sights operand k)
  by_any o sights operand k null none gone some = by_held (thrown_null o) sights operand k null none gone some

  pub by_passing : (o : Outline) (test : Looks → Bool) (sights : List Sight) (operand : ℕ) (k : Looks → Effect) → P (thrown_null o) → P stuck
      → P (faulty operand) → ((it : Looks) → slice_get sights operand ≡ Some (Thing it) → test it ≡ true → P (k it))
      → P (on_passing o test sights operand k)
  by_passing o test sights operand k null none gone some =
      by_any o sights operand (λ it. cond (test it) (k it) (faulty operand)) null none gone
      (λ it seen. by_if (test it) (k it) (faulty operand) (some it seen) (λ failed. gone))

  pub by_object : (o : Outline) (t : TypeRef) (sights : List Sight) (operand : ℕ) (k : Looks → Effect) → P (thrown_null o) → P stuck
      → P (faulty operand) → ((it : Looks) → slice_get sights operand ≡ Some (Thing it) → fits_type o.classes it.type t ≡ true → P (k it))
      → P (on_object o t sights operand k)
  by_object o t sights operand k null none gone some = by_passing o (λ it. fits_type o.classes it.type t) sights operand k null none gone some

  pub by_thrown : (o : Outline) (r : Option ℤ) (k : ℤ → Effect) → P (thrown o (codes "java/lang/ArithmeticException")) → ((n : ℤ) → P (k n))
      → P (or_thrown o r k)
  by_thrown o None k none some = none
  by_thrown o (Some n) k none some = some n

  -- ---- what an instruction names

  by_type_of : (t : Option TypeRef) (k : TypeRef → Effect) → P stuck → ((u : TypeRef) → t ≡ Some u → P (k u)) → P (by_type t k)
  by_type_of None k none some = none
  by_type_of (Some t) k none some = some t refl

  pub by_on_type : (o : Outline) (u : Use) (k : TypeRef → Effect) → P stuck
      → ((n : TypeId) (t : TypeRef) → u ≡ resolved.OfType n → slice_get o.types n.0 ≡ Some t → P (k t)) → P (on_type o u k)
  by_on_type o (resolved.OfType t) k none some = by_type_of (slice_get o.types t.0) k none (λ u is. some t u refl is)
  by_on_type o (resolved.OfField f t) k none some = none
  by_on_type o (resolved.OfMethod m t) k none some = none
  by_on_type o (resolved.OfInt n) k none some = none
  by_on_type o (resolved.OfLong n) k none some = none
  by_on_type o (resolved.OfText text) k none some = none
  by_on_type o resolved.Unused k none some = none

  pub by_on_field : (o : Outline) (u : Use) (k : ℕ → TypeRef → Effect) → P stuck
      → ((f : FieldId) (n : TypeId) (t : TypeRef) → u ≡ resolved.OfField f n → slice_get o.types n.0 ≡ Some t → P (k f.0 t)) → P (on_field o u k)
  by_on_field o (resolved.OfType t) k none some = none
  by_on_field o (resolved.OfField f t) k none some = by_type_of (slice_get o.types t.0) (k f.0) none (λ u is. some f t u refl is)
  by_on_field o (resolved.OfMethod m t) k none some = none
  by_on_field o (resolved.OfInt n) k none some = none
  by_on_field o (resolved.OfLong n) k none some = none
  by_on_field o (resolved.OfText text) k none some = none
  by_on_field o resolved.Unused k none some = none

  pub by_on_method : (o : Outline) (u : Use) (k : ℕ → TypeRef → Effect) → P stuck
      → ((m : MethodId) (n : TypeId) (t : TypeRef) → u ≡ resolved.OfMethod m n → slice_get o.types n.0 ≡ Some t → P (k m.0 t)) → P (on_method o u k)
  by_on_method o (resolved.OfType t) k none some = none
  by_on_method o (resolved.OfField f t) k none some = none
  by_on_method o (resolved.OfMethod m t) k none some = by_type_of (slice_get o.types t.0) (k m.0) none (λ u is. some m t u refl is)
  by_on_method o (resolved.OfInt n) k none some = none
  by_on_method o (resolved.OfLong n) k none some = none
  by_on_method o (resolved.OfText text) k none some = none
  by_on_method o resolved.Unused k none some = none
