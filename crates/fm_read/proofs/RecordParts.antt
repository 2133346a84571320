-- The parts of a record: they are spelled as the record is, and fit where it fits.
use Rattle.std.proofs.Common.{◌≡◌, ℕ, List, [], ◌∷◌, ◌++◌, map, refl, sym, ◌∙◌, arith}
use Rattle.std.specs.List.{flat_map, AllByRecursion}
use Rattle.std.proofs.lemmas.List.{append-nil, length-map}
use Rattle.std.proofs.lemmas.List.Concat.{flat_map-cons}
use Rattle.fm_code.specs.Numbers.{two}
use Rattle.fm_code.specs.ClassBytes.{class_bytes, counted, magic, member_attribute_bytes, member_bytes, pool_bytes, raw_bytes}
use Rattle.fm_code.specs.Fits.{ClassFits, CountedFits, MemberAttrFits, MemberFits, RawFits}
use Rattle.fm_code.specs.declared.class_file.ClassDef.{ClassDef}
use Rattle.fm_code.specs.declared.class_file.Member.{Member}
use Rattle.fm_code.specs.declared.class_file.MemberAttr.{MemberAttr}
use Rattle.fm_code.specs.declared.class_file.MemberAttr.TheVariants as attribute
use Rattle.fm_code.proofs.Bytes.{AreBytes-two, length-two}
use Rattle.fm_read.specs.inner.Parts.{raw_of_attribute, raw_of_class, raw_of_member, RawBodyFits, RawMemberFits}
use Rattle.fm_read.proofs.PartsPieces.{raw_body_bytes, raw_member_bytes}
use Rattle.fm_read.proofs.SpelledBytes.{AreBytes-code}

-- ---- lists of parts

-- elements that are spelled as their parts are
flat_map-parts : {X Y : Type 0} (part : X → Y) (spell : X → List ℕ) (spell_part : Y → List ℕ) → ((x : X) → spell x ≡ spell_part (part x)) → (xs : List X) →
    flat_map spell xs ≡ flat_map spell_part (map part xs)
flat_map-parts part spell spell_part each [] = refl
flat_map-parts part spell spell_part each (x ∷ xs) =
    flat_map-cons spell x xs ∙ rw (each x, flat_map-parts part spell spell_part each xs) (sym (flat_map-cons spell_part (part x) (map part xs)))

counted-parts : {X Y : Type 0} (part : X → Y) (spell : X → List ℕ) (spell_part : Y → List ℕ) → ((x : X) → spell x ≡ spell_part (part x)) → (xs : List X) →
    counted spell xs ≡ counted spell_part (map part xs)
counted-parts part spell spell_part each xs = rw (length-map, flat_map-parts part spell spell_part each xs) refl

-- elements whose parts fit
all-parts : {X Y : Type 0} (part : X → Y) (Fits : X → Type 0) (PartFits : Y → Type 0) → ((x : X) → Fits x → PartFits (part x)) → (xs : List X) → AllByRecursion Fits xs → AllByRecursion PartFits (map part xs)
all-parts part Fits PartFits each [] all = tt
all-parts part Fits PartFits each (x ∷ xs) all = (each x all.0, all-parts part Fits PartFits each xs all.1)

CountedFits-parts : {X Y : Type 0} (part : X → Y) (Fits : X → Type 0) (PartFits : Y → Type 0) → ((x : X) → Fits x → PartFits (part x)) → (xs : List X) → CountedFits Fits xs → CountedFits PartFits (map part xs)
CountedFits-parts part Fits PartFits each xs fits =
    record { count = rw length-map fits.count; each = all-parts part Fits PartFits each xs fits.each }

-- ---- attributes

pub attribute_spelled : (a : MemberAttr) → member_attribute_bytes a ≡ raw_bytes (raw_of_attribute a)
unfolding member_attribute_bytes raw_bytes
attribute_spelled (attribute.Constant name value) = refl
attribute_spelled (attribute.Coded name code) = refl
attribute_spelled (attribute.Other raw) = refl

pub attribute_fits : (a : MemberAttr) → MemberAttrFits a → RawFits (raw_of_attribute a)
attribute_fits (attribute.Constant name value) fits = record { name = fits.0; size = omega (arith, length-two value); bytes = AreBytes-two value }
attribute_fits (attribute.Coded name code) fits = record { name = fits.0; size = fits.1.size; bytes = AreBytes-code code fits.1 }
attribute_fits (attribute.Other raw) fits = fits

-- ---- fields and methods

pub member_spelled : (m : Member) → member_bytes m ≡ raw_member_bytes (raw_of_member m)
unfolding member_bytes
member_spelled m = rw (append-nil, counted-parts raw_of_attribute member_attribute_bytes raw_bytes attribute_spelled m.attributes) refl

pub member_fits : (m : Member) → MemberFits m → RawMemberFits (raw_of_member m)
member_fits m fits = record {
  flags = fits.flags;
  name = fits.name;
  descriptor = fits.descriptor;
  attributes = CountedFits-parts raw_of_attribute MemberAttrFits RawFits attribute_fits m.attributes fits.attributes;
}

-- ---- the class

pub class_spelled : (c : ClassDef) → class_bytes c ≡ magic ++ (two c.minor ++ (two c.major ++ (pool_bytes c.pool ++ raw_body_bytes (raw_of_class c))))
unfolding class_bytes
class_spelled c =
    rw (append-nil, counted-parts raw_of_member member_bytes raw_member_bytes member_spelled c.fields, counted-parts raw_of_member member_bytes raw_member_bytes member_spelled c.methods) refl

pub class_fits : (c : ClassDef) → ClassFits c → RawBodyFits (raw_of_class c)
class_fits c fits = record {
  flags = fits.flags;
  this_class = fits.this_class;
  super_class = fits.super_class;
  interfaces = fits.interfaces;
  fields = CountedFits-parts raw_of_member MemberFits RawMemberFits member_fits c.fields fits.fields;
  methods = CountedFits-parts raw_of_member MemberFits RawMemberFits member_fits c.methods fits.methods;
  attributes = fits.attributes;
}
