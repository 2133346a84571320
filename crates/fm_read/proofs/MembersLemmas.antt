-- Fields and methods: what the parts of one determine of it, and which is read of them.
use Rattle.std.proofs.Common.{◌≡◌, ◌≢◌, ℕ, Bool, List, map, codes, length, Some, IsSomeAnd, refl, sym, ap, subst, ◌∙◌, arith}
use Rattle.std.specs.List.{AllByRecursion}
use Rattle.std.proofs.lemmas.List.{length-map}
use Rattle.fm_code.specs.ConstantPool.{utf8_at}
use Rattle.fm_code.specs.Fits.{MemberAttrFits, MemberFits}
use Rattle.fm_code.specs.Members.{AreDistinct}
use Rattle.fm_code.specs.declared.class_file.Member.{Member}
use Rattle.fm_code.specs.declared.class_file.MemberAttr.{MemberAttr}
use Rattle.fm_code.specs.declared.class_file.MemberAttr.TheVariants as attribute
use Rattle.fm_code.specs.declared.class_file.Raw.{Raw}
use Rattle.fm_code.specs.declared.code_array.Code.{Code}
use Rattle.fm_code.specs.declared.constant_pool.Entry.{Entry}
use Rattle.fm_code.proofs.Bytes.{two_injective}
use Rattle.fm_code.proofs.CodePrefixes.{one_code_attribute}
use Rattle.fm_code.proofs.Prefixes.{text_meets}
use Rattle.fm_read.specs.declared.attributes.MemberKind.{MemberKind}
use Rattle.fm_read.specs.declared.attributes.MemberKind.TheVariants as kind
use Rattle.fm_read.specs.inner.MemberRules.{AreAttributesOf, AreMembersOf, AttributeIsValid, IsAttributeOf, IsMemberOf, MeetsRules, MemberIsValid}
use Rattle.fm_read.specs.inner.Parts.{RawMember, RawMemberFits, raw_of_attribute, raw_of_member}
use Rattle.fm_read.specs.inner.Rules.{AreFieldsOf, AreMethodsOf}
use Rattle.fm_read.proofs.ReadInTurn.{AreRead-same}

-- ---- an attribute is determined by its part

-- a text isn't another one
not_that : (entries : List Entry) (name other : ℕ) (text : List ℕ) → name ≡ other → utf8_at entries name ≡ Some text → IsSomeAnd (utf8_at entries other) (λ t. t ≢ text) → ⊥
not_that entries name other text same is differs = text_meets (λ t. t ≢ text) entries name other text same is differs refl

same_constant : (n m v w : ℕ) → n ≡ m → v ≡ w → attribute.Constant n v ≡ attribute.Constant m w
same_constant n m v w e f = cc

same_coded : (n m : ℕ) (c d : Code) → n ≡ m → c ≡ d → attribute.Coded n c ≡ attribute.Coded m d
same_coded n m c d e f = cc

field_attribute_is : (entries : List Entry) (raw : Raw) (a b : MemberAttr) → IsAttributeOf kind.Field entries raw a → IsAttributeOf kind.Field entries raw b → a ≡ b
field_attribute_is entries raw (attribute.Constant n v) (attribute.Constant m w) first second =
    let same = first.part ∙ sym second.part in
    same_constant n m v w (ap (λ (r : Raw). r.name) same) (two_injective v w first.fits.1 second.fits.1 (ap (λ (r : Raw). r.bytes) same))
field_attribute_is entries raw (attribute.Constant n v) (attribute.Other other) first second =
    absurd (not_that entries n other.name (codes "ConstantValue") (ap (λ (r : Raw). r.name) (first.part ∙ sym second.part)) first.valid.0 second.valid)
field_attribute_is entries raw (attribute.Other other) (attribute.Constant n v) first second =
    absurd (not_that entries n other.name (codes "ConstantValue") (ap (λ (r : Raw). r.name) (second.part ∙ sym first.part)) second.valid.0 first.valid)
field_attribute_is entries raw (attribute.Other r) (attribute.Other s) first second = ap (λ (x : Raw). attribute.Other x) (first.part ∙ sym second.part)
field_attribute_is entries raw (attribute.Coded n c) b first second = absurd first.valid
field_attribute_is entries raw a (attribute.Coded n c) first second = absurd second.valid

method_attribute_is : (entries : List Entry) (raw : Raw) (a b : MemberAttr) → IsAttributeOf kind.Method entries raw a → IsAttributeOf kind.Method entries raw b → a ≡ b
method_attribute_is entries raw (attribute.Coded n c) (attribute.Coded m d) first second =
    let same = first.part ∙ sym second.part in
    same_coded n m c d (ap (λ (r : Raw). r.name) same)
    (one_code_attribute entries c d (record { fits = first.fits.1; valid = first.valid.1 }) (record { fits = second.fits.1; valid = second.valid.1 }) (ap (λ (r : Raw). r.bytes) same))
method_attribute_is entries raw (attribute.Coded n c) (attribute.Other other) first second =
    absurd (not_that entries n other.name (codes "Code") (ap (λ (r : Raw). r.name) (first.part ∙ sym second.part)) first.valid.0 second.valid)
method_attribute_is entries raw (attribute.Other other) (attribute.Coded n c) first second =
    absurd (not_that entries n other.name (codes "Code") (ap (λ (r : Raw). r.name) (second.part ∙ sym first.part)) second.valid.0 first.valid)
method_attribute_is entries raw (attribute.Other r) (attribute.Other s) first second = ap (λ (x : Raw). attribute.Other x) (first.part ∙ sym second.part)
method_attribute_is entries raw (attribute.Constant n v) b first second = absurd first.valid
method_attribute_is entries raw a (attribute.Constant n v) first second = absurd second.valid

attribute_is : (k : MemberKind) (entries : List Entry) (raw : Raw) (a b : MemberAttr) → IsAttributeOf k entries raw a → IsAttributeOf k entries raw b → a ≡ b
attribute_is kind.Field entries = field_attribute_is entries
attribute_is kind.Method entries = method_attribute_is entries

attributes_are : (k : MemberKind) (entries : List Entry) (raws : List Raw) (xs ys : List MemberAttr) → AreAttributesOf k entries raws xs → AreAttributesOf k entries raws ys → xs ≡ ys
attributes_are k entries = AreRead-same raw_of_attribute MemberAttrFits (AttributeIsValid k entries) (attribute_is k entries)

-- ---- the rules of a member

-- a member of these parts, with these attributes
abbrev pub made : RawMember → List MemberAttr → Member
made raw attributes = record { flags = raw.flags; name = raw.name; descriptor = raw.descriptor; attributes = attributes }

attributes_valid : (k : MemberKind) (in_interface : Bool) (entries : List Entry) (m : Member) → MemberIsValid k in_interface entries m → AllByRecursion (AttributeIsValid k entries) m.attributes
attributes_valid kind.Field in_interface entries m valid = valid.attributes
attributes_valid kind.Method in_interface entries m valid = valid.attributes

rules_met : (k : MemberKind) (in_interface : Bool) (entries : List Entry) (m : Member) → MemberIsValid k in_interface entries m → MeetsRules k in_interface entries m
rules_met kind.Field in_interface entries m valid = record { name = valid.name; descriptor = valid.descriptor; value = valid.value; of_interface = valid.of_interface }
rules_met kind.Method in_interface entries m valid =
    record { name = valid.name; descriptor = valid.descriptor; coded = valid.coded; abstract_alone = valid.abstract_alone; constructor = valid.constructor; of_interface = valid.of_interface }

valid_from_rules : (k : MemberKind) (in_interface : Bool) (entries : List Entry) (m : Member) → MeetsRules k in_interface entries m → AllByRecursion (AttributeIsValid k entries) m.attributes → MemberIsValid k in_interface entries m
valid_from_rules kind.Field in_interface entries m rules attributes =
    record { name = rules.name; descriptor = rules.descriptor; attributes = attributes; value = rules.value; of_interface = rules.of_interface }
valid_from_rules kind.Method in_interface entries m rules attributes =
    record { name = rules.name; descriptor = rules.descriptor; attributes = attributes; coded = rules.coded; abstract_alone = rules.abstract_alone; constructor = rules.constructor; of_interface = rules.of_interface }

-- ---- a member of its parts

-- the attributes of a member are those of its part
pub attributes_from_member : (k : MemberKind) (in_interface : Bool) (entries : List Entry) (raw : RawMember) (m : Member) → IsMemberOf k in_interface entries raw m → AreAttributesOf k entries raw.attributes m.attributes
attributes_from_member k in_interface entries raw m is =
    record { parts = ap (λ (r : RawMember). r.attributes) is.part; fits = is.fits.attributes.each; valid = attributes_valid k in_interface entries m is.valid }

same_fields : (f g n o d e : ℕ) (xs ys : List MemberAttr) → f ≡ g → n ≡ o → d ≡ e → xs ≡ ys
    → let Same : Member → Member → Type 0 = λ x y. x ≡ y in Same (record { flags = f; name = n; descriptor = d; attributes = xs }) (record { flags = g; name = o; descriptor = e; attributes = ys })
same_fields f g n o d e xs ys p q r s = cc

-- and it is made of the attributes that were read
pub member_is_made : (k : MemberKind) (in_interface : Bool) (entries : List Entry) (raw : RawMember) (attributes : List MemberAttr) (m : Member)
    → AreAttributesOf k entries raw.attributes attributes → IsMemberOf k in_interface entries raw m → m ≡ made raw attributes
member_is_made k in_interface entries raw attributes m are is =
    same_fields m.flags raw.flags m.name raw.name m.descriptor raw.descriptor m.attributes attributes
    (ap (λ (r : RawMember). r.flags) is.part) (ap (λ (r : RawMember). r.name) is.part) (ap (λ (r : RawMember). r.descriptor) is.part)
    (attributes_are k entries raw.attributes m.attributes attributes (attributes_from_member k in_interface entries raw m is) are)

same_raw : (f n d : ℕ) (xs ys : List Raw) → xs ≡ ys → let Same : RawMember → RawMember → Type 0 = λ x y. x ≡ y in Same (record { flags = f; name = n; descriptor = d; attributes = xs }) (record { flags = f; name = n; descriptor = d; attributes = ys })
same_raw f n d xs ys e = cc

pub IsMemberOf-made : (k : MemberKind) (in_interface : Bool) (entries : List Entry) (raw : RawMember) (attributes : List MemberAttr) → RawMemberFits raw
    → AreAttributesOf k entries raw.attributes attributes → MeetsRules k in_interface entries (made raw attributes) → IsMemberOf k in_interface entries raw (made raw attributes)
IsMemberOf-made k in_interface entries raw attributes fits are rules = record {
  part = same_raw raw.flags raw.name raw.descriptor (map raw_of_attribute attributes) raw.attributes are.parts;
  fits = record {
    flags = fits.flags;
    name = fits.name;
    descriptor = fits.descriptor;
    attributes = record {
      count = let count = fits.attributes.count in let same = sym (length-map attributes raw_of_attribute) ∙ ap length are.parts in omega arith;
      each = are.fits;
    };
  };
  valid = valid_from_rules k in_interface entries (made raw attributes) rules are.valid;
}

-- where no attributes are read, there is no member
pub no_attributes : (k : MemberKind) (in_interface : Bool) (entries : List Entry) (raw : RawMember) → ((xs : List MemberAttr) → AreAttributesOf k entries raw.attributes xs → ⊥)
    → (m : Member) → IsMemberOf k in_interface entries raw m → ⊥
no_attributes k in_interface entries raw none m is = none m.attributes (attributes_from_member k in_interface entries raw m is)

-- nor where the member that is made of them meets not all rules
pub rules_broken : (k : MemberKind) (in_interface : Bool) (entries : List Entry) (raw : RawMember) (attributes : List MemberAttr) → AreAttributesOf k entries raw.attributes attributes
    → (MeetsRules k in_interface entries (made raw attributes) → ⊥) → (m : Member) → IsMemberOf k in_interface entries raw m → ⊥
rules_broken k in_interface entries raw attributes are broken m is =
    broken (subst (MeetsRules k in_interface entries) (member_is_made k in_interface entries raw attributes m are is) (rules_met k in_interface entries m is.valid))

-- ---- members of their parts

member_is : (k : MemberKind) (in_interface : Bool) (entries : List Entry) (raw : RawMember) (m n : Member) → IsMemberOf k in_interface entries raw m → IsMemberOf k in_interface entries raw n → m ≡ n
member_is k in_interface entries raw m n first second =
    member_is_made k in_interface entries raw m.attributes m (attributes_from_member k in_interface entries raw m first) first
    ∙ sym (member_is_made k in_interface entries raw m.attributes n (attributes_from_member k in_interface entries raw m first) second)

members_are : (k : MemberKind) (in_interface : Bool) (entries : List Entry) (raws : List RawMember) (ms ns : List Member) → AreMembersOf k in_interface entries raws ms → AreMembersOf k in_interface entries raws ns → ms ≡ ns
members_are k in_interface entries = AreRead-same raw_of_member MemberFits (MemberIsValid k in_interface entries) (member_is k in_interface entries)

-- where those that are read aren't distinct, no others are
pub none_distinct : (k : MemberKind) (in_interface : Bool) (entries : List Entry) (raws : List RawMember) (ms ns : List Member) → AreMembersOf k in_interface entries raws ms → (AreDistinct entries ms → ⊥)
    → AreMembersOf k in_interface entries raws ns → AreDistinct entries ns → ⊥
none_distinct k in_interface entries raws ms ns are agree others distinct = agree (subst (AreDistinct entries) (members_are k in_interface entries raws ns ms others are) distinct)

-- ---- fields, and methods

pub members_from_fields : (in_interface : Bool) (entries : List Entry) (raws : List RawMember) (ms : List Member) → AreFieldsOf in_interface entries raws ms → AreMembersOf kind.Field in_interface entries raws ms
members_from_fields in_interface entries raws ms are = record { parts = are.parts; fits = are.fits; valid = are.valid }

pub members_from_methods : (in_interface : Bool) (entries : List Entry) (raws : List RawMember) (ms : List Member) → AreMethodsOf in_interface entries raws ms → AreMembersOf kind.Method in_interface entries raws ms
members_from_methods in_interface entries raws ms are = record { parts = are.parts; fits = are.fits; valid = are.valid }
