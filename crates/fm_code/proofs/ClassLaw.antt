-- The bytes of a class file determine its record.
use Rattle.std.proofs.Common.{◌≡◌, ℕ, Bool, List, [], ◌++◌, length, refl, ap, sym, ◌∙◌, subst, arith}
use Rattle.std.proofs.lemmas.List.{append-nil}
use Rattle.std.specs.List.{AllByRecursion}
use Rattle.fm_code.specs.Numbers.{two}
use Rattle.fm_code.specs.ClassBytes.{counted, attribute_bytes, raw_bytes, code_bytes, member_attribute_bytes, member_bytes, pool_bytes, magic, class_bytes}
use Rattle.fm_code.specs.Fits.{FitsTwo, FitsFour, MemberAttrFits, MemberFits, RawFits}
use Rattle.fm_code.specs.AccessFlags.{is_interface}
use Rattle.fm_code.specs.Members.{FieldAttrIsValid, FieldIsValid, MethodAttrIsValid, MethodIsValid}
use Rattle.fm_code.specs.Spells.{Spells}
use Rattle.fm_code.specs.declared.constant_pool.Entry.{Entry}
use Rattle.fm_code.specs.declared.constant_pool.Pool.{Pool}
use Rattle.fm_code.specs.declared.class_file.ClassDef.{ClassDef}
use Rattle.fm_code.specs.declared.class_file.Member.{Member}
use Rattle.fm_code.specs.declared.class_file.MemberAttr.{MemberAttr}
use Rattle.fm_code.specs.declared.class_file.MemberAttr.TheVariants as attribute
use Rattle.fm_code.proofs.Bytes.{length-two}
use Rattle.fm_code.proofs.Prefixes.{Cancels, Tells, Cancels-two, Cancels-raw, cancel_attribute, CountedFits-both, ◌then◌, ◌so◌, tells, tells_two, tells_counted, tells_same, tells_nothing, told_alone, text_meets}
use Rattle.fm_code.proofs.PoolPrefixes.{PoolFits, Cancels-pool}
use Rattle.fm_base.proofs.ListFacts.{AllByRecursion-weaker}
use Rattle.fm_code.proofs.CodePrefixes.{one_code_attribute}

-- ---- attributes of members

-- the index of an attribute's name, and its bytes after their number
abbrev pub name_of : MemberAttr → ℕ
name_of (attribute.Constant name value) = name
name_of (attribute.Coded name code) = name
name_of (attribute.Other raw) = raw.name

abbrev pub body_of : MemberAttr → List ℕ
body_of (attribute.Constant name value) = two value
body_of (attribute.Coded name code) = code_bytes code
body_of (attribute.Other raw) = raw.bytes

-- an attribute is its name and its body
pub member_attribute_is : (a : MemberAttr) → member_attribute_bytes a ≡ attribute_bytes (name_of a) (body_of a)
unfolding member_attribute_bytes raw_bytes
member_attribute_is (attribute.Constant name value) = refl
member_attribute_is (attribute.Coded name code) = refl
member_attribute_is (attribute.Other raw) = refl

-- the name and the length of the body fit their bytes
pub name_fits : (a : MemberAttr) → MemberAttrFits a → FitsTwo (name_of a)
name_fits (attribute.Constant name value) fits = fits.0
name_fits (attribute.Coded name code) fits = fits.0
name_fits (attribute.Other raw) fits = fits.name

pub body_fits : (a : MemberAttr) → MemberAttrFits a → FitsFour (length (body_of a))
body_fits (attribute.Constant name value) fits = let size = length-two value in omega arith
body_fits (attribute.Coded name code) fits = fits.1.size
body_fits (attribute.Other raw) fits = fits.size

-- attributes that are determined by their names and their bodies are determined by their bytes
Cancels-member_attribute : (Right : MemberAttr → Type 0) → ((a : MemberAttr) → Right a → MemberAttrFits a) →
    ((a b : MemberAttr) → Right a → Right b → name_of a ≡ name_of b → body_of a ≡ body_of b → a ≡ b) → Cancels member_attribute_bytes Right
Cancels-member_attribute Right fits same a b r s a_right b_right e =
    let spelled : attribute_bytes (name_of a) (body_of a) ++ r ≡ attribute_bytes (name_of b) (body_of b) ++ s =
    sym (ap (λ (bytes : List ℕ). bytes ++ r) (member_attribute_is a)) ∙ e ∙ ap (λ (bytes : List ℕ). bytes ++ s) (member_attribute_is b) in
    let parts = cancel_attribute (name_of a) (name_of b) (body_of a) (body_of b) r s (name_fits a (fits a a_right)) (name_fits b (fits b b_right))
    (body_fits a (fits a a_right)) (body_fits b (fits b b_right)) spelled in
    (same a b a_right b_right parts.0 parts.1, parts.2)

-- an attribute that a field may have
abbrev FieldAttrIsRight : List Entry → MemberAttr → Type 0
FieldAttrIsRight entries a = MemberAttrFits a × FieldAttrIsValid entries a

-- a field's attribute is determined by its name and its body
same_field_attribute : (entries : List Entry) (a b : MemberAttr) → FieldAttrIsRight entries a → FieldAttrIsRight entries b →
    name_of a ≡ name_of b → body_of a ≡ body_of b → a ≡ b
same_field_attribute entries (attribute.Constant n v) (attribute.Constant m w) (a_fits, _) (b_fits, _) names bodies =
    let values = told_alone two FitsTwo Cancels-two v w a_fits.1 b_fits.1 bodies in λ k. attribute.Constant (names k) (values k)
same_field_attribute entries (attribute.Constant n v) (attribute.Other raw) a_right b_right names bodies =
    absurd (text_meets _ entries n raw.name _ names a_right.1.0 b_right.1 refl)
same_field_attribute entries (attribute.Other raw) (attribute.Constant m w) a_right b_right names bodies =
    absurd (text_meets _ entries m raw.name _ (sym names) b_right.1.0 a_right.1 refl)
same_field_attribute entries (attribute.Other raw) (attribute.Other other) a_right b_right names bodies =
    λ k. attribute.Other (record { name = names k; bytes = bodies k })
same_field_attribute entries (attribute.Coded n c) b a_right b_right names bodies = absurd a_right.1
same_field_attribute entries a (attribute.Coded m d) a_right b_right names bodies = absurd b_right.1

-- an attribute that a method may have
abbrev MethodAttrIsRight : List Entry → MemberAttr → Type 0
MethodAttrIsRight entries a = MemberAttrFits a × MethodAttrIsValid entries a

-- a method's attribute is determined by its name and its body
same_method_attribute : (entries : List Entry) (a b : MemberAttr) → MethodAttrIsRight entries a → MethodAttrIsRight entries b →
    name_of a ≡ name_of b → body_of a ≡ body_of b → a ≡ b
same_method_attribute entries (attribute.Coded n c) (attribute.Coded m d) (a_fits, a_valid) (b_fits, b_valid) names bodies =
    let codes_same = one_code_attribute entries c d (record { fits = a_fits.1; valid = a_valid.1 }) (record { fits = b_fits.1; valid = b_valid.1 }) bodies in
    λ k. attribute.Coded (names k) (codes_same k)
same_method_attribute entries (attribute.Coded n c) (attribute.Other raw) a_right b_right names bodies =
    absurd (text_meets _ entries n raw.name _ names a_right.1.0 b_right.1 refl)
same_method_attribute entries (attribute.Other raw) (attribute.Coded m d) a_right b_right names bodies =
    absurd (text_meets _ entries m raw.name _ (sym names) b_right.1.0 a_right.1 refl)
same_method_attribute entries (attribute.Other raw) (attribute.Other other) a_right b_right names bodies =
    λ k. attribute.Other (record { name = names k; bytes = bodies k })
same_method_attribute entries (attribute.Constant n v) b a_right b_right names bodies = absurd a_right.1
same_method_attribute entries a (attribute.Constant m w) a_right b_right names bodies = absurd b_right.1

-- ---- members

-- a member whose attributes meet a rule
abbrev MemberIsRight : (MemberAttr → Type 0) → Member → Type 0
MemberIsRight Valid m = MemberFits m × AllByRecursion Valid m.attributes

-- a member is determined by its bytes if its attributes are
Cancels-member : (Valid : MemberAttr → Type 0) → Cancels member_attribute_bytes (λ a. MemberAttrFits a × Valid a) → Cancels member_bytes (MemberIsRight Valid)
unfolding member_bytes
Cancels-member Valid cancels x y r s (x_fits, x_valid) (y_fits, y_valid) e =
    let told =
    tells_two x.flags y.flags x_fits.flags y_fits.flags
    then tells_two x.name y.name x_fits.name y_fits.name
    then tells_two x.descriptor y.descriptor x_fits.descriptor y_fits.descriptor
    then tells_counted member_attribute_bytes (λ a. MemberAttrFits a × Valid a) cancels x.attributes y.attributes
    (CountedFits-both MemberAttrFits Valid x.attributes x_fits.attributes x_valid) (CountedFits-both MemberAttrFits Valid y.attributes y_fits.attributes y_valid)
    then tells_nothing in
    let ((flags, (name, (descriptor, (attributes, _)))), rest) = told.cancel r s e in
    (λ k. record { flags = flags k; name = name k; descriptor = descriptor k; attributes = attributes k }, rest)

-- fields are determined by their bytes
Cancels-field : (entries : List Entry) → Cancels member_bytes (MemberIsRight (FieldAttrIsValid entries))
Cancels-field entries =
    Cancels-member (FieldAttrIsValid entries) (Cancels-member_attribute (FieldAttrIsRight entries) (λ a right. right.0) (same_field_attribute entries))

-- methods are determined by their bytes
Cancels-method : (entries : List Entry) → Cancels member_bytes (MemberIsRight (MethodAttrIsValid entries))
Cancels-method entries =
    Cancels-member (MethodAttrIsValid entries) (Cancels-member_attribute (MethodAttrIsRight entries) (λ a right. right.0) (same_method_attribute entries))

-- ---- the class file

-- the fields of two class files with one pool
tells_fields : (x y : List ℕ) (c d : ClassDef) → Spells x c → Spells y d → c.pool ≡ d.pool →
    Tells (counted member_bytes c.fields) (counted member_bytes d.fields) (c.fields ≡ d.fields)
tells_fields x y c d c_spells d_spells pool =
    let entries = c.pool.entries in
    let Valid : Member → Type 0 = λ m. AllByRecursion (FieldAttrIsValid entries) m.attributes in
    let valid : (interface : Bool) (m : Member) → FieldIsValid interface entries m → Valid m = λ interface m field. field.attributes in
    let d_there : AllByRecursion (FieldIsValid (is_interface d.flags) entries) d.fields =
    subst (λ (p : Pool). AllByRecursion (FieldIsValid (is_interface d.flags) p.entries) d.fields) (sym pool) d_spells.fields in
    tells_counted member_bytes (MemberIsRight (FieldAttrIsValid entries)) (Cancels-field entries) c.fields d.fields
    (CountedFits-both MemberFits Valid c.fields c_spells.fits.fields
    (AllByRecursion-weaker (FieldIsValid (is_interface c.flags) entries) Valid (valid (is_interface c.flags)) c.fields c_spells.fields))
    (CountedFits-both MemberFits Valid d.fields d_spells.fits.fields
    (AllByRecursion-weaker (FieldIsValid (is_interface d.flags) entries) Valid (valid (is_interface d.flags)) d.fields d_there))

-- the methods of two class files with one pool
tells_methods : (x y : List ℕ) (c d : ClassDef) → Spells x c → Spells y d → c.pool ≡ d.pool →
    Tells (counted member_bytes c.methods) (counted member_bytes d.methods) (c.methods ≡ d.methods)
tells_methods x y c d c_spells d_spells pool =
    let entries = c.pool.entries in
    let Valid : Member → Type 0 = λ m. AllByRecursion (MethodAttrIsValid entries) m.attributes in
    let valid : (interface : Bool) (m : Member) → MethodIsValid interface entries m → Valid m = λ interface m method. method.attributes in
    let d_there : AllByRecursion (MethodIsValid (is_interface d.flags) entries) d.methods =
    subst (λ (p : Pool). AllByRecursion (MethodIsValid (is_interface d.flags) p.entries) d.methods) (sym pool) d_spells.methods in
    tells_counted member_bytes (MemberIsRight (MethodAttrIsValid entries)) (Cancels-method entries) c.methods d.methods
    (CountedFits-both MemberFits Valid c.methods c_spells.fits.methods
    (AllByRecursion-weaker (MethodIsValid (is_interface c.flags) entries) Valid (valid (is_interface c.flags)) c.methods c_spells.methods))
    (CountedFits-both MemberFits Valid d.methods d_spells.fits.methods
    (AllByRecursion-weaker (MethodIsValid (is_interface d.flags) entries) Valid (valid (is_interface d.flags)) d.methods d_there))

-- the pool of a class file
pool_fits : (bytes : List ℕ) (c : ClassDef) → Spells bytes c → PoolFits c.pool
pool_fits bytes c spells = record { entries = spells.pool.fits; slots = spells.pool.slots }

-- a class file in front of other bytes is determined by the bytes alone
pub cancel_class : (x y : List ℕ) (c d : ClassDef) (r s : List ℕ) → Spells x c → Spells y d → x ++ r ≡ y ++ s → (c ≡ d) × (r ≡ s)
unfolding class_bytes
cancel_class x y c d r s c_spells d_spells e =
    let c_fits = c_spells.fits in
    let d_fits = d_spells.fits in
    let told =
    tells_same magic magic refl
    then tells_two c.minor d.minor c_fits.minor d_fits.minor
    then tells_two c.major d.major c_fits.major d_fits.major
    then tells pool_bytes PoolFits Cancels-pool c.pool d.pool (pool_fits x c c_spells) (pool_fits y d d_spells)
    so λ pool. (
    tells_two c.flags d.flags c_fits.flags d_fits.flags
    then tells_two c.this_class d.this_class c_fits.this_class d_fits.this_class
    then tells_two c.super_class d.super_class c_fits.super_class d_fits.super_class
    then tells_counted two FitsTwo Cancels-two c.interfaces d.interfaces c_fits.interfaces d_fits.interfaces
    then tells_fields x y c d c_spells d_spells pool
    then tells_methods x y c d c_spells d_spells pool
    then tells_counted raw_bytes RawFits Cancels-raw c.attributes d.attributes c_fits.attributes d_fits.attributes
    then tells_nothing) in
    let ((_, (minor, (major, (pool, (flags, (this, (super, (interfaces, (fields, (methods, (attributes, _))))))))))), follows) =
    told.cancel r s (sym (ap (λ (bytes : List ℕ). bytes ++ r) c_spells.bytes_are) ∙ e ∙ ap (λ (bytes : List ℕ). bytes ++ s) d_spells.bytes_are) in (
      λ k. record {
        minor = minor k;
        major = major k;
        pool = pool k;
        flags = flags k;
        this_class = this k;
        super_class = super k;
        interfaces = interfaces k;
        fields = fields k;
        methods = methods k;
        attributes = attributes k;
      },
      follows,
    )

-- the bytes of a class file determine its record
pub one_record : (bytes : List ℕ) (c d : ClassDef) → Spells bytes c → Spells bytes d → c ≡ d
one_record bytes c d c_spells d_spells = (cancel_class bytes bytes c d [] [] c_spells d_spells refl).0

-- no class file is the beginning of another
pub nothing_follows : (bytes rest : List ℕ) (c d : ClassDef) → Spells bytes c → Spells (bytes ++ rest) d → rest ≡ []
nothing_follows bytes rest c d c_spells d_spells =
    (cancel_class bytes (bytes ++ rest) c d rest [] c_spells d_spells (sym (append-nil (bytes ++ rest)))).1
