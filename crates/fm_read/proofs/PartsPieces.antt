-- Fields and methods as pieces, and what is after the constant pool: what is read is spelled so, and what is spelled so is read.
use Rattle.std.proofs.Common.{◌≡◌, ℕ, eqb, List, [], ◌++◌, length, Some, refl, sym, ap, subst, ◌∙◌, append_assoc}
use Rattle.std.proofs.lemmas.Bool.{eqb-true}
use Rattle.std.proofs.lemmas.List.{append-nil}
use Rattle.fm_base.proofs.OptionFacts.{cond-some_then}
use Rattle.fm_code.specs.Numbers.{two}
use Rattle.fm_code.specs.ClassBytes.{counted, raw_bytes}
use Rattle.fm_code.specs.Fits.{AreBytes, CountedFits, FitsTwo}
use Rattle.fm_code.specs.inner.Reading.{number_at, counted_at, raw_at}
use Rattle.fm_code.proofs.Pieces.{after_piece, all_of, some_is, Takes, Takes-then, then_all, IsPiece, two_piece, counted_piece, raws_piece}
use Rattle.fm_read.specs.inner.Parts.{RawMember, RawBody, RawMemberFits, RawBodyFits}
use Rattle.fm_read.specs.inner.Reading.{member_at, body_at}

-- ---- fields and methods

abbrev pub raw_member_bytes : RawMember → List ℕ
raw_member_bytes m = two m.flags ++ (two m.name ++ (two m.descriptor ++ counted raw_bytes m.attributes))

member_takes : (bytes : List ℕ) (x : RawMember × List ℕ) → AreBytes bytes → member_at bytes ≡ Some x → Takes bytes (raw_member_bytes x.0) x.1 × RawMemberFits x.0
unfolding member_at
member_takes bytes x fits e =
    after_piece two_piece bytes _ x fits e λ flags a t0 flags_fit e0.
    after_piece two_piece a _ x t0.rest_fits e0 λ name c t1 name_fits e1.
    after_piece two_piece c _ x t1.rest_fits e1 λ descriptor d t2 descriptor_fits e2.
    after_piece raws_piece d _ x t2.rest_fits e2 λ attributes rest t3 attributes_fit e3.
    let made : RawMember = record { flags = flags; name = name; descriptor = descriptor; attributes = attributes } in
    let from_descriptor = Takes-then c (two descriptor) d (counted raw_bytes attributes) rest t2 t3 in
    let from_name = Takes-then a (two name) c _ rest t1 from_descriptor in
    let all : Takes bytes (raw_member_bytes made) rest = Takes-then bytes (two flags) a _ rest t0 from_name in
    subst (λ (y : RawMember × List ℕ). Takes bytes (raw_member_bytes y.0) y.1 × RawMemberFits y.0) (some_is (made, rest) x e3)
    (all, record { flags = flags_fit; name = name_fits; descriptor = descriptor_fits; attributes = attributes_fit })

member_again : (m : RawMember) (rest : List ℕ) → RawMemberFits m → member_at (raw_member_bytes m ++ rest) ≡ Some (m, rest)
unfolding member_at
member_again m rest fits =
    let tail = counted raw_bytes m.attributes ++ rest in
    let regrouped : raw_member_bytes m ++ rest ≡ two m.flags ++ (two m.name ++ (two m.descriptor ++ (counted raw_bytes m.attributes ++ rest))) = simp append_assoc in
    ap member_at regrouped
    ∙ rw (two_piece.again m.flags (two m.name ++ (two m.descriptor ++ tail)) fits.flags, two_piece.again m.name (two m.descriptor ++ tail) fits.name, two_piece.again m.descriptor tail fits.descriptor, raws_piece.again m.attributes rest fits.attributes) refl

pub member_piece : IsPiece member_at raw_member_bytes RawMemberFits
member_piece = record { takes = member_takes; again = member_again }

pub members_piece : IsPiece (counted_at member_at) (counted raw_member_bytes) (CountedFits RawMemberFits)
members_piece = counted_piece member_at raw_member_bytes RawMemberFits member_piece

pub indices_piece : IsPiece (counted_at (number_at 2)) (counted two) (CountedFits FitsTwo)
indices_piece = counted_piece (number_at 2) two FitsTwo two_piece

-- ---- what is after the constant pool

abbrev pub raw_body_bytes : RawBody → List ℕ
raw_body_bytes b =
    two b.flags ++ (two b.this_class ++ (two b.super_class ++ (counted two b.interfaces ++ (counted raw_member_bytes b.fields
    ++ (counted raw_member_bytes b.methods ++ counted raw_bytes b.attributes)))))

pub body_takes : (bytes : List ℕ) (b : RawBody) → AreBytes bytes → body_at bytes ≡ Some b → (bytes ≡ raw_body_bytes b) × RawBodyFits b
unfolding body_at
body_takes bytes b fits e =
    after_piece two_piece bytes _ b fits e λ flags a t0 flags_fit e0.
    after_piece two_piece a _ b t0.rest_fits e0 λ this_class c t1 this_class_fits e1.
    after_piece two_piece c _ b t1.rest_fits e1 λ super_class d t2 super_class_fits e2.
    after_piece indices_piece d _ b t2.rest_fits e2 λ interfaces f t3 interfaces_fit e3.
    after_piece members_piece f _ b t3.rest_fits e3 λ fields g t4 fields_fit e4.
    after_piece members_piece g _ b t4.rest_fits e4 λ methods h t5 methods_fit e5.
    after_piece raws_piece h _ b t5.rest_fits e5 λ attributes rest t6 attributes_fit e6.
    let made : RawBody = record { flags = flags; this_class = this_class; super_class = super_class; interfaces = interfaces; fields = fields; methods = methods; attributes = attributes } in
    let last = cond-some_then (eqb (length rest) 0) (Some made) b e6 in
    let h_is = all_of h (counted raw_bytes attributes) rest t6 (eqb-true _ _ last.0) in
    let g_is = then_all g (counted raw_member_bytes methods) h _ t5 h_is in
    let f_is = then_all f (counted raw_member_bytes fields) g _ t4 g_is in
    let d_is = then_all d (counted two interfaces) f _ t3 f_is in
    let c_is = then_all c (two super_class) d _ t2 d_is in
    let a_is = then_all a (two this_class) c _ t1 c_is in
    let all : bytes ≡ raw_body_bytes made = then_all bytes (two flags) a _ t0 a_is in
    subst (λ (y : RawBody). (bytes ≡ raw_body_bytes y) × RawBodyFits y) (some_is made b last.1)
    (all, record { flags = flags_fit; this_class = this_class_fits; super_class = super_class_fits; interfaces = interfaces_fit; fields = fields_fit; methods = methods_fit; attributes = attributes_fit })

pub body_again : (b : RawBody) → RawBodyFits b → body_at (raw_body_bytes b) ≡ Some b
unfolding body_at
body_again b fits =
    let after_methods = counted raw_bytes b.attributes in
    let after_fields = counted raw_member_bytes b.methods ++ after_methods in
    let after_interfaces = counted raw_member_bytes b.fields ++ after_fields in
    let after_super_class = counted two b.interfaces ++ after_interfaces in
    let after_this_class = two b.super_class ++ after_super_class in
    let after_flags = two b.this_class ++ after_this_class in
    let last : counted_at raw_at after_methods ≡ Some (b.attributes, []) = ap (counted_at raw_at) (sym (append-nil after_methods)) ∙ raws_piece.again b.attributes [] fits.attributes in
    rw (two_piece.again b.flags after_flags fits.flags, two_piece.again b.this_class after_this_class fits.this_class, two_piece.again b.super_class after_super_class fits.super_class, indices_piece.again b.interfaces after_interfaces fits.interfaces, members_piece.again b.fields after_fields fits.fields, members_piece.again b.methods after_methods fits.methods, last) refl
