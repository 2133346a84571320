-- The attributes of fields and methods: which value is read of bytes, and which attribute of a part.
use Rattle.std.proofs.Common.{◌≡◌, ℕ, Bool, true, false, List, [], ◌++◌, length, arith, Option, Some, None, sym, ap, subst, ◌∙◌}
use Rattle.std.proofs.lemmas.List.{append-nil, nil_from_length}
use Rattle.std.specs.Prelude.{◌==◌}
use Rattle.fm_base.proofs.OptionFacts.{same_value}
use Rattle.fm_code.specs.ConstantPool.{entry_at}
use Rattle.fm_code.specs.Fits.{AreBytes}
use Rattle.fm_code.specs.Members.{IsValue}
use Rattle.fm_code.specs.Numbers.{two}
use Rattle.fm_code.specs.inner.Reading.{number_at}
use Rattle.fm_code.specs.declared.constant_pool.Entry.{Entry}
use Rattle.fm_code.proofs.Pieces.{two_piece}
use Rattle.fm_read.specs.inner.MemberRules.{IsValueOf}

-- ---- a value

-- what `is_empty` returns
pub nothing_left : (rest : List ℕ) (b : Bool) → b ≡ (length rest == 0) → b ≡ true → rest ≡ []
nothing_left rest b answer none_is = let none : length rest ≡ 0 = grind arith in nil_from_length rest none

pub something_left : (rest : List ℕ) (b : Bool) → b ≡ (length rest == 0) → b ≡ false → rest ≡ [] → ⊥
something_left rest b answer some_is e = let none : (length rest == 0) ≡ true = ap (λ (r : List ℕ). length r == 0) e in cc

pub IsValueOf-from_number : (entries : List Entry) (bytes : List ℕ) (value : ℕ) (rest : List ℕ) → AreBytes bytes → number_at 2 bytes ≡ Some (value, rest) → rest ≡ [] → IsValue (entry_at entries value)
    → IsValueOf entries bytes value
IsValueOf-from_number entries bytes value rest fit e nothing valid =
    let takes = two_piece.takes bytes (value, rest) fit e in
    record {
      part = sym (takes.0.parts ∙ ap (λ (r : List ℕ). two value ++ r) nothing ∙ append-nil (two value));
      fits = takes.1;
      valid = valid;
    }

pub number_from_value : (entries : List Entry) (bytes : List ℕ) (value : ℕ) → IsValueOf entries bytes value → number_at 2 bytes ≡ Some (value, [])
number_from_value entries bytes value is = subst (λ (b : List ℕ). number_at 2 b ≡ Some (value, [])) (append-nil (two value) ∙ is.part) (two_piece.again value [] is.fits)

one_reading : (o : Option (ℕ × List ℕ)) (v w : ℕ) (r s : List ℕ) → o ≡ Some (v, r) → o ≡ Some (w, s) → (v ≡ w) × (r ≡ s)
one_reading o v w r s first second =
    let same = same_value o (v, r) (w, s) first second in (ap (λ (p : ℕ × List ℕ). p.0) same, ap (λ (p : ℕ × List ℕ). p.1) same)

-- where no number is read, there is no value
pub no_number : (entries : List Entry) (bytes : List ℕ) → number_at 2 bytes ≡ None → (value : ℕ) → IsValueOf entries bytes value → ⊥
no_number entries bytes none value is = let e = number_from_value entries bytes value is in cc

-- nor where something follows
pub not_all : (entries : List Entry) (bytes : List ℕ) (v : ℕ) (rest : List ℕ) → number_at 2 bytes ≡ Some (v, rest) → (rest ≡ [] → ⊥) → (value : ℕ) → IsValueOf entries bytes value → ⊥
not_all entries bytes v rest e more value is = more (one_reading (number_at 2 bytes) v value rest [] e (number_from_value entries bytes value is)).1

-- nor where the number is the index of no value
pub not_value : (entries : List Entry) (bytes : List ℕ) (v : ℕ) (rest : List ℕ) → number_at 2 bytes ≡ Some (v, rest) → (IsValue (entry_at entries v) → ⊥) → (value : ℕ) → IsValueOf entries bytes value → ⊥
not_value entries bytes v rest e none value is =
    let same = (one_reading (number_at 2 bytes) v value rest [] e (number_from_value entries bytes value is)).0 in
    none (subst (λ (w : ℕ). IsValue (entry_at entries w)) (sym same) is.valid)
