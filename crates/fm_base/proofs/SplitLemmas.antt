-- The bytes at the front of a text that go on with a unit.
use Rattle.std.proofs.Common.{suc, subst, ◌≡◌, ℕ, ◌+◌, Bool, true, false, cond, List, [], ◌∷◌, take, drop, refl, sym, ap, ◌∙◌, arith}
use Rattle.std.specs.List.{prefix_len}
use Rattle.fm_base.specs.Texts.{Parted, goes_on, parted, unit_of, units}
use Rattle.fm_base.specs.inner.Texts.{IsSplit}

-- a byte that begins a unit
pub begins_unit : (b : ℕ) (bytes : List ℕ) → goes_on b ≡ false → parted (b ∷ bytes) ≡ record { going_on = []; units = unit_of b (parted bytes).going_on ∷ units bytes }
begins_unit b bytes e = rw e refl

-- the bytes at the front that go on with a unit are those that parting puts there
split_suc : (b : ℕ) (bytes : List ℕ) (n : ℕ) → goes_on b ≡ true → IsSplit bytes (take n bytes) (drop n bytes) → IsSplit (b ∷ bytes) (take (1 + n) (b ∷ bytes)) (drop (1 + n) (b ∷ bytes))
split_suc b bytes n e rest =
    let more : suc n ≡ 1 + n = omega arith in
    subst (λ k. IsSplit (b ∷ bytes) (take k (b ∷ bytes)) (drop k (b ∷ bytes))) more (record {
      parted_is = rw (e, rest.parted_is) refl;
      begins = rest.begins;
      len = let len = rest.len in omega arith;
    })

pub split_at_count : (bytes : List ℕ) → IsSplit bytes (take (prefix_len goes_on bytes) bytes) (drop (prefix_len goes_on bytes) bytes)
split_at_count [] = record { parted_is = refl; begins = refl; len = omega arith }
split_at_count (b ∷ bytes) = by (goes_on b) refl (split_at_count bytes) where
  by : (t : Bool) → goes_on b ≡ t → IsSplit bytes (take (prefix_len goes_on bytes) bytes) (drop (prefix_len goes_on bytes) bytes) →
      IsSplit (b ∷ bytes) (take (cond t (1 + prefix_len goes_on bytes) 0) (b ∷ bytes)) (drop (cond t (1 + prefix_len goes_on bytes) 0) (b ∷ bytes))
  by true e rest = split_suc b bytes (prefix_len goes_on bytes) e rest
  by false e rest = record {
    parted_is = begins_unit b bytes e ∙ ap (λ (p : Parted). record { going_on = []; units = p.units }) (sym (begins_unit b bytes e));
    begins = ap (λ (p : Parted). p.going_on) (begins_unit b bytes e);
    len = omega arith;
  }
