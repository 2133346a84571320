-- Words of the command line, compared and counted.
use Rattle.std.proofs.Common.{◌≡◌, ◌<◌, ℕ, Bool, false, sym, ◌∙◌, arith, eqb, zero, suc}
use Rattle.std.proofs.lemmas.Bool.{false≢true}

-- a length that isn't 0
pub not_empty : (n : ℕ) (empty : Bool) → empty ≡ eqb n 0 → empty ≡ false → 0 < n
not_empty zero empty tested unset = absurd (false≢true (sym unset ∙ tested))
not_empty (suc n) empty tested unset = omega arith
