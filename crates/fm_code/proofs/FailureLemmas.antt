-- Failures that are handed out.
use Rattle.std.proofs.Common.{◌≡◌, Option, None, Result, Err}
use Rattle.fm_code.specs.inner.Reading.{Fails}
use Rattle.fm_code.specs.declared.error.PieceFail.{PieceFail}
use Rattle.fm_code.specs.declared.error.PieceFail.TheVariants as fail

-- a failure that `?` hands out is the one that came
pub handed_out : {T : Type 0} (r : Result T PieceFail) (y d : PieceFail) → r ≡ Err y → y ≡ d → r ≡ Err fail.Malformed → d ≡ fail.Malformed
handed_out r y d is same e = cc

-- as what a callee returned
pub returned : {X : Type 0} (d : PieceFail) → d ≡ fail.Malformed → let Same : Result X PieceFail → Result X PieceFail → Type 0 = λ r s. r ≡ s in Same (Err d) (Err fail.Malformed)
returned d e = cc

-- and the reading that failed by it has nothing
pub none_read : {Y : Type 0} (d : PieceFail) (reading : Option Y) → d ≡ fail.Malformed → Fails d reading → reading ≡ None
none_read fail.Malformed reading e none = none
none_read fail.NoMemory reading e none = absurd cc
