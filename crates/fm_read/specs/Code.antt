-- The code that the bytes of a Code attribute spell, those after its length (JVMS 4.7.3).
use Rattle.std.specs.Prelude.{◌≡◌, ℕ, List}
use Rattle.fm_code.specs.ClassBytes.{code_bytes}
use Rattle.fm_code.specs.CodeRules.{CodeIsValid}
use Rattle.fm_code.specs.Fits.{CodeFits}
use Rattle.fm_code.specs.declared.constant_pool.Entry.{Entry}
use Rattle.fm_code.specs.declared.code_array.Code.{Code}

-- the code has these bytes, its numbers fit, and it meets each rule
pub record IsCodeOf (entries : List Entry) (bytes : List ℕ) (code : Code) : Type 0 where
  pub bytes_are : bytes ≡ code_bytes code
  pub fits : CodeFits code
  pub valid : CodeIsValid entries code
