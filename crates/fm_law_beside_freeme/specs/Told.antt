-- What a refusal of rewriting names.
use Rattle.std.specs.Prelude.{◌≡◌, ℕ, ◌+◌, ◌<◌, true, List, length, Some, Contains, Err, slice_get}
use Rattle.fm_code.specs.FreeEntries.{with_free}
use Rattle.fm_code.specs.declared.class_file.ClassDef.{ClassDef}
use Rattle.fm_code.specs.declared.code_array.Code.{Code}
use Rattle.fm_code.specs.declared.code_array.Item.{Item}
use Rattle.fm_code.specs.declared.code_array.TheConstants.{MAX_CODE_BYTES}
use Rattle.fm_place.specs.Safe.{IsProgramOf}
use Rattle.fm_rewrite.specs.FreeCalls.{calls_free}
use Rattle.fm_rewrite.specs.Causes.{max_pool_indices}
use Rattle.fm_rewrite.specs.Rewritten.{ComesOfRewritingOf}
use Rattle.fm_rewrite.specs.declared.error.RewriteFail.{RewriteFail}
use Rattle.fm_rewrite.specs.declared.error.RewriteFail.TheVariants as fail
use Rattle.fm_world.specs.BuiltIns.{built_in}
use Rattle.fm_world.specs.Programs.{code_at, Program}

-- the method has code, in which an item at the offset calls a method of FreeMe
pub record CallsFreeAt (p : Program) (method offset : ℕ) : Type 0 where
  pub code : Code
  pub coded : code_at p method ≡ Some code
  pub item : Item
  pub there : Contains code.items item
  pub begins : item.offset ≡ offset
  pub calls : calls_free p method item.insn ≡ true

-- the class is that of a file, whose pool would have this many indices with the entries of
-- FreeMe.free, more than a pool may have (JVMS 4.1)
pub record IsTooFull (given : List ClassDef) (class indices : ℕ) : Type 0 where
  pub place : ℕ
  pub file : ClassDef
  pub there : slice_get given place ≡ Some file
  pub class_is : class ≡ length built_in + place
  pub indices_are : indices ≡ length (with_free file.pool.entries)
  pub too_many : max_pool_indices < indices

-- the method has code, which would have this many bytes, more than a code array may have (JVMS
-- 4.7.3)
pub record IsTooLong (p : Program) (method bytes : ℕ) : Type 0 where
  pub code : Code
  pub coded : code_at p method ≡ Some code
  pub too_many : MAX_CODE_BYTES < bytes

-- by what the refusal names; want of memory names nothing
abbrev pub NamesWhatIsThere : List ClassDef → Program → RewriteFail → Type 0
NamesWhatIsThere given p (fail.CallsFree method offset) = CallsFreeAt p method.0 offset
NamesWhatIsThere given p (fail.PoolFull class indices) = IsTooFull given class.0 indices
NamesWhatIsThere given p (fail.MethodTooLong method bytes) = IsTooLong p method.0 bytes
NamesWhatIsThere given p fail.NoMemory = Unit {0}

-- whatever the refusal of rewriting
abbrev pub RefusalsNameWhatIsThere : Type 0
RefusalsNameWhatIsThere =
    (given : List ClassDef) (main : List ℕ) (p : Program) → IsProgramOf given main p → (cause : RewriteFail) → ComesOfRewritingOf p given (Err cause)
    → NamesWhatIsThere given p cause
