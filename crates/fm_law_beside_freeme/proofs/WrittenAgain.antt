-- The classes written link and are typed, so that only lengths are left to refuse.
use Rattle.std.proofs.Common.{◌≡◌, ℕ, Option, Some, None, refl}
use Rattle.std.specs.Prelude.{IsSome}
use Rattle.std.proofs.lemmas.Bool.{false≢true}
use Rattle.fm_law_relinked.proofs.Links.{safe_link}
use Rattle.fm_code.specs.declared.code_array.Code.{Code}
use Rattle.fm_law_retyped.specs.Retyped.{SafeClassesAreTyped}
use Rattle.fm_types.specs.Typed.{Typed}
use Rattle.fm_check_program.specs.Untyped.{AreTyped}
use Rattle.fm_world.specs.Programs.{code_at, Program, program_of}
use Rattle.fm_law_beside_freeme.proofs.LengthsAlone.{lengths_alone}
use Rattle.fm_law_beside_freeme.specs.Written.{WrittenHaveLengthsAlone}

-- methods that have code are typed
all-typed : (p : Program) → ((method : ℕ) (code : Code) → code_at p method ≡ Some code → Typed p method) → AreTyped p
all-typed p typed method coded = by (code_at p method) refl coded where
  by : (o : Option Code) → code_at p method ≡ o → IsSome o → Typed p method
  by None there none = absurd (false≢true none)
  by (Some code) there some = typed method code there

pub written_lengths_alone : SafeClassesAreTyped → WrittenHaveLengthsAlone
written_lengths_alone retyped given main p program_is written marks spelled links safe ready held files all old known =
    let again = safe_link given main p written marks spelled links safe in
    lengths_alone held (record { files = files; made = None; main = main }) written refl all again.links
    (all-typed (program_of written main) (retyped given main p program_is written marks spelled links safe ready)) old known
