-- The method that is checked, and states within its counts.
use Rattle.std.specs.Prelude.{ℕ, ◌<◌, ◌==◌, ◌&&◌, nat_le, Bool, length}
use Rattle.fm_code.specs.Edges.{MeetsCodeRules}
use Rattle.fm_code.specs.declared.code_array.Code.{Code}
use Rattle.fm_check_walk.specs.declared.checked_method.CheckedMethod.{CheckedMethod}
use Rattle.fm_check_rows.specs.Members.{UsesNameMembers}
use Rattle.fm_types.specs.Fits.{AreTree}
use Rattle.fm_types.specs.States.{TypeState}
use Rattle.fm_world.specs.Members.{methods_of}
use Rattle.fm_world.specs.Programs.{Program}

-- a method with its code
pub record Task : Type 0 where
  pub program : Program
  pub number : ℕ
  pub code : Code

-- the method that the code walks over
abbrev pub task : CheckedMethod → Task
task m = record { program = m.program.now; number = m.number.0; code = m.code.now }

-- what linking and class files make sure of
pub record IsSound (t : Task) : Type 0 where
  pub tree : AreTree t.program.outline.classes
  pub uses : UsesNameMembers t.program
  pub member : t.number < length (methods_of t.program.outline.classes)
  pub rules : MeetsCodeRules t.code

-- as many locals as the method has, and no more words on the stack than it allows
abbrev pub is_within : Code → TypeState → Bool
is_within code s = (length s.locals == code.max_locals) && nat_le (length s.stack) code.max_stack
