-- Which programs the walk is done over.
use Rattle.std.specs.Prelude.{◌≡◌, ◌<◌, ℕ, length, Some}
use Rattle.fm_code.specs.Edges.{FallsOff, HasNoLeftOut, MeetsCodeRules}
use Rattle.fm_code.specs.declared.code_array.Code.{Code}
use Rattle.fm_conn.specs.Shapes.{HasUsesIn}
use Rattle.fm_rapid.specs.Opening.{HasOpening}
use Rattle.fm_world.specs.Members.{methods_of}
use Rattle.fm_world.specs.Programs.{code_at, method_info, Program}
use Rattle.fm_world.specs.declared.records.Body.TheVariants as body

-- the method is there and has this code, which is in a class file and has no instruction that is left out; control never goes past its end
pub record HasFlow (p : Program) (method : ℕ) (code : Code) : Type 0 where
  pub inside : method < length (methods_of p.outline.classes)
  pub body_is : (method_info p method).body ≡ body.Coded code
  pub spelled : MeetsCodeRules code
  pub supported : HasNoLeftOut code
  pub stays : ¬ FallsOff code

-- what is named is there, and each code has a flow
pub record CanBeFollowed (p : Program) : Type 0 where
  pub opening : HasOpening p.outline
  pub uses : HasUsesIn p
  pub codes : (method : ℕ) (code : Code) → code_at p method ≡ Some code → HasFlow p method code
