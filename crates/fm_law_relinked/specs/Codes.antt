-- The codes of the program of classes with what is inserted into their methods.
use Rattle.std.specs.Prelude.{◌≡◌, ℕ, List, Option, Some, None}
use Rattle.std.specs.Option.{option_map}
use Rattle.fm_chain.specs.Chained.{chained_code}
use Rattle.fm_chain.specs.Chaining.{chained_classes}
use Rattle.fm_chain.specs.declared.calls.Calls.{Calls}
use Rattle.fm_code.specs.declared.class_file.ClassDef.{ClassDef}
use Rattle.fm_code.specs.declared.code_array.Code.{Code}
use Rattle.fm_place.specs.Insertions.{Insertions}
use Rattle.fm_place.specs.Rewriting.{Plans}
use Rattle.fm_world.specs.Programs.{code_at, program_of}

-- a code with what is inserted, if anything is, by these entries of FreeMe's methods
abbrev pub code_with : Calls → Option Insertions → Option Code → Option Code
code_with calls None code = code
code_with calls (Some plan) code = option_map (λ c. chained_code calls c plan) code

-- a method of the written classes has its old code, with what is inserted where it has a plan
pub record IsChainedCode (plan : Option Insertions) (old new : Option Code) : Type 0 where
  pub calls : Calls
  pub new_is : new ≡ code_with calls plan old

-- each method by its number
abbrev pub CodesAreChained : Type 0
CodesAreChained =
    (given : List ClassDef) (main : List ℕ) (plans : Plans) (method : ℕ)
    → IsChainedCode (plans method) (code_at (program_of given main) method) (code_at (program_of (chained_classes plans given) main) method)
