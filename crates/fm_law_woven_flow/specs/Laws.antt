-- Code with insertions does what the old code did.
use Rattle.std.specs.Prelude.{ℕ, List}
use Rattle.fm_chain.specs.declared.calls.Calls.{Calls}
use Rattle.fm_code.specs.Edges.{MeetsCodeRules}
use Rattle.fm_code.specs.declared.code_array.Code.{Code}
use Rattle.fm_code.specs.declared.code_array.Handler.{Handler}
use Rattle.fm_place.specs.Insertions.{Insertions}
use Rattle.fm_chain.specs.Chained.{chained_code}
use Rattle.fm_law_woven_flow.specs.Roles.{CanStand, Role, StandsFor}

-- each of its items has a role in the old code
pub record HasRoles (calls : Calls) (code : Code) (plan : Insertions) : Type 0 where
  pub roles : List Role
  pub numbers : ℕ → ℕ
  pub moved : Handler → Handler
  pub stands : StandsFor calls code plan (chained_code calls code plan) roles numbers moved

-- where the old code meets the rules of its attribute, and insertions can be put into it
abbrev pub CodesStand : Type 0
CodesStand = (calls : Calls) (code : Code) (plan : Insertions) → MeetsCodeRules code → CanStand code plan → HasRoles calls code plan
