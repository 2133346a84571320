use Rattle.std.proofs.Common.{◌≤◌, List, ℕ, Bor, IfSome, Option, length, subst}
use Rattle.fm_base.specs.declared.limits.TheConstants.{MAX_COMMAND_LINE_VALUE_BYTES}
use Rattle.fmrun.proofs.RequestLimits.{made_fit}
use Rattle.fmrun.proofs.top_call.job_arguments.Goals as goal

pub returns-in-Some-clause-fit : goal.returns-in-Some-clause-fit
returns-in-Some-clause-fit c =
    let P : Option (Bor (List ℕ)) → Type 0 = λ o. IfSome o (λ t. length t.now ≤ MAX_COMMAND_LINE_VALUE_BYTES) in
    made_fit c.in-Some.text.now c.arguments_of.result (subst P c.in-Some.is c.requires) c.arguments_of.ensures.given c.arguments_of.ensures.units
