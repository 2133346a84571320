use Rattle.std.proofs.Common.{◌≡◌, ◌+ℤ◌, FitsSigned, ap, ◌∙◌, rules}
use Rattle.std.specs.Int.{w32}
use Rattle.fm_alu.proofs.OperationsLemmas.{sum-is}
use Rattle.fm_alu.specs.TwosComplement.{signed}
use Rattle.fm_exec.proofs.locals.int_sum.Goals as goal

pub returns : goal.returns
returns c =
    let same : c.from.result ≡ c.args.by = search rules in
    let fits : FitsSigned w32 c.from.result = search rules in
    sum-is w32 c.args.n c.from.result c.ranges.n fits ∙ ap (λ b. signed 32 (c.args.n +ℤ b)) same
