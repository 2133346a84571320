use Rattle.std.proofs.Common.{pos, rules}
use Rattle.std.proofs.lemmas.Int.{fits_signed_from_abs}
use Rattle.std.specs.Int.{w64}
use Rattle.fm_alu.proofs.OperationsLemmas.{difference-is}
use Rattle.fm_exec.proofs.numbers.negated_long.Goals as goal

pub returns : goal.returns
returns c =
    difference-is w64 (pos 0) c.args.a (fits_signed_from_abs w64 (pos 0) (search rules)) c.ranges.a
