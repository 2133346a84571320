use Rattle.std.proofs.Common.{◌^◌, ◌<◌, sym, subst, arith}
use Rattle.fm_cells.proofs.DigitLaws.{digit-is, digit-lt}
use Rattle.fm_cells.proofs.digits.digit.Goals as goal

pub returns-clause-value : goal.returns-clause-value
returns-clause-value c = digit-is c.args.word c.args.bits c.args.place (omega arith)

pub returns-clause-fits : goal.returns-clause-fits
returns-clause-fits c = subst (λ n. n < 2 ^ c.args.bits) (sym (digit-is c.args.word c.args.bits c.args.place (omega arith))) (digit-lt c.args.word c.args.bits c.args.place)
