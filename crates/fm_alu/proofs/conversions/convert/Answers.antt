use Rattle.std.proofs.Common.{rules, arith}
use Rattle.fm_alu.proofs.TwosComplementLemmas.{signed-fits}
use Rattle.fm_alu.proofs.ConversionsLemmas.{low_char}
use Rattle.fm_alu.proofs.conversions.convert.Goals as goal

pub returns-in-LongToInt-clause-int_range : goal.returns-in-LongToInt-clause-int_range
returns-in-LongToInt-clause-int_range c = let h = signed-fits 32 c.args.a (omega arith) (omega arith) in search (rules, h)

pub returns-in-IntToByte-clause-int_range : goal.returns-in-IntToByte-clause-int_range
returns-in-IntToByte-clause-int_range c = let h = signed-fits 8 c.args.a (omega arith) (omega arith) in search (rules, h)

pub returns-in-IntToShort-clause-int_range : goal.returns-in-IntToShort-clause-int_range
returns-in-IntToShort-clause-int_range c = let h = signed-fits 16 c.args.a (omega arith) (omega arith) in search (rules, h)

pub returns-in-IntToChar-clause-value : goal.returns-in-IntToChar-clause-value
returns-in-IntToChar-clause-value c = let e = low_char c.args.a c.ranges.a in search (rules, e)
