-- Each row by its lemma, and what the specification says of it from that.
use Rattle.std.proofs.Common.{rules, sym, w64}
use Rattle.fm_alu.proofs.OperationsLemmas.{sum-is, difference-is, product-is, division-is, remainder-is, conjunction-is, disjunction-is, exclusive-is}
use Rattle.fm_alu.proofs.LawsLemmas.{satisfied}
use Rattle.fm_alu.proofs.operations.long_op.Goals as goal

pub returns-in-Add-clause-value : goal.returns-in-Add-clause-value
returns-in-Add-clause-value c = let e = sum-is w64 c.args.a c.args.b c.ranges.a c.ranges.b in search (rules, e)

pub returns-in-Sub-clause-value : goal.returns-in-Sub-clause-value
returns-in-Sub-clause-value c = let e = difference-is w64 c.args.a c.args.b c.ranges.a c.ranges.b in search (rules, e)

pub returns-in-Mul-clause-value : goal.returns-in-Mul-clause-value
returns-in-Mul-clause-value c = let e = product-is w64 c.args.a c.args.b c.ranges.a c.ranges.b in search (rules, e)

pub returns-in-Div-2-clause-value : goal.returns-in-Div-2-clause-value
returns-in-Div-2-clause-value c = let e = division-is w64 c.args.a c.args.b c.ranges.a c.ranges.b in search (rules, e)

pub returns-in-Rem-clause-value : goal.returns-in-Rem-clause-value
returns-in-Rem-clause-value c = let e = remainder-is c.args.a c.args.b in search (rules, e)

pub returns-in-And-clause-value : goal.returns-in-And-clause-value
returns-in-And-clause-value c = let e = conjunction-is w64 c.args.a c.args.b c.ranges.a c.ranges.b in search (rules, e)

pub returns-in-Or-clause-value : goal.returns-in-Or-clause-value
returns-in-Or-clause-value c = let e = disjunction-is w64 c.args.a c.args.b c.ranges.a c.ranges.b in search (rules, e)

pub returns-in-Xor-clause-value : goal.returns-in-Xor-clause-value
returns-in-Xor-clause-value c = let e = exclusive-is w64 c.args.a c.args.b c.ranges.a c.ranges.b in search (rules, e)

pub returns-in-Add-clause-law : goal.returns-in-Add-clause-law
returns-in-Add-clause-law c = satisfied c.args.op 64 c.args.a c.args.b _ (sym (returns-in-Add-clause-value c))

pub returns-in-Sub-clause-law : goal.returns-in-Sub-clause-law
returns-in-Sub-clause-law c = satisfied c.args.op 64 c.args.a c.args.b _ (sym (returns-in-Sub-clause-value c))

pub returns-in-Mul-clause-law : goal.returns-in-Mul-clause-law
returns-in-Mul-clause-law c = satisfied c.args.op 64 c.args.a c.args.b _ (sym (returns-in-Mul-clause-value c))

pub returns-in-Div-2-clause-law : goal.returns-in-Div-2-clause-law
returns-in-Div-2-clause-law c = satisfied c.args.op 64 c.args.a c.args.b _ (sym (returns-in-Div-2-clause-value c))

pub returns-in-Rem-clause-law : goal.returns-in-Rem-clause-law
returns-in-Rem-clause-law c = satisfied c.args.op 64 c.args.a c.args.b _ (sym (returns-in-Rem-clause-value c))

pub returns-in-And-clause-law : goal.returns-in-And-clause-law
returns-in-And-clause-law c = satisfied c.args.op 64 c.args.a c.args.b _ (sym (returns-in-And-clause-value c))

pub returns-in-Or-clause-law : goal.returns-in-Or-clause-law
returns-in-Or-clause-law c = satisfied c.args.op 64 c.args.a c.args.b _ (sym (returns-in-Or-clause-value c))

pub returns-in-Xor-clause-law : goal.returns-in-Xor-clause-law
returns-in-Xor-clause-law c = satisfied c.args.op 64 c.args.a c.args.b _ (sym (returns-in-Xor-clause-value c))
