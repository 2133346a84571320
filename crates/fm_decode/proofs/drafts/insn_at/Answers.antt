use Rattle.std.proofs.Common.{◌≡◌, Some, arith, rules}
use Rattle.std.proofs.lemmas.Result.{err_from_is_err_and}
use Rattle.fm_decode.specs.inner.Gives.{Fails}
use Rattle.fm_decode.specs.inner.Drafts.{shape_at}
use Rattle.fm_decode.proofs.GivesLemmas.{failed_none}
use Rattle.fm_decode.proofs.DraftsLemmas.{operands_in, begins_in, begins_in_none}
use Rattle.fm_decode.proofs.drafts.insn_at.Goals as goal

pub returns-in_err-insn-clause-malformed : goal.returns-in_err-insn-clause-malformed
returns-in_err-insn-clause-malformed c = λ e.
    let p = err_from_is_err_and c.from_residual.result c.from_residual.ensures.1 in
    let failed : Fails c.in_err-insn.field-0.0 (shape_at c.shape_of.result c.args.at (operands_in c.args.bytes.now)) = search rules in
    begins_in_none c.args.at c.args.bytes.now c.shape_of.result c.requires.some c.shape_of.ensures
    (failed_none c.from_residual.result c.in_err-insn.field-0.0 p.0 (shape_at c.shape_of.result c.args.at (operands_in c.args.bytes.now)) p.1 p.2 e failed)

pub overflow_add-result : goal.overflow_add-result
overflow_add-result c =
    let found : shape_at c.shape_of.result c.args.at (operands_in c.args.bytes.now) ≡ Some (c.in_ok-insn.insn, c.in_ok-insn.count) = search rules in
    let begins = begins_in c.args.at c.args.bytes.now c.shape_of.result c.in_ok-insn.insn c.in_ok-insn.count c.requires.some c.shape_of.ensures found in
    omega (arith, begins.within, c.requires.long)

pub returns-clause-found : goal.returns-clause-found
returns-clause-found c =
    let found : shape_at c.shape_of.result c.args.at (operands_in c.args.bytes.now) ≡ Some (c.in_ok-insn.insn, c.in_ok-insn.count) = search rules in
    begins_in c.args.at c.args.bytes.now c.shape_of.result c.in_ok-insn.insn c.in_ok-insn.count c.requires.some c.shape_of.ensures found
