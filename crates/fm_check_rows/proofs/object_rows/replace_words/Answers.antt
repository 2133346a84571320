use Rattle.std.proofs.Common.{◌∙◌, ap, length, arith}
use Rattle.fm_check_rows.proofs.MarkLemmas.{length-replaced_to, replaced-all, replaced-more}
use Rattle.fm_check_rows.specs.Outcomes.{marks}
use Rattle.fm_check_rows.proofs.object_rows.replace_words.Goals as goal

pub replace_word-requires : goal.replace_word-requires
replace_word-requires c =
    let size = ap length c.loop-depth.invariant ∙ length-replaced_to (marks c.args.mark) c.args.other c.loop-depth.depth c.args.stack.now in
    omega (arith, size, c.loop-depth-test.true, c.len-depth-end.ensures)

pub loop-depth-preserved : goal.loop-depth-preserved
loop-depth-preserved c =
    replaced-more (marks c.args.mark) c.args.other c.loop-depth.depth c.args.stack.now c.loop-depth.stack c.replace_word.new.stack
    (omega (arith, c.loop-depth-test.true, c.len-depth-end.ensures)) c.loop-depth.invariant c.in_ok-replace_word.ensures

pub returns : goal.returns
returns c =
    c.loop-depth.invariant ∙ replaced-all (marks c.args.mark) c.args.other c.loop-depth.depth c.args.stack.now (omega (arith, c.len-depth-end.ensures))
