use Rattle.std.proofs.Common.{Bool, subst, sym}
use Rattle.freeme.proofs.RewritingLemmas.{comes_with, comes_without}
use Rattle.freeme.specs.Rewriting.{ComesOfRewritingBy}
use Rattle.freeme.proofs.freeing.rewritten.Goals as goal

pub returns-then-chains : goal.returns-then-chains
returns-then-chains c =
    subst (λ (chains : Bool). ComesOfRewritingBy chains c.args.program.now c.args.classes.now c.rewrite_chains.result) (sym c.if-chains.true)
    (comes_with c.args.program.now c.args.classes.now c.rewrite_chains.result c.rewrite_chains.ensures)

pub returns-else-chains : goal.returns-else-chains
returns-else-chains c =
    subst (λ (chains : Bool). ComesOfRewritingBy chains c.args.program.now c.args.classes.now c.rewrite.result) (sym c.if-chains.false)
    (comes_without c.args.program.now c.args.classes.now c.rewrite.result c.rewrite.ensures)
