use Rattle.fm_rewrite.proofs.WithoutChains.{comes_plain}
use Rattle.fm_rewrite.proofs.rewriting.rewrite.Goals as goal

pub returns : goal.returns
returns c = comes_plain c.args.program.now c.args.classes.now c.rewrite_with.result c.rewrite_with.ensures
