use Rattle.std.proofs.Common.{arith}
use Rattle.fm_layout.proofs.SizesLemmas.{length-store}
use Rattle.fm_place_weave.proofs.counting.null_end.Goals as goal

pub overflow_add-result-2 : goal.overflow_add-result-2
overflow_add-result-2 c = let size = length-store c.args.local in let is = c.local_size.ensures in omega (arith, size, is, c.requires)

pub returns : goal.returns
returns c = let size = length-store c.args.local in let is = c.local_size.ensures in omega (arith, size, is)
