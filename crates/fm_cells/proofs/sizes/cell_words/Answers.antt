use Rattle.std.proofs.Common.{arith}
use Rattle.fm_cells.proofs.SizeLaws.{size_class-lt}
use Rattle.fm_cells.proofs.sizes.cell_words.Goals as goal

pub class_words-requires : goal.class_words-requires
class_words-requires c = omega (arith, size_class-lt c.args.words)
