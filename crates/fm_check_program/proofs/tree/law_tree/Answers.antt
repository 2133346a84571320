use Rattle.fm_check_program.proofs.Trees.{no_built_in_refused, no_parent_refused, tree_of}
use Rattle.fm_check_program.proofs.tree.law_tree.Goals as goal

pub returns : goal.returns
returns c given main spelled none = tree_of given spelled (no_built_in_refused given main none) (no_parent_refused given main none)
