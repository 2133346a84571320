use Rattle.std.proofs.Common.{refl}
use Rattle.fm_world.specs.BuiltIns.{built_in}
use Rattle.fm_world.proofs.built_ins.built_in_classes.Goals as goal

-- the table is the list, by computation
pub returns : goal.returns
unfolding built_in
returns c = refl
