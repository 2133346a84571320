use Rattle.std.proofs.Common.{sym}
use Rattle.std.proofs.lemmas.Option.{get_or_from_slice_get}
use Rattle.fm_fast.proofs.arrays.type_there.Goals as goal
use Rattle.fm_world.specs.Numbers.{type_of_class}

pub returns : goal.returns
returns c = sym (get_or_from_slice_get c.args.program.now.outline.types c.args.head.class c.type_of.result (type_of_class 0) c.type_of.ensures)
