use Rattle.std.proofs.Common.{sym, subst}
use Rattle.fm_frames.proofs.Programs.{object-inside}
use Rattle.fm_frames.proofs.coded.type_numbered.Goals as goal
use Rattle.fm_world.specs.Programs.{IsTypeIn}

pub returns-else-id-types-clause-inside : goal.returns-else-id-types-clause-inside
returns-else-id-types-clause-inside c runnable =
    subst (IsTypeIn c.args.program.now.outline.classes) (sym c.type_of_class.ensures) (object-inside c.args.program.now runnable)
