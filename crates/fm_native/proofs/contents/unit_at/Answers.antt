use Rattle.std.proofs.Common.{arith}
use Rattle.fm_native.proofs.UnitReads.{unit-fits, unit-is}
use Rattle.fm_native.proofs.contents.unit_at.Goals as goal

pub overflow_cast-result : goal.overflow_cast-result
overflow_cast-result g c =
    omega (arith, unit-fits c.args.machine.now.areas.store c.args.text c.args.place c.element.result c.requires.text c.requires.within c.element.ensures)

pub returns : goal.returns
returns g c = unit-is c.args.machine.now.areas.store c.args.text c.args.place c.element.result c.requires.within c.element.ensures
