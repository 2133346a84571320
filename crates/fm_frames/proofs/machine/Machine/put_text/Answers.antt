use Rattle.std.proofs.Common.{arith}
use Rattle.fm_base.specs.declared.kinds.Kind.TheVariants as kind
use Rattle.fm_frames.proofs.TextSteps.{wide-fits}
use Rattle.fm_frames.proofs.machine.Machine.put_text.Goals as goal

pub put_place-requires : goal.put_place-requires
put_place-requires g c =
    wide-fits c.args.self.now.areas.store c.args.cell.0 (kind.Ref c.type_of_class.result) (record { 0 = c.args.text }) c.requires
    (omega (arith, c.ranges.text.fits))

pub returns : goal.returns
returns g c = c.put_place.ensures
