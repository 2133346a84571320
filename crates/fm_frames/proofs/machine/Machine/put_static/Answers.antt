use Rattle.std.proofs.Common.{sym, subst}
use Rattle.fm_frames.proofs.Acting.{static-done}
use Rattle.fm_frames.proofs.machine.Machine.put_static.Goals as goal
use Rattle.fm_frames.specs.States.{State}
use Rattle.fm_frames.specs.inner.Doings.{IsReady}

pub take-requires : goal.take-requires
take-requires g c =
    subst (λ (y : State). IsReady y) (sym c.set_static.ensures)
    (record { next_fits = c.requires.ready.next_fits; step_fits = c.requires.ready.step_fits })

pub returns : goal.returns
returns g c source from p choose =
    static-done p choose c.args.self.now c.set_static.new.self c.take.new.self c.args.takes c.args.slot c.args.kind source c.args.value
    c.requires.ready.next_fits from c.set_static.ensures (c.take.ensures p choose)
