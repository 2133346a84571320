use Rattle.std.proofs.Common.{sym, subst}
use Rattle.fm_frames.proofs.Acting.{put-done}
use Rattle.fm_frames.proofs.machine.Machine.put.Goals as goal
use Rattle.fm_frames.specs.States.{State}
use Rattle.fm_frames.specs.inner.Doings.{IsReady}

pub take-requires : goal.take-requires
take-requires g c =
    subst (λ (y : State). IsReady y) (sym c.put_place.ensures)
    (record { next_fits = c.requires.ready.next_fits; step_fits = c.requires.ready.step_fits })

pub returns : goal.returns
returns g c object source to from p choose =
    put-done p choose c.args.self.now c.put_place.new.self c.take.new.self c.args.takes c.args.cell.0 c.args.place c.args.kind object source
    c.args.value c.requires.ready.next_fits to from c.put_place.ensures (c.take.ensures p choose)
