use Rattle.std.proofs.Common.{◌≡◌, sym, subst}
use Rattle.fm_frames.proofs.Acting.{read-done}
use Rattle.fm_frames.proofs.Throwing.{told-ok}
use Rattle.fm_frames.proofs.machine.Machine.read.Goals as goal
use Rattle.fm_frames.specs.Acts.{value_of}
use Rattle.fm_frames.specs.States.{State}
use Rattle.fm_frames.specs.inner.Doings.{before, IsReady}

pub give-requires : goal.give-requires
give-requires g c =
    subst (λ (y : State). IsReady y) (sym c.skip_byte.ensures) (record { next_fits = c.requires.next_fits; step_fits = c.requires.step_fits })

pub returns : goal.returns
returns g c =
    told-ok c.give.result _ _
    (λ given source told p choose.
    read-done p choose c.args.self.now c.skip_byte.new.self c.give.new.self c.args.takes source c.requires.next_fits c.skip_byte.ensures
    (given source (subst (λ (y : State). value_of (before y) source ≡ c.args.value) (sym c.skip_byte.ensures) told) p choose))
    c.give.ensures
