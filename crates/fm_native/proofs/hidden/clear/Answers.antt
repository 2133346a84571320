use Rattle.std.proofs.Common.{[], ◌∷◌, refl, subst, arith}
use Rattle.fm_frames.proofs.TextSteps.{wide-fits}
use Rattle.fm_frames.specs.Effects.{acting, OfOperand, Plain, Put}
use Rattle.fm_frames.specs.States.{null}
use Rattle.fm_frames.specs.inner.Doings.{DoesIn}
use Rattle.fm_native.proofs.hidden.clear.Goals as goal

pub put-requires-clause-fits : goal.put-requires-clause-fits
put-requires-clause-fits g c =
    wide-fits c.args.machine.now.areas.store c.args.held.cell.0 c.text_kind-kind.result (record { 0 = 0 })
    (c.requires.hides.object, c.requires.hides.at, c.requires.hides.wide) (omega arith)

pub returns : goal.returns
returns g c =
    let p = c.args.program.now in
    let x = c.args.machine.now in
    subst (λ k. DoesIn p g.M.Memory.choose x c.put.new.self (acting 1 (Put (OfOperand 0) 0 k (Plain null) ∷ [])))
    (c.text_kind-kind.ensures c.requires.can.runnable)
    (c.put.ensures (OfOperand 0) (Plain null) c.requires.held.word refl p g.M.Memory.choose)
