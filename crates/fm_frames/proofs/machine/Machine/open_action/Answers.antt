use Rattle.std.proofs.Common.{ap, subst, sym, true, arith}
use Rattle.std.proofs.lemmas.Result.{IfOk-weaker}
use Rattle.fm_frames.proofs.OpeningSteps.{grows-same, literal-fits, opens-literal, opens-number, opens-start}
use Rattle.fm_frames.proofs.machine.Machine.open_action.Goals as goal
use Rattle.fm_frames.specs.States.{State}
use Rattle.fm_frames.specs.declared.actions.StartAction.{StartAction}
use Rattle.fm_frames.specs.inner.Opening.{OpensOne, StartFits}
use Rattle.fm_frames.specs.inner.StartActions.{action_of}

pub returns-in-Start-clause-told : goal.returns-in-Start-clause-told
returns-in-Start-clause-told g c =
    let p = c.args.program.now in
    subst (λ (a : StartAction). OpensOne p g.M.Memory.choose c.args.self.now c.mark_started.new.self (action_of a) true) (sym c.in-Start.is)
    (opens-start p g.M.Memory.choose c.args.self.now c.mark_started.new.self c.in-Start.class.0 c.mark_started.ensures)

pub returns-in-Start-clause-grows : goal.returns-in-Start-clause-grows
returns-in-Start-clause-grows g c = grows-same c.args.self.now c.mark_started.new.self (ap (λ (y : State). y.areas.store) c.mark_started.ensures)

pub open_literal-requires-clause-text : goal.open_literal-requires-clause-text
open_literal-requires-clause-text g c =
    (subst (λ (a : StartAction). StartFits c.args.program.now.outline (action_of a)) c.in-MakeLiteral.is c.requires.fits).0

pub open_literal-requires-clause-len_fits : goal.open_literal-requires-clause-len_fits
open_literal-requires-clause-len_fits g c =
    (subst (λ (a : StartAction). StartFits c.args.program.now.outline (action_of a)) c.in-MakeLiteral.is c.requires.fits).1

pub returns-in-MakeLiteral-clause-told : goal.returns-in-MakeLiteral-clause-told
returns-in-MakeLiteral-clause-told g c =
    IfOk-weaker c.open_literal.result _ _
    (λ goes told.
    subst (λ (a : StartAction). OpensOne c.args.program.now g.M.Memory.choose c.args.self.now c.open_literal.new.self (action_of a) goes)
    (sym c.in-MakeLiteral.is) told)
    c.open_literal.ensures.told

pub set_static-requires : goal.set_static-requires
set_static-requires g c = subst (λ (a : StartAction). StartFits c.args.program.now.outline (action_of a)) c.in-SetNumber.is c.requires.fits

pub returns-in-SetNumber-clause-told : goal.returns-in-SetNumber-clause-told
returns-in-SetNumber-clause-told g c =
    let p = c.args.program.now in
    subst (λ (a : StartAction). OpensOne p g.M.Memory.choose c.args.self.now c.set_static.new.self (action_of a) true) (sym c.in-SetNumber.is)
    (opens-number p g.M.Memory.choose c.args.self.now c.set_static.new.self c.in-SetNumber.slot c.in-SetNumber.kind c.in-SetNumber.value
    c.set_static.ensures)

pub returns-in-SetNumber-clause-grows : goal.returns-in-SetNumber-clause-grows
returns-in-SetNumber-clause-grows g c = grows-same c.args.self.now c.set_static.new.self (ap (λ (y : State). y.areas.store) c.set_static.ensures)

pub set_static-requires-in-SetLiteral : goal.set_static-requires-in-SetLiteral
set_static-requires-in-SetLiteral g c =
    literal-fits c.in-SetLiteral.kind c.literal_at-literal.result.0
    (subst (λ (a : StartAction). StartFits c.args.program.now.outline (action_of a)) c.in-SetLiteral.is c.requires.fits) (omega arith)

pub returns-in-SetLiteral-clause-told : goal.returns-in-SetLiteral-clause-told
returns-in-SetLiteral-clause-told g c =
    let p = c.args.program.now in
    subst (λ (a : StartAction). OpensOne p g.M.Memory.choose c.args.self.now c.set_static-in-SetLiteral.new.self (action_of a) true) (sym c.in-SetLiteral.is)
    (opens-literal p g.M.Memory.choose c.args.self.now c.set_static-in-SetLiteral.new.self c.in-SetLiteral.slot c.in-SetLiteral.kind c.in-SetLiteral.text
    c.literal_at-literal.result.0 c.literal_at-literal.ensures c.set_static-in-SetLiteral.ensures)

pub returns-in-SetLiteral-clause-grows : goal.returns-in-SetLiteral-clause-grows
returns-in-SetLiteral-clause-grows g c =
    grows-same c.args.self.now c.set_static-in-SetLiteral.new.self (ap (λ (y : State). y.areas.store) c.set_static-in-SetLiteral.ensures)
