use Rattle.std.proofs.Common.{sym, ◌∙◌, subst}
use Rattle.fm_frames.proofs.Calling.{below-fits, left-caller, left-main, left-start, method-inside}
use Rattle.fm_frames.proofs.machine.Machine.leave.Goals as goal
use Rattle.fm_frames.specs.States.{State}
use Rattle.fm_frames.specs.inner.Doings.{CanStep}

pub returns-then-frames-eq1 : goal.returns-then-frames-eq1
returns-then-frames-eq1 g c =
    left-main c.args.program.now g.M.Memory.choose _ c.args.self.now c.args.words c.in-Some.topmost.method.0 c.in-Some.topmost.item c.self.view_is
    c.in-Some.ensures (sym c.count-frames.ensures ∙ c.if-frames-eq1.true)

pub returns-then-is_start : goal.returns-then-is_start
returns-then-is_start g c =
    left-start c.args.program.now g.M.Memory.choose _ c.args.self.now c.args.words c.in-Some.topmost.method.0 c.in-Some.topmost.item
    c.pop.new.self c.self.view_is c.in-Some.ensures (λ one. c.if-frames-eq1.false (c.count-frames.ensures ∙ one)) c.if-is_start.ensures c.pop.ensures

pub returns : goal.returns
returns g c =
    left-caller c.args.program.now g.M.Memory.choose _ c.args.self.now c.args.words c.in-Some.topmost.method.0 c.in-Some.topmost.item
    c.give_back.new.self c.self.view_is c.in-Some.ensures (λ one. c.if-frames-eq1.false (c.count-frames.ensures ∙ one)) c.if-is_start.ensures
    c.in_ok-give_back.ensures

pub is_start-requires-clause-method : goal.is_start-requires-clause-method
is_start-requires-clause-method g c =
    let can = subst (λ (x : State). CanStep c.args.program.now x) (sym c.self.view_is) c.requires.can in
    method-inside c.args.program.now _ c.in-Some.topmost.method.0 c.in-Some.topmost.item can c.in-Some.ensures

pub give_back-requires-clause-next_fits : goal.give_back-requires-clause-next_fits
give_back-requires-clause-next_fits g c =
    let can = subst (λ (x : State). CanStep c.args.program.now x) (sym c.self.view_is) c.requires.can in
    below-fits c.args.program.now _ c.in-Some.topmost.method.0 c.in-Some.topmost.item can c.in-Some.ensures
    (λ one. c.if-frames-eq1.false (c.count-frames.ensures ∙ one))
