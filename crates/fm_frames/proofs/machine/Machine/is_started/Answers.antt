use Rattle.std.proofs.Common.{◌≡◌, false, is_none, true, ap, sym, ◌∙◌, rules, arith}
use Rattle.fm_frames.proofs.ClassStarts.{started-clear, started-past, started-set}
use Rattle.fm_frames.proofs.machine.Machine.is_started.Goals as goal
use Rattle.fm_frames.specs.States.{State}

pub returns-then-class-bits : goal.returns-then-class-bits
returns-then-class-bits g c =
    started-past c.args.program.now.outline c.self.inside.started c.args.self.now.areas.started c.args.class.0
    (ap (λ (x : State). x.areas.started) c.self.view_is) (omega (arith, c.if-class-bits.true, c.bits.ensures))

pub returns-then-get : goal.returns-then-get
returns-then-get g c =
    let set : c.get.result ≡ true = search rules in
    started-set c.args.program.now.outline c.self.inside.started c.args.self.now.areas.started c.args.class.0
    (ap (λ (x : State). x.areas.started) c.self.view_is) (omega (arith, c.if-class-bits.false, c.bits.ensures)) (sym set ∙ c.get.ensures)

pub returns : goal.returns
returns g c =
    let clear : c.get.result ≡ false = search rules in
    let none : c.is_none.result ≡ is_none c.class.result.now.file = search rules in
    none
    ∙ started-clear c.args.program.now.outline c.self.inside.started c.args.self.now.areas.started c.args.class.0 c.class.result.now c.class.ensures
    (ap (λ (x : State). x.areas.started) c.self.view_is) (omega (arith, c.if-class-bits.false, c.bits.ensures)) (sym clear ∙ c.get.ensures)
