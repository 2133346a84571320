use Rattle.std.proofs.Common.{codes, sym, subst}
use Rattle.fm_frames.proofs.Refusals.{null-is}
use Rattle.fm_frames.proofs.Throwing.{told-ok}
use Rattle.fm_frames.specs.inner.Doings.{DoesIn}
use Rattle.fm_native.proofs.asked.refuse.Goals as goal
use Rattle.fm_native.specs.inner.Asked.{refused, IsAt}

pub returns-in-Null : goal.returns-in-Null
returns-in-Null g c =
    let o = c.args.program.now.outline in
    told-ok c.throw_new.result _ _
    (λ thrown operand.
    subst (λ r. IsAt o c.args.machine.now operand r → DoesIn c.args.program.now g.M.Memory.choose c.args.machine.now c.throw_new.new.self (refused o operand r))
    (sym c.in-Null.is) (λ at. thrown (codes "java/lang/NullPointerException") (null-is c.args.program.now c.requires.runnable)))
    c.throw_new.ensures
