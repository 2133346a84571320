use Rattle.fm_exec.proofs.LiteralRow.{class-constant}
use Rattle.fm_exec.proofs.Seen.{carried}
use Rattle.fm_exec.proofs.constants.class_constant.Goals as goal
use Rattle.fm_frames.proofs.Throwing.{told-ok}
use Rattle.fm_frames.specs.Effects.{giving_literal}
use Rattle.fm_frames.specs.Literals.{class_literal}
use Rattle.fm_frames.specs.NumberRows.{constant_effect}
use Rattle.fm_world.specs.declared.uses.Use.TheVariants as used

pub returns : goal.returns
returns g c =
    let o = c.args.program.now.outline in
    told-ok c.give_class.result _ _
    (λ given.
    carried c.args.program.now g.M.Memory.choose c.args.machine.now c.give_class.new.self (constant_effect o (used.OfType c.args.t))
    (giving_literal 0 (class_literal o c.args.t.0)) (class-constant o c.args.t) given)
    c.give_class.ensures
