use Rattle.fm_exec.proofs.LiteralRow.{text-constant}
use Rattle.fm_exec.proofs.Seen.{carried}
use Rattle.fm_exec.proofs.constants.text_constant.Goals as goal
use Rattle.fm_frames.proofs.Throwing.{told-ok}
use Rattle.fm_frames.specs.Effects.{giving_literal}
use Rattle.fm_frames.specs.NumberRows.{constant_effect}
use Rattle.fm_world.specs.declared.uses.Use.TheVariants as used

pub returns : goal.returns
returns g c =
    let o = c.args.program.now.outline in
    told-ok c.give_literal.result _ _
    (λ given.
    carried c.args.program.now g.M.Memory.choose c.args.machine.now c.give_literal.new.self (constant_effect o (used.OfText c.args.text))
    (giving_literal 0 c.args.text) (text-constant o c.args.text) given)
    c.give_literal.ensures
