use Rattle.std.proofs.Common.{◌≡◌, refl, sym, ◌∙◌, arith}
use Rattle.fm_frames.proofs.LiteralSteps.{given-there, none-there, text-is, text-literal}
use Rattle.fm_frames.proofs.Programs.{string-is}
use Rattle.fm_frames.proofs.Throwing.{told-ok}
use Rattle.fm_frames.proofs.machine.Machine.give_literal.Goals as goal
use Rattle.fm_frames.specs.Effects.{Plain}
use Rattle.fm_frames.specs.States.{ref}

pub returns-then-made-ne0 : goal.returns-then-made-ne0
returns-then-made-ne0 g c =
    told-ok c.give.result _ _
    (λ given.
    given-there c.args.program.now g.M.Memory.choose c.args.self.now c.give.new.self 0 c.args.text c.literal_at-made.result.0
    c.requires.can.ready.next_fits c.literal_at-made.ensures c.if-made-ne0.true
    (given (Plain (ref c.literal_at-made.result.0)) refl c.args.program.now g.M.Memory.choose))
    c.give.ensures

pub give_new-requires-clause-none : goal.give_new-requires-clause-none
give_new-requires-clause-none g c =
    let zero : c.literal_at-made.result.0 ≡ 0 = omega (arith, c.if-made-ne0.false) in
    none-there c.args.self.now.areas c.args.text c.literal_at-made.result.0 c.literal_at-made.ensures zero

pub give_new-requires-clause-class : goal.give_new-requires-clause-class
give_new-requires-clause-class g c =
    let p = c.args.program.now in
    let runnable = c.requires.can.runnable in
    text-literal p.outline c.args.text c.requires.text ∙ string-is p.outline runnable.given runnable.classes

pub give_new-requires-clause-units : goal.give_new-requires-clause-units
give_new-requires-clause-units g c =
    text-is c.args.program.now c.args.text c.text.result.now c.requires.text c.text.ensures ∙ sym c.as_slice-units.ensures
