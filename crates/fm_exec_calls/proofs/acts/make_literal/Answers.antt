use Rattle.std.proofs.Common.{◌≡◌, true, length, None, Some, sym, ◌∙◌, subst, arith}
use Rattle.fm_exec_calls.proofs.ActSteps.{full-acts, made-acts, there-acts}
use Rattle.fm_exec_calls.proofs.acts.make_literal.Goals as goal
use Rattle.fm_frames.proofs.LiteralSteps.{none-there, text-is, text-literal, there-is}
use Rattle.fm_frames.specs.Acts.{requested}
use Rattle.fm_frames.specs.NativeRows.{text_type}
use Rattle.fm_frames.specs.inner.Doings.{Makes}

pub returns-then-made-ne0 : goal.returns-then-made-ne0
returns-then-made-ne0 g c =
    there-acts c.args.program.now g.M.Memory.choose c.args.machine.now c.args.text
    (there-is c.args.machine.now.areas c.args.text c.literal_at-made.result.0 c.literal_at-made.ensures c.if-made-ne0.true)

pub returns-in_default : goal.returns-in_default
returns-in_default g c =
    let p = c.args.program.now in
    let x = c.args.machine.now in
    let units = c.as_slice-units.result.now in
    let zero : c.literal_at-made.result.0 ≡ 0 = omega (arith, c.if-made-ne0.false) in
    full-acts p g.M.Memory.choose x c.make_units.new.self c.args.text units
    (none-there x.areas c.args.text c.literal_at-made.result.0 c.literal_at-made.ensures zero)
    (text-is p c.args.text c.text.result.now c.requires.text c.text.ensures ∙ sym c.as_slice-units.ensures)
    (subst (λ t. Makes g.M.Memory.choose x c.make_units.new.self (requested p.outline t (length units) true) units None)
    (sym (text-literal p.outline c.args.text c.requires.text))
    (subst (Makes g.M.Memory.choose x c.make_units.new.self (requested p.outline (text_type p.outline) (length units) true) units) c.in_default.is c.in_ok-cell.ensures))

pub returns : goal.returns
returns g c =
    let p = c.args.program.now in
    let x = c.args.machine.now in
    let units = c.as_slice-units.result.now in
    let zero : c.literal_at-made.result.0 ≡ 0 = omega (arith, c.if-made-ne0.false) in
    made-acts p g.M.Memory.choose x c.make_units.new.self c.set_literal.new.self c.args.text units c.in-Some.cell
    (none-there x.areas c.args.text c.literal_at-made.result.0 c.literal_at-made.ensures zero) c.requires.literal
    (text-is p c.args.text c.text.result.now c.requires.text c.text.ensures ∙ sym c.as_slice-units.ensures)
    (subst (λ t. Makes g.M.Memory.choose x c.make_units.new.self (requested p.outline t (length units) true) units (Some c.in-Some.cell))
    (sym (text-literal p.outline c.args.text c.requires.text))
    (subst (Makes g.M.Memory.choose x c.make_units.new.self (requested p.outline (text_type p.outline) (length units) true) units) c.in-Some.is c.in_ok-cell.ensures))
    c.set_literal.ensures c.births-births.ensures.sound
