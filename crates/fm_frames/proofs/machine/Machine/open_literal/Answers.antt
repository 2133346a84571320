use Rattle.std.proofs.Common.{◌≡◌, ap, length, refl, subst, sym, true, ◌∙◌, arith}
use Rattle.fm_frames.proofs.LiteralSteps.{none-there, text-is, text-literal, there-is}
use Rattle.fm_frames.proofs.OpeningSteps.{asks-literal, grows-after, grows-same, opens-there}
use Rattle.fm_frames.proofs.machine.Machine.open_literal.Goals as goal
use Rattle.fm_frames.specs.Acts.{requested}
use Rattle.fm_frames.specs.Effects.{MakeLiteral}
use Rattle.fm_frames.specs.NativeRows.{text_type}
use Rattle.fm_frames.specs.States.{State}
use Rattle.fm_frames.specs.inner.Opening.{Opens, OpensAsked}

pub returns-then-made-ne0-clause-told : goal.returns-then-made-ne0-clause-told
returns-then-made-ne0-clause-told g c =
    opens-there c.args.program.now g.M.Memory.choose c.args.self.now c.args.text
    (there-is c.args.self.now.areas c.args.text c.literal_at-made.result.0 c.literal_at-made.ensures c.if-made-ne0.true)

pub returns-then-made-ne0-clause-grows : goal.returns-then-made-ne0-clause-grows
returns-then-made-ne0-clause-grows g c = grows-same c.args.self.now c.args.self.now refl

pub returns-in_default-clause-told : goal.returns-in_default-clause-told
returns-in_default-clause-told g c =
    let p = c.args.program.now in
    let x = c.args.self.now in
    let units = c.as_slice-units.result.now in
    let zero : c.literal_at-made.result.0 ≡ 0 = omega (arith, c.if-made-ne0.false) in
    let there = none-there x.areas c.args.text c.literal_at-made.result.0 c.literal_at-made.ensures zero in
    let is = text-is p c.args.text c.text.result.now c.requires.text c.text.ensures ∙ sym c.as_slice-units.ensures in
    let of_type = text-literal p.outline c.args.text c.requires.text in
    subst (OpensAsked p g.M.Memory.choose x c.open_text.new.self (requested p.outline (text_type p.outline) (length units) true) units) c.in_default.is
    c.in_ok-cell.ensures.told (MakeLiteral c.args.text) _ _ (asks-literal p.outline x.areas c.args.text (text_type p.outline) units there of_type is)

pub returns-clause-told : goal.returns-clause-told
returns-clause-told g c =
    let p = c.args.program.now in
    let x = c.args.self.now in
    let units = c.as_slice-units.result.now in
    let zero : c.literal_at-made.result.0 ≡ 0 = omega (arith, c.if-made-ne0.false) in
    let there = none-there x.areas c.args.text c.literal_at-made.result.0 c.literal_at-made.ensures zero in
    let is = text-is p c.args.text c.text.result.now c.requires.text c.text.ensures ∙ sym c.as_slice-units.ensures in
    let of_type = text-literal p.outline c.args.text c.requires.text in
    let done = subst (OpensAsked p g.M.Memory.choose x c.open_text.new.self (requested p.outline (text_type p.outline) (length units) true) units)
    c.in-Some.is c.in_ok-cell.ensures.told (MakeLiteral c.args.text) _ _ (asks-literal p.outline x.areas c.args.text (text_type p.outline) units there of_type is) in
    subst (λ (w : State). Opens p g.M.Memory.choose x (MakeLiteral c.args.text) w (λ made. made)) (sym c.set_literal.ensures) done

pub returns-clause-grows : goal.returns-clause-grows
returns-clause-grows g c =
    grows-after c.args.self.now c.open_text.new.self c.set_literal.new.self c.in_ok-cell.ensures.grows (ap (λ (w : State). w.areas.store) c.set_literal.ensures)
