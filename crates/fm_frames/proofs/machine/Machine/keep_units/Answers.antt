use Rattle.std.proofs.Common.{[], ◌∷◌, false, length, refl, ap, sym, ◌∙◌, subst, rules}
use Rattle.fm_base.specs.declared.kinds.Kind.TheVariants as kind
use Rattle.fm_frames.proofs.TextSteps.{kept-ready, kept-words, text-kept, wide-after}
use Rattle.fm_frames.proofs.Underways.{made-full}
use Rattle.fm_frames.proofs.machine.Machine.keep_units.Goals as goal
use Rattle.fm_frames.specs.Acts.{put_value, requested}
use Rattle.fm_frames.specs.Effects.{OfMade, OfOperand, Put}
use Rattle.fm_frames.specs.NativeRows.{text_kind, text_type}
use Rattle.fm_frames.specs.States.{ref, State}
use Rattle.fm_frames.specs.Steps.{words_made}
use Rattle.fm_frames.specs.inner.Doings.{Makes, Underway}
use Rattle.fm_frames.specs.inner.Places.{IsWide}
use Rattle.fm_world.specs.Numbers.{type_of_class}

pub returns-in_default-clause-told : goal.returns-in_default-clause-told
returns-in_default-clause-told g c operand e at acts deep =
    let p = c.args.program.now in
    let x = c.args.self.now in
    let units = c.args.units.now in
    let so = c.if-not-reserve.ensures.told p g.M.Memory.choose e deep
    (ap (words_made p.outline x.areas) acts ∙ kept-words p x.areas operand units c.requires.can.runnable (search rules) ∙ sym c.text_words.ensures) in
    made-full p g.M.Memory.choose x c.reserve.new.self c.make_units.new.self e [] (text_type p.outline) (length units) units
    (Put (OfOperand operand) 0 (text_kind p.outline) (OfMade 0) ∷ [])
    (subst (Underway p g.M.Memory.choose x c.reserve.new.self e []) acts so)
    (subst (Makes g.M.Memory.choose c.reserve.new.self c.make_units.new.self (requested p.outline (text_type p.outline) (length units) false) units)
    c.in_default.is c.in_ok-text.ensures)

pub put_text-requires : goal.put_text-requires
put_text-requires g c =
    let p = c.args.program.now in
    let units = c.args.units.now in
    let r = requested p.outline (text_type p.outline) (length units) false in
    wide-after g.M.Memory.choose c.reserve.new.self c.make_units.new.self r units c.in-Some.text c.args.cell.0
    (subst (λ (y : State). IsWide y.areas.store c.args.cell.0) (sym (c.if-not-reserve.ensures.kept refl)) c.requires.wide)
    (subst (Makes g.M.Memory.choose c.reserve.new.self c.make_units.new.self r units) c.in-Some.is c.in_ok-text.ensures)

pub returns-clause-ready : goal.returns-clause-ready
returns-clause-ready g c going =
    let p = c.args.program.now in
    let units = c.args.units.now in
    let r = requested p.outline (text_type p.outline) (length units) false in
    kept-ready g.M.Memory.choose c.args.self.now c.reserve.new.self c.make_units.new.self c.put_text.new.self r units c.in-Some.text
    (put_value c.make_units.new.self.areas (ref c.args.cell.0) 0 (kind.Ref (type_of_class 1)) (ref c.in-Some.text.0))
    c.requires.can.ready (c.if-not-reserve.ensures.kept refl)
    (subst (Makes g.M.Memory.choose c.reserve.new.self c.make_units.new.self r units) c.in-Some.is c.in_ok-text.ensures)
    c.put_text.ensures

pub returns-clause-told : goal.returns-clause-told
returns-clause-told g c operand e at acts deep =
    let p = c.args.program.now in
    let x = c.args.self.now in
    let units = c.args.units.now in
    let r = requested p.outline (text_type p.outline) (length units) false in
    let so = c.if-not-reserve.ensures.told p g.M.Memory.choose e deep
    (ap (words_made p.outline x.areas) acts ∙ kept-words p x.areas operand units c.requires.can.runnable (search rules) ∙ sym c.text_words.ensures) in (
      c.in-Some.text.0,
      text-kept p g.M.Memory.choose x c.reserve.new.self c.make_units.new.self c.put_text.new.self e operand units c.in-Some.text c.args.cell.0
          (kind.Ref (type_of_class 1))
          (subst (Underway p g.M.Memory.choose x c.reserve.new.self e []) acts so)
          (subst (Makes g.M.Memory.choose c.reserve.new.self c.make_units.new.self r units) c.in-Some.is c.in_ok-text.ensures)
          at c.put_text.ensures,
    )
