use Rattle.std.proofs.Common.{[], false, length, refl, sym, ◌∙◌, subst, rules}
use Rattle.fm_frames.proofs.TextSteps.{given-text, text-words}
use Rattle.fm_frames.proofs.Throwing.{told-ok}
use Rattle.fm_frames.proofs.Underways.{made-full}
use Rattle.fm_frames.proofs.machine.Machine.give_text.Goals as goal
use Rattle.fm_frames.specs.Acts.{requested}
use Rattle.fm_frames.specs.Effects.{Plain, making}
use Rattle.fm_frames.specs.NativeRows.{text_made, text_type}
use Rattle.fm_frames.specs.States.{ref}
use Rattle.fm_frames.specs.inner.Doings.{Makes}

pub returns-then-not-reserve : goal.returns-then-not-reserve
returns-then-not-reserve g c =
    let p = c.args.program.now in
    let units = c.args.units.now in
    c.if-not-reserve.ensures.told p g.M.Memory.choose (making c.args.takes (text_made p.outline units)) refl
    (text-words p c.args.self.now.areas units c.requires.runnable (search rules) ∙ sym c.text_words.ensures)

pub returns-in_default : goal.returns-in_default
returns-in_default g c =
    let p = c.args.program.now in
    let units = c.args.units.now in
    let e = making c.args.takes (text_made p.outline units) in
    made-full p g.M.Memory.choose c.args.self.now c.reserve.new.self c.make_units.new.self e [] (text_type p.outline) (length units) units []
    (c.if-not-reserve.ensures.told p g.M.Memory.choose e refl
    (text-words p c.args.self.now.areas units c.requires.runnable (search rules) ∙ sym c.text_words.ensures))
    (subst (Makes g.M.Memory.choose c.reserve.new.self c.make_units.new.self (requested p.outline (text_type p.outline) (length units) false) units)
    c.in_default.is c.in_ok-text.ensures)

pub returns : goal.returns
returns g c =
    let p = c.args.program.now in
    let units = c.args.units.now in
    let e = making c.args.takes (text_made p.outline units) in
    told-ok c.give.result _ _
    (λ given.
    given-text p g.M.Memory.choose c.args.self.now c.reserve.new.self c.make_units.new.self c.give.new.self c.args.takes units c.in-Some.text
    c.requires.ready.next_fits
    (c.if-not-reserve.ensures.told p g.M.Memory.choose e refl
    (text-words p c.args.self.now.areas units c.requires.runnable (search rules) ∙ sym c.text_words.ensures))
    (subst (Makes g.M.Memory.choose c.reserve.new.self c.make_units.new.self (requested p.outline (text_type p.outline) (length units) false) units)
    c.in-Some.is c.in_ok-text.ensures)
    (given (Plain (ref c.in-Some.text.0)) refl p g.M.Memory.choose))
    c.give.ensures
