use Rattle.std.proofs.Common.{true, length, refl, sym, ◌∙◌, subst, rules}
use Rattle.fm_frames.proofs.LiteralSteps.{given-full, given-made, literal-words, ready-made}
use Rattle.fm_frames.proofs.TextSteps.{literal-pack}
use Rattle.fm_frames.proofs.Throwing.{told-ok}
use Rattle.fm_frames.proofs.machine.Machine.give_new.Goals as goal
use Rattle.fm_frames.specs.Acts.{literal_type, requested}
use Rattle.fm_frames.specs.Effects.{giving_literal, Plain}
use Rattle.fm_frames.specs.States.{ref}
use Rattle.fm_frames.specs.inner.Doings.{Makes}

pub returns-then-not-reserve : goal.returns-then-not-reserve
returns-then-not-reserve g c =
    let p = c.args.program.now in
    let x = c.args.self.now in
    c.if-not-reserve.ensures.told p g.M.Memory.choose (giving_literal c.args.takes c.args.place) refl
    (literal-words p x.areas c.args.place c.args.units.now c.requires.can.runnable (search rules) c.requires.none c.requires.units ∙ sym c.text_words.ensures)

pub returns-in_default : goal.returns-in_default
returns-in_default g c =
    let p = c.args.program.now in
    let x = c.args.self.now in
    let t = literal_type p.outline c.args.place in
    let units = c.args.units.now in
    given-full p g.M.Memory.choose x c.reserve.new.self c.make_kept.new.self c.args.takes c.args.place units (c.if-not-reserve.ensures.kept refl) c.requires.none
    c.requires.units
    (c.if-not-reserve.ensures.told p g.M.Memory.choose (giving_literal c.args.takes c.args.place) refl
    (literal-words p x.areas c.args.place units c.requires.can.runnable (search rules) c.requires.none c.requires.units ∙ sym c.text_words.ensures))
    (subst (Makes g.M.Memory.choose c.reserve.new.self c.make_kept.new.self (requested p.outline t (length units) true) units)
    c.in_default.is (c.in_ok-cell.ensures t c.requires.class (literal-pack p c.args.place c.requires.can.runnable)))

pub give-requires : goal.give-requires
give-requires g c =
    let p = c.args.program.now in
    let r = requested p.outline (literal_type p.outline c.args.place) (length c.args.units.now) true in
    ready-made g.M.Memory.choose c.args.self.now c.reserve.new.self c.make_kept.new.self c.keep_literal.new.self r c.args.units.now c.in-Some.cell c.args.place
    (c.if-not-reserve.ensures.kept refl) c.requires.can.ready
    (subst (Makes g.M.Memory.choose c.reserve.new.self c.make_kept.new.self r c.args.units.now)
    c.in-Some.is (c.in_ok-cell.ensures (literal_type p.outline c.args.place) c.requires.class (literal-pack p c.args.place c.requires.can.runnable)))
    c.keep_literal.ensures

pub returns : goal.returns
returns g c =
    let p = c.args.program.now in
    let x = c.args.self.now in
    let t = literal_type p.outline c.args.place in
    let units = c.args.units.now in
    told-ok c.give.result _ _
    (λ given.
    given-made p g.M.Memory.choose x c.reserve.new.self c.make_kept.new.self c.keep_literal.new.self c.give.new.self c.args.takes c.args.place units
    c.in-Some.cell c.requires.can.ready.next_fits (c.if-not-reserve.ensures.kept refl) c.requires.none c.requires.units c.requires.literals
    (c.if-not-reserve.ensures.told p g.M.Memory.choose (giving_literal c.args.takes c.args.place) refl
    (literal-words p x.areas c.args.place units c.requires.can.runnable (search rules) c.requires.none c.requires.units ∙ sym c.text_words.ensures))
    (subst (Makes g.M.Memory.choose c.reserve.new.self c.make_kept.new.self (requested p.outline t (length units) true) units)
    c.in-Some.is (c.in_ok-cell.ensures t c.requires.class (literal-pack p c.args.place c.requires.can.runnable)))
    c.keep_literal.ensures
    (given (Plain (ref c.in-Some.cell.0)) refl p g.M.Memory.choose))
    c.give.ensures
