use Rattle.std.proofs.Common.{ap, length, refl, sym, ◌∙◌}
use Rattle.std.proofs.lemmas.Result.{IfOk-weaker}
use Rattle.fm_cells.specs.Sizes.{packed_words}
use Rattle.fm_frames.proofs.OpeningSteps.{asked-over, grows-ended, grows-made, opens-asked, told-on, wide-ended, wide-made}
use Rattle.fm_frames.proofs.TextSteps.{text-pack}
use Rattle.fm_frames.proofs.machine.Machine.open_text.Goals as goal
use Rattle.fm_frames.specs.Acts.{requested}
use Rattle.fm_frames.specs.NativeRows.{text_type}

pub returns-then-not-reserve-clause-told : goal.returns-then-not-reserve-clause-told
returns-then-not-reserve-clause-told g c action after grown asks =
    let p = c.args.program.now in
    let units = c.args.units.now in
    let (some, passes, ended) = c.if-not-reserve.ensures.over refl in
    asked-over p g.M.Memory.choose c.args.self.now c.reserve.new.self action
    (requested p.outline (text_type p.outline) (length units) c.args.fixed) units after grown c.text_words.result asks
    (c.text_words.ensures ∙ ap (packed_words (length units)) (sym (text-pack p c.requires.runnable))) c.if-not-reserve.ensures.few some passes ended

pub returns-then-not-reserve-clause-grows : goal.returns-then-not-reserve-clause-grows
returns-then-not-reserve-clause-grows g c =
    let (some, passes, ended) = c.if-not-reserve.ensures.over refl in
    grows-ended c.args.self.now c.reserve.new.self _ ended

pub returns-clause-told : goal.returns-clause-told
returns-clause-told g c =
    let p = c.args.program.now in
    let units = c.args.units.now in
    IfOk-weaker c.make_units.result _ _
    (λ made makes.
    opens-asked p g.M.Memory.choose c.args.self.now c.reserve.new.self c.make_units.new.self
    (requested p.outline (text_type p.outline) (length units) c.args.fixed) units c.text_words.result
    (c.text_words.ensures ∙ ap (packed_words (length units)) (sym (text-pack p c.requires.runnable))) c.if-not-reserve.ensures.few
    (c.if-not-reserve.ensures.room refl) (c.if-not-reserve.ensures.kept refl) made makes)
    c.make_units.ensures

pub returns-clause-grows : goal.returns-clause-grows
returns-clause-grows g c =
    let p = c.args.program.now in
    let units = c.args.units.now in
    told-on c.make_units.result _ _
    (λ made makes.
    grows-made g.M.Memory.choose c.args.self.now c.reserve.new.self c.make_units.new.self
    (requested p.outline (text_type p.outline) (length units) c.args.fixed) units (c.if-not-reserve.ensures.kept refl) made makes)
    c.make_units.ensures

pub returns-then-not-reserve-clause-keeps : goal.returns-then-not-reserve-clause-keeps
returns-then-not-reserve-clause-keeps g c =
    let (some, passes, ended) = c.if-not-reserve.ensures.over refl in
    wide-ended c.args.self.now c.reserve.new.self _ ended

pub returns-clause-keeps : goal.returns-clause-keeps
returns-clause-keeps g c =
    let p = c.args.program.now in
    let units = c.args.units.now in
    told-on c.make_units.result _ _
    (λ made makes.
    wide-made g.M.Memory.choose c.args.self.now c.reserve.new.self c.make_units.new.self
    (requested p.outline (text_type p.outline) (length units) c.args.fixed) units (c.if-not-reserve.ensures.kept refl) made makes)
    c.make_units.ensures
