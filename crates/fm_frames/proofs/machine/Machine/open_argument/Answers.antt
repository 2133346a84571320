use Rattle.std.proofs.Common.{false, length, subst, sym, arith}
use Rattle.fm_base.specs.declared.kinds.Kind.TheVariants as kind
use Rattle.fm_frames.proofs.OpeningArguments.{argument-ended, argument-opened, wide-put}
use Rattle.fm_frames.proofs.OpeningSteps.{grows-after-put}
use Rattle.fm_frames.proofs.TextSteps.{wide-fits}
use Rattle.fm_frames.proofs.machine.Machine.open_argument.Goals as goal
use Rattle.fm_frames.specs.Acts.{requested}
use Rattle.fm_frames.specs.NativeRows.{text_type}
use Rattle.fm_frames.specs.States.{ref, State}
use Rattle.fm_frames.specs.declared.values.Value.TheVariants as value
use Rattle.fm_frames.specs.inner.Opening.{OpensAsked}
use Rattle.fm_frames.specs.inner.Places.{IsWide}

pub returns-in_default-clause-told : goal.returns-in_default-clause-told
returns-in_default-clause-told g c =
    let p = c.args.program.now in
    let units = c.args.units.now in
    argument-ended p g.M.Memory.choose c.args.self.now c.open_text.new.self c.args.arguments.0 c.args.place units
    (subst (OpensAsked p g.M.Memory.choose c.args.self.now c.open_text.new.self (requested p.outline (text_type p.outline) (length units) false) units)
    c.in_default.is c.in_ok-text.ensures.told)

pub put_place-requires : goal.put_place-requires
put_place-requires g c =
    wide-fits c.open_text.new.self.areas.store c.args.arguments.0 (kind.Ref c.type_of_class.result) c.in-Some.text
    (c.in_ok-text.ensures.keeps c.args.arguments.0 c.requires.wide) (omega arith)

pub returns-clause-told : goal.returns-clause-told
returns-clause-told g c =
    let p = c.args.program.now in
    let units = c.args.units.now in
    argument-opened p g.M.Memory.choose c.args.self.now c.open_text.new.self c.put_place.new.self c.args.arguments.0 c.args.place (kind.Ref c.type_of_class.result) units c.in-Some.text
    (subst (OpensAsked p g.M.Memory.choose c.args.self.now c.open_text.new.self (requested p.outline (text_type p.outline) (length units) false) units)
    c.in-Some.is c.in_ok-text.ensures.told)
    c.put_place.ensures

pub returns-clause-grows : goal.returns-clause-grows
returns-clause-grows g c =
    grows-after-put c.args.self.now c.open_text.new.self c.put_place.new.self (ref c.args.arguments.0) c.args.place (kind.Ref c.type_of_class.result)
    (value.Ref c.in-Some.text) c.in_ok-text.ensures.grows c.put_place.ensures

pub returns-clause-wide : goal.returns-clause-wide
returns-clause-wide g c =
    subst (λ (z : State). IsWide z.areas.store c.args.arguments.0) (sym c.put_place.ensures)
    (wide-put c.open_text.new.self.areas.store c.args.arguments.0 c.args.place c.in-Some.text.0
    (c.in_ok-text.ensures.keeps c.args.arguments.0 c.requires.wide))
