use Rattle.std.proofs.Common.{◌≡◌, ◌<◌, ◌^◌, length, refl, sym, ◌∙◌, subst, ap, arith, rules}
use Rattle.std.specs.List.{All}
use Rattle.fm_frames.proofs.LiteralSteps.{class-literal, class-text, given-there, name-is, none-there}
use Rattle.fm_frames.proofs.Programs.{class_literal-is}
use Rattle.fm_frames.proofs.Throwing.{told-ok}
use Rattle.fm_frames.proofs.machine.Machine.give_class.Goals as goal
use Rattle.fm_frames.specs.Acts.{literal_text, literal_type}
use Rattle.fm_frames.specs.Effects.{giving_literal, Plain}
use Rattle.fm_frames.specs.States.{ref}
use Rattle.fm_frames.specs.inner.Doings.{DoesIn}

pub returns-then-made-ne0 : goal.returns-then-made-ne0
returns-then-made-ne0 g c =
    let p = c.args.program.now in
    let x = c.args.self.now in
    told-ok c.give.result _ _
    (λ given.
    subst (λ place. DoesIn p g.M.Memory.choose x c.give.new.self (giving_literal c.args.takes place)) c.class_place-place.ensures
    (given-there p g.M.Memory.choose x c.give.new.self c.args.takes c.class_place-place.result c.literal_in-made.result.0
    c.requires.can.ready.next_fits c.literal_in-made.ensures c.if-made-ne0.true
    (given (Plain (ref c.literal_in-made.result.0)) refl p g.M.Memory.choose)))
    c.give.ensures

pub type_units-requires-clause-inside : goal.type_units-requires-clause-inside
type_units-requires-clause-inside g c = c.requires.can.runnable.types c.args.t.0 c.type_of.result c.type_of.ensures

pub type_units-requires-clause-fits : goal.type_units-requires-clause-fits
type_units-requires-clause-fits g c =
    subst (All (λ unit. unit < 2 ^ 16)) (name-is c.args.program.now.outline c.args.t.0 c.type_of.result c.type_of.ensures) c.requires.name

pub give_new-requires-clause-none : goal.give_new-requires-clause-none
give_new-requires-clause-none g c =
    let zero : c.literal_in-made.result.0 ≡ 0 = omega (arith, c.if-made-ne0.false) in
    none-there c.args.self.now.areas c.class_place-place.result c.literal_in-made.result.0 c.literal_in-made.ensures zero

pub give_new-requires-clause-literals : goal.give_new-requires-clause-literals
give_new-requires-clause-literals g c =
    subst (λ place. place < length c.args.self.now.areas.literals) (sym c.class_place-place.ensures) c.requires.literals

pub give_new-requires-clause-class : goal.give_new-requires-clause-class
give_new-requires-clause-class g c =
    let o = c.args.program.now.outline in
    let runnable = c.requires.can.runnable in
    ap (literal_type o) c.class_place-place.ensures ∙ class-literal o c.args.t.0 ∙ class_literal-is o runnable.given runnable.classes

pub give_new-requires-clause-units : goal.give_new-requires-clause-units
give_new-requires-clause-units g c =
    let o = c.args.program.now.outline in
    let told : c.in_ok-units.units.items ≡ c.deref.result.now = search rules in
    ap (literal_text o) c.class_place-place.ensures ∙ class-text o c.args.t.0 ∙ name-is o c.args.t.0 c.type_of.result c.type_of.ensures
    ∙ sym c.in_ok-units.ensures ∙ told

pub returns : goal.returns
returns g c =
    let p = c.args.program.now in
    let x = c.args.self.now in
    told-ok c.give_new.result _ _
    (λ given.
    subst (λ place. DoesIn p g.M.Memory.choose x c.give_new.new.self (giving_literal c.args.takes place)) c.class_place-place.ensures given)
    c.give_new.ensures
