use Rattle.std.proofs.Common.{◌≡◌, Ok, Err, false, true, sym, subst, rules}
use Rattle.fm_native.proofs.Asks.{fits-named, text-known, units-found, units-refused, units-told, units-unfit}
use Rattle.fm_native.proofs.asked.units_held_at.Goals as goal
use Rattle.fm_frames.specs.inner.Doings.{seen}
use Rattle.fm_native.specs.inner.Asked.{AsksUnitsOf, IsTextAt}

pub returns-in_err-held-clause-value : goal.returns-in_err-held-clause-value
returns-in_err-held-clause-value g c =
    let p = c.args.program.now in
    let x = c.args.machine.now in
    let told : c.from_residual.result ≡ Err c.in_err-held.field-0.0 = search rules in
    subst (AsksUnitsOf p.outline x.areas.store c.args.named (seen p x) c.args.place) (sym told)
    (units-refused p.outline x.areas.store c.args.named (seen p x) c.args.place c.in_err-held.field-0.0 c.in_err-held.ensures.value)

pub returns-then-fits-clause-value : goal.returns-then-fits-clause-value
returns-then-fits-clause-value g c =
    let p = c.args.program.now in
    let o = p.outline in
    let x = c.args.machine.now in
    let known = c.in_ok-held.ensures.held in
    let fits =
    fits-named o c.type_numbered-t.result c.args.named c.in_ok-held.held known.object true known.head_is c.type_numbered-t.ensures.value c.if-fits.ensures in
    let text =
    units-told p c.requires.runnable c.type_numbered-t.result c.in_ok-held.held known.object c.shows_units.result known.head_is
    c.type_numbered-t.ensures.value c.shows_units.ensures in
    subst (λ t. AsksUnitsOf o x.areas.store c.args.named (seen p x) c.args.place (Ok t)) (sym c.text_of.ensures)
    (units-found o x.areas.store c.args.named (seen p x) c.args.place c.in_ok-held.held known.object c.shows_units.result c.in_ok-held.ensures.value known.at known.head_is fits
    text)

pub returns-then-fits-clause-text : goal.returns-then-fits-clause-text
returns-then-fits-clause-text g c =
    let p = c.args.program.now in
    let o = p.outline in
    let x = c.args.machine.now in
    let known = c.in_ok-held.ensures.held in
    let text =
    units-told p c.requires.runnable c.type_numbered-t.result c.in_ok-held.held known.object c.shows_units.result known.head_is
    c.type_numbered-t.ensures.value c.shows_units.ensures in
    subst (IsTextAt x.areas.store) (sym c.text_of.ensures)
    (text-known o x.areas.store c.in_ok-held.held known.object c.shows_units.result c.requires.texts known.at known.head_is text)

pub returns-clause-value : goal.returns-clause-value
returns-clause-value g c =
    let p = c.args.program.now in
    let o = p.outline in
    let x = c.args.machine.now in
    let known = c.in_ok-held.ensures.held in
    let unfit =
    fits-named o c.type_numbered-t.result c.args.named c.in_ok-held.held known.object false known.head_is c.type_numbered-t.ensures.value c.if-fits.ensures in
    units-unfit o x.areas.store c.args.named (seen p x) c.args.place c.in_ok-held.held known.object c.in_ok-held.ensures.value known.at unfit
