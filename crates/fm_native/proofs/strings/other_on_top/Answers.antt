use Rattle.std.proofs.Common.{◌≡◌, Ok, Err, Some, IfSome, false, true, sym, ◌∙◌, subst, rules}
use Rattle.fm_frames.specs.inner.Doings.{seen}
use Rattle.fm_native.proofs.Asks.{fits-told, text-known, units-told}
use Rattle.fm_native.proofs.BuiltIns.{text-is}
use Rattle.fm_native.proofs.Nulls.{other-found, other-none, other-refused, other-unfit}
use Rattle.fm_native.proofs.strings.other_on_top.Goals as goal
use Rattle.fm_native.specs.inner.Asked.{AsksHeldOrNull, AsksOther, IsHeldAt, IsTextAt}

pub returns-in_err-held-clause-value : goal.returns-in_err-held-clause-value
returns-in_err-held-clause-value g c =
    let p = c.args.program.now in
    let x = c.args.machine.now in
    let told : c.from_residual.result ≡ Err c.in_err-held.field-0.0 = search rules in
    subst (AsksOther p.outline x.areas.store (seen p x)) (sym told)
    (other-refused p.outline x.areas.store (seen p x) c.in_err-held.field-0.0 c.in_err-held.ensures.value)

pub returns-in_default-clause-value : goal.returns-in_default-clause-value
returns-in_default-clause-value g c =
    let p = c.args.program.now in
    let o = p.outline in
    let x = c.args.machine.now in
    other-none o x.areas.store (seen p x)
    (subst (λ found. AsksHeldOrNull o x.areas.store (seen p x) 0 (Ok found)) c.in_default.is c.in_ok-held.ensures.value)

pub returns-then-fits-clause-value : goal.returns-then-fits-clause-value
returns-then-fits-clause-value g c =
    let p = c.args.program.now in
    let o = p.outline in
    let x = c.args.machine.now in
    let asks = subst (λ found. AsksHeldOrNull o x.areas.store (seen p x) 0 (Ok found)) c.in-Some.is c.in_ok-held.ensures.value in
    let known = subst (λ found. IfSome found (IsHeldAt x.areas.store x 0)) c.in-Some.is c.in_ok-held.ensures.held in
    let named = sym (text-is p c.requires.runnable) in
    let fits =
    fits-told o c.type_numbered-t.result c.type_of_class.result c.in-Some.held known.object true known.head_is c.type_numbered-t.ensures.value
    (c.type_of_class.ensures ∙ named) c.if-fits.ensures in
    let text =
    units-told p c.requires.runnable c.type_numbered-t.result c.in-Some.held known.object c.shows_units.result known.head_is
    c.type_numbered-t.ensures.value c.shows_units.ensures in
    subst (λ t. AsksOther o x.areas.store (seen p x) (Ok (Some t))) (sym c.text_of.ensures)
    (other-found o x.areas.store (seen p x) c.in-Some.held known.object c.shows_units.result asks known.at known.head_is fits text)

pub returns-then-fits-clause-text : goal.returns-then-fits-clause-text
returns-then-fits-clause-text g c =
    let p = c.args.program.now in
    let o = p.outline in
    let x = c.args.machine.now in
    let known = subst (λ found. IfSome found (IsHeldAt x.areas.store x 0)) c.in-Some.is c.in_ok-held.ensures.held in
    let text =
    units-told p c.requires.runnable c.type_numbered-t.result c.in-Some.held known.object c.shows_units.result known.head_is
    c.type_numbered-t.ensures.value c.shows_units.ensures in
    subst (IsTextAt x.areas.store) (sym c.text_of.ensures)
    (text-known o x.areas.store c.in-Some.held known.object c.shows_units.result c.requires.texts known.at known.head_is text)

pub returns-clause-value : goal.returns-clause-value
returns-clause-value g c =
    let p = c.args.program.now in
    let o = p.outline in
    let x = c.args.machine.now in
    let asks = subst (λ found. AsksHeldOrNull o x.areas.store (seen p x) 0 (Ok found)) c.in-Some.is c.in_ok-held.ensures.value in
    let known = subst (λ found. IfSome found (IsHeldAt x.areas.store x 0)) c.in-Some.is c.in_ok-held.ensures.held in
    let unfit =
    fits-told o c.type_numbered-t.result c.type_of_class.result c.in-Some.held known.object false known.head_is c.type_numbered-t.ensures.value
    (c.type_of_class.ensures ∙ sym (text-is p c.requires.runnable)) c.if-fits.ensures in
    other-unfit o x.areas.store (seen p x) c.in-Some.held known.object asks known.at unfit
