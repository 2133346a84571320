use Rattle.std.proofs.Common.{◌≡◌, Err, false, true, sym, subst, rules}
use Rattle.fm_frames.specs.inner.Doings.{seen}
use Rattle.fm_native.proofs.HidingTypes.{throwable-hides}
use Rattle.fm_native.proofs.Hidings.{fitting-found, fitting-refused, fitting-unfit, type-told}
use Rattle.fm_native.proofs.hidden.throwable_at.Goals as goal
use Rattle.fm_native.specs.inner.Hidden.{AsksFitting, is_throwable}
use Rattle.fm_types.specs.Fits.{fits_type}
use Rattle.fm_types.specs.Named.{throwable_type}

pub returns-in_err-held-clause-value : goal.returns-in_err-held-clause-value
returns-in_err-held-clause-value g c =
    let p = c.args.program.now in
    let x = c.args.machine.now in
    let told : c.from_residual.result ≡ Err c.in_err-held.field-0.0 = search rules in
    subst (AsksFitting (is_throwable p.outline) p.outline x.areas.store (seen p x) c.args.place) (sym told)
    (fitting-refused (is_throwable p.outline) p.outline x.areas.store (seen p x) c.args.place c.in_err-held.field-0.0 c.in_err-held.ensures.value)

pub returns-then-fits-clause-value : goal.returns-then-fits-clause-value
returns-then-fits-clause-value g c =
    let p = c.args.program.now in
    let o = p.outline in
    let x = c.args.machine.now in
    let known = c.in_ok-held.ensures.held in
    let fits =
    type-told o (λ t. fits_type o.classes t (throwable_type o)) c.type_numbered-t.result c.in_ok-held.held known.object true known.head_is c.type_numbered-t.ensures.value
    (c.if-fits.ensures c.requires.runnable) in
    fitting-found (λ t. fits_type o.classes t (throwable_type o)) o x.areas.store (seen p x) c.args.place c.in_ok-held.held known.object c.in_ok-held.ensures.value known.at fits

pub returns-then-fits-clause-hides : goal.returns-then-fits-clause-hides
returns-then-fits-clause-hides g c =
    let p = c.args.program.now in
    let o = p.outline in
    let x = c.args.machine.now in
    let known = c.in_ok-held.ensures.held in
    let fits =
    type-told o (λ t. fits_type o.classes t (throwable_type o)) c.type_numbered-t.result c.in_ok-held.held known.object true known.head_is c.type_numbered-t.ensures.value
    (c.if-fits.ensures c.requires.runnable) in
    throwable-hides p c.requires.runnable x.areas.store c.requires.hidden c.in_ok-held.held known.object known.at known.head_is fits

pub returns-clause-value : goal.returns-clause-value
returns-clause-value g c =
    let p = c.args.program.now in
    let o = p.outline in
    let x = c.args.machine.now in
    let known = c.in_ok-held.ensures.held in
    let unfit =
    type-told o (λ t. fits_type o.classes t (throwable_type o)) c.type_numbered-t.result c.in_ok-held.held known.object false known.head_is c.type_numbered-t.ensures.value
    (c.if-fits.ensures c.requires.runnable) in
    fitting-unfit (λ t. fits_type o.classes t (throwable_type o)) o x.areas.store (seen p x) c.args.place c.in_ok-held.held known.object c.in_ok-held.ensures.value known.at unfit
