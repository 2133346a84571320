use Rattle.std.proofs.Common.{rules, ◌≡◌, ◌<◌, ◌∙◌, sym, ap, subst, Bool, true, false, None, Some, length}
use Rattle.std.proofs.lemmas.Bool.{false≢true}
use Rattle.fm_chain.specs.Chaining.{calls_for, entries_for}
use Rattle.fm_chain.specs.declared.calls.Calls.{Calls}
use Rattle.fm_code.specs.Fits.{FitsTwo}
use Rattle.fm_code.specs.Spells.{HasSpelling}
use Rattle.fm_place.specs.Rewriting.{free_index}
use Rattle.fm_place_weave.specs.ClassByPlan.{first_long, IsFirstLong, IsFull}
use Rattle.fm_place_weave.specs.declared.error.WeaveFail.{WeaveFail}
use Rattle.fm_pool.specs.declared.error.AddFail.{AddFail}
use Rattle.fm_audit_classes.specs.inner.Low.{are_low}
use Rattle.fm_audit_classes.proofs.StepLemmas.{always_ok}
use Rattle.fm_audit_classes.proofs.WholeClassLemmas.{never_full, never_too_long, woven_whole}
use Rattle.fm_audit_classes.proofs.comparing.is_woven.Goals as goal

pub woven_class-requires-clause-pool : goal.woven_class-requires-clause-pool
woven_class-requires-clause-pool c =
    c.in-Ok.ensures.pool ∙ ap (λ (chains : Bool). entries_for chains c.args.class.now.pool.entries) (sym c.requires.class.plain)

pub woven_class-requires-clause-calls : goal.woven_class-requires-clause-calls
woven_class-requires-clause-calls c =
    c.in-Ok.ensures.calls ∙ ap (λ (chains : Bool). calls_for chains c.args.class.now.pool.entries) (sym c.requires.class.plain)

pub woven_class-requires-clause-may : goal.woven_class-requires-clause-may
woven_class-requires-clause-may c =
    let low : are_low c.args.planned.now c.args.class.now.methods ≡ true = search rules in
    c.requires.class.may low c.in-Ok.pool.calls (record { free = search rules; link = search rules; free_chain = search rules })

pub is_same-requires-clause-second : goal.is_same-requires-clause-second
is_same-requires-clause-second c =
    let class = c.args.class.now in
    let done = c.args.planned.now in
    let low : are_low done class.methods ≡ true = search rules in
    let made = c.in-Ok.ensures in
    let fits : FitsTwo (free_index class) = subst FitsTwo (ap (λ (calls : Calls). calls.free) made.calls) (search rules) in
    let none : first_long (calls_for false class.pool.entries) 0 done class.methods ≡ None =
    sym (ap (λ (calls : Calls). first_long calls 0 done class.methods) made.calls) ∙ c.in-Ok-woven_class.ensures.fits in
    subst HasSpelling (sym c.in-Ok-woven_class.ensures.woven) (c.requires.class.woven low c.requires.changed fits made.fits none)

-- ---- what isn't the class by what is to be done

pub returns-then-not-are_low-clause-whole : goal.returns-then-not-are_low-clause-whole
returns-then-not-are_low-clause-whole c = λ low is.
    let high : are_low c.args.planned.now c.args.class.now.methods ≡ false = search rules in
    absurd (false≢true (sym high ∙ low))

pub returns-in-Err-Full-clause-whole : goal.returns-in-Err-Full-clause-whole
returns-in-Err-Full-clause-whole c = λ low is.
    let entries = entries_for false c.args.class.now.pool.entries in
    let full : (65535 < length entries) × (c.in-Err-Full.field-0-0 ≡ length entries) =
    subst (λ (fail : AddFail). IsFull entries fail) c.in-Err-Full.field-0-is c.in-Err-Full.ensures.refused in
    absurd (never_full c.args.planned.now c.args.class.now c.args.written.now c.requires.class c.requires.written is full.0)

pub returns-in-Ok-woven_class-clause-whole : goal.returns-in-Ok-woven_class-clause-whole
returns-in-Ok-woven_class-clause-whole c =
    woven_whole c.args.planned.now c.args.class.now c.args.written.now c.in-Ok-woven_class.woven c.in-Ok-woven_class.ensures.woven c.is_same.result
    c.is_same.ensures.all

pub returns-in-Err-TooLong-clause-whole : goal.returns-in-Err-TooLong-clause-whole
returns-in-Err-TooLong-clause-whole c = λ low is.
    let long = first_long c.in-Ok.pool.calls 0 c.args.planned.now c.args.class.now.methods in
    let first : long ≡ Some (c.in-Err-TooLong.field-0-0, c.in-Err-TooLong.field-0-1) =
    subst (λ (fail : WeaveFail). IsFirstLong long fail) c.in-Err-TooLong.field-0-is c.in-Err-TooLong.ensures.refused in
    absurd (never_too_long c.args.planned.now c.args.class.now c.args.written.now c.requires.class c.requires.written is c.in-Ok.pool.calls _
    c.in-Ok.ensures.calls first)

pub returns-in-Ok-woven_class-clause-low : goal.returns-in-Ok-woven_class-clause-low
returns-in-Ok-woven_class-clause-low c =
    let low : are_low c.args.planned.now c.args.class.now.methods ≡ true = search rules in
    always_ok c.is_same.result low
