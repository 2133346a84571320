use Rattle.std.proofs.Common.{◌≡◌, Ok, Err, sym, ◌∙◌, subst, rules}
use Rattle.std.specs.Prelude.{IfErr}
use Rattle.fm_frames.proofs.Throwing.{told-ok}
use Rattle.fm_frames.specs.Effects.{making}
use Rattle.fm_frames.specs.NativeRows.{text_made}
use Rattle.fm_frames.specs.declared.natives.Native.TheVariants.{ValueOf}
use Rattle.fm_frames.specs.inner.Doings.{seen}
use Rattle.fm_native.proofs.Rows.{carried}
use Rattle.fm_native.proofs.ShownRows.{value-is}
use Rattle.fm_native.proofs.strings.value_of.Goals as goal
use Rattle.fm_native.specs.inner.Asked.{IsAt, refused}
use Rattle.fm_native.specs.inner.Shown.{AsksUnits, operand_of}

pub returns-in-Ok : goal.returns-in-Ok
returns-in-Ok g c =
    let p = c.args.program.now in
    let o = p.outline in
    let x = c.args.machine.now in
    let shown = c.args.shown in
    let asks = subst (λ f. AsksUnits o (seen p x) shown (operand_of shown) f) c.in-Ok.is c.in_ok-found.ensures.value in
    let told : c.in-Ok.units.items ≡ c.deref.result.now = search rules in
    told-ok c.give_text.result _ _
    (λ given.
    carried p g.M.Memory.choose x c.give_text.new.self (ValueOf shown) (making c.words.result (text_made o c.deref.result.now))
    (λ byte.
    value-is o byte (seen p x) shown (operand_of shown) (Ok c.in-Ok.units) asks
    ∙ (λ i. making (sym c.words.ensures i) (text_made o (told i))))
    given)
    c.give_text.ensures

pub returns-in-Err : goal.returns-in-Err
returns-in-Err g c =
    let p = c.args.program.now in
    let o = p.outline in
    let x = c.args.machine.now in
    let shown = c.args.shown in
    let asks = subst (λ f. AsksUnits o (seen p x) shown (operand_of shown) f) c.in-Err.is c.in_ok-found.ensures.value in
    let there = subst (λ f. IfErr f (IsAt o x (operand_of shown))) c.in-Err.is c.in_ok-found.ensures.at in
    told-ok c.refuse.result _ _
    (λ ended.
    carried p g.M.Memory.choose x c.refuse.new.machine (ValueOf shown) (refused o (operand_of shown) c.in-Err.refusal)
    (λ byte. value-is o byte (seen p x) shown (operand_of shown) (Err c.in-Err.refusal) asks)
    (ended (operand_of shown) there))
    c.refuse.ensures
