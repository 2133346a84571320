use Rattle.std.proofs.Common.{◌≡◌, Ok, Err, [], ◌∷◌, ◌+◌, ◌++◌, sym, ◌∙◌, subst, rules}
use Rattle.fm_frames.proofs.Throwing.{told-ok}
use Rattle.fm_frames.specs.Effects.{acting, OfOperand}
use Rattle.fm_frames.specs.NativeRows.{has_text, shown_words}
use Rattle.fm_frames.specs.declared.natives.Native.TheVariants.{Append}
use Rattle.fm_frames.specs.States.{word_at}
use Rattle.fm_frames.specs.Steps.{stack_of}
use Rattle.fm_frames.specs.declared.values.Value.TheVariants as value
use Rattle.fm_frames.specs.inner.Doings.{seen}
use Rattle.fm_native.proofs.HiddenRows.{append-is, append-refused}
use Rattle.fm_native.proofs.Rows.{carried}
use Rattle.fm_native.specs.inner.Asked.{IsAt}
use Rattle.fm_native.specs.inner.Asked.{refused}
use Rattle.fm_native.specs.inner.Hidden.{AsksBuilt, units_so_far}
use Rattle.fm_native.specs.inner.Shown.{AsksUnits, operand_of}
use Rattle.std.specs.Prelude.{IfErr}
use Rattle.fm_native.proofs.builders.append.Goals as goal

pub returns-in_ok-units-in-Ok-found : goal.returns-in_ok-units-in-Ok-found
returns-in_ok-units-in-Ok-found g c =
    let p = c.args.program.now in
    let o = p.outline in
    let x = c.args.machine.now in
    let shown = c.args.shown in
    let n = shown_words shown in
    let asks = subst (λ n. AsksBuilt o x.areas.store (seen p x) n (Ok c.in-Ok.built)) c.words.ensures c.in-Ok.ensures.value in
    let word = subst (λ n. word_at (stack_of x) n ≡ value.Ref c.in-Ok.built.held.cell) c.words.ensures c.in-Ok.ensures.known.held.word in
    let asks-units = subst (λ f. AsksUnits o (seen p x) shown (operand_of c.args.shown) f) c.in-Ok-found.is c.in_ok-found-in-Ok.ensures.value in
    let told : units_so_far x.areas.store c.in-Ok.built.text ++ c.in-Ok-found.added.items ≡ c.deref-in-Ok-found.result.now = search rules in
    told-ok c.append_text.result _ _
    (λ given.
    carried p g.M.Memory.choose x c.append_text.new.self (Append shown)
    (record (acting (c.words-in-Ok-found.result + 1) (has_text o n c.deref-in-Ok-found.result.now)) { gives = OfOperand n ∷ [] })
    (λ byte.
    append-is o x.areas.store byte (seen p x) shown c.in-Ok.built (operand_of c.args.shown) (Ok c.in-Ok-found.added) asks asks-units
    ∙ (λ i. record (acting (sym c.words-in-Ok-found.ensures i + 1) (has_text o n (told i))) { gives = OfOperand n ∷ [] }))
    (given n word))
    c.append_text.ensures

pub returns-in-Err-found : goal.returns-in-Err-found
returns-in-Err-found g c =
    let p = c.args.program.now in
    let o = p.outline in
    let x = c.args.machine.now in
    let shown = c.args.shown in
    let asks = subst (λ n. AsksBuilt o x.areas.store (seen p x) n (Ok c.in-Ok.built)) c.words.ensures c.in-Ok.ensures.value in
    let asks-units = subst (λ f. AsksUnits o (seen p x) shown (operand_of c.args.shown) f) c.in-Err-found.is c.in_ok-found-in-Ok.ensures.value in
    let there = subst (λ f. IfErr f (IsAt o x (operand_of c.args.shown))) c.in-Err-found.is c.in_ok-found-in-Ok.ensures.at in
    told-ok c.refuse.result _ _
    (λ ended.
    carried p g.M.Memory.choose x c.refuse.new.machine (Append shown) (refused o (operand_of c.args.shown) c.in-Err-found.refusal)
    (λ byte. append-is o x.areas.store byte (seen p x) shown c.in-Ok.built (operand_of c.args.shown) (Err c.in-Err-found.refusal) asks asks-units)
    (ended (operand_of c.args.shown) there))
    c.refuse.ensures

pub returns-in-Err : goal.returns-in-Err
returns-in-Err g c =
    let p = c.args.program.now in
    let o = p.outline in
    let x = c.args.machine.now in
    let shown = c.args.shown in
    let n = shown_words shown in
    let asks = subst (λ n. AsksBuilt o x.areas.store (seen p x) n (Err c.in-Err.refusal)) c.words.ensures c.in-Err.ensures.value in
    let place = subst (λ n. IsAt o x n c.in-Err.refusal) c.words.ensures c.in-Err.ensures.at in
    told-ok c.refuse-in-Err.result _ _
    (λ ended.
    carried p g.M.Memory.choose x c.refuse-in-Err.new.machine (Append shown) (refused o n c.in-Err.refusal)
    (λ byte. append-refused o x.areas.store byte (seen p x) shown c.in-Err.refusal asks)
    (ended n place))
    c.refuse-in-Err.ensures
