use Rattle.std.proofs.Common.{◌≡◌, ◌+◌, Ok, Err, sym, ◌∙◌, subst, rules}
use Rattle.std.specs.Prelude.{IfErr, slice_get}
use Rattle.fm_frames.proofs.Throwing.{told-ok}
use Rattle.fm_frames.specs.Effects.{printing}
use Rattle.fm_frames.specs.inner.Doings.{seen}
use Rattle.fm_native.proofs.Prints.{fails-as, quiet-does, quiet-fails, quiet-told, steps-as}
use Rattle.fm_native.proofs.TextRows.{print-is}
use Rattle.fm_native.proofs.streams.print.Goals as goal
use Rattle.fm_native.specs.Doing.{effect_of_native}
use Rattle.fm_native.specs.inner.Asked.{IsAt, refused}
use Rattle.fm_native.specs.inner.Shown.{AsksUnits, operand_of, print_row, shown_bytes}

pub returns-in_ok-bytes-in-Ok-clause-told : goal.returns-in_ok-bytes-in-Ok-clause-told
returns-in_ok-bytes-in-Ok-clause-told g c =
    let p = c.args.program.now in
    let o = p.outline in
    let x = c.args.machine.now in
    let shown = c.args.shown in
    let asks = subst (λ f. AsksUnits o (seen p x) shown (operand_of c.args.shown) f) c.in-Ok.is c.in_ok-found.ensures.value in
    let told : shown_bytes c.in-Ok.units.items c.args.ends_line ≡ c.deref-in-Ok.result.now = search rules in
    told-ok c.print_bytes.result _ _
    (steps-as p g.M.Memory.choose x c.print_bytes.new.machine (g.S.Sink.output c.args.out.now) (g.S.Sink.output c.print_bytes.new.out)
    (effect_of_native p x (print_row shown c.args.ends_line)) (printing (c.words.result + 1) c.deref-in-Ok.result.now)
    (print-is o (slice_get x.input 0) (seen p x) shown c.args.ends_line (operand_of c.args.shown) (Ok c.in-Ok.units) asks
    ∙ (λ i. printing (sym c.words.ensures i + 1) (told i))))
    c.print_bytes.ensures.told

pub returns-in_ok-bytes-in-Ok-clause-failed : goal.returns-in_ok-bytes-in-Ok-clause-failed
returns-in_ok-bytes-in-Ok-clause-failed g c failed =
    let p = c.args.program.now in
    let o = p.outline in
    let x = c.args.machine.now in
    let shown = c.args.shown in
    let asks = subst (λ f. AsksUnits o (seen p x) shown (operand_of c.args.shown) f) c.in-Ok.is c.in_ok-found.ensures.value in
    let told : shown_bytes c.in-Ok.units.items c.args.ends_line ≡ c.deref-in-Ok.result.now = search rules in
    fails-as p g.M.Memory.choose x (g.S.Sink.output c.args.out.now) (g.S.Sink.output c.print_bytes.new.out)
    (effect_of_native p x (print_row shown c.args.ends_line)) (printing (c.words.result + 1) c.deref-in-Ok.result.now)
    (print-is o (slice_get x.input 0) (seen p x) shown c.args.ends_line (operand_of c.args.shown) (Ok c.in-Ok.units) asks
    ∙ (λ i. printing (sym c.words.ensures i + 1) (told i)))
    (c.print_bytes.ensures.failed failed)

pub returns-in-Err-clause-told : goal.returns-in-Err-clause-told
returns-in-Err-clause-told g c =
    let p = c.args.program.now in
    let o = p.outline in
    let x = c.args.machine.now in
    let shown = c.args.shown in
    let asks = subst (λ f. AsksUnits o (seen p x) shown (operand_of c.args.shown) f) c.in-Err.is c.in_ok-found.ensures.value in
    let there = subst (λ f. IfErr f (IsAt o x (operand_of c.args.shown))) c.in-Err.is c.in_ok-found.ensures.at in
    let out = g.S.Sink.output c.args.out.now in
    quiet-told _ _ c.refuse.result c.quiet.result c.quiet.ensures
    (λ ended.
    steps-as p g.M.Memory.choose x c.refuse.new.machine out out (effect_of_native p x (print_row shown c.args.ends_line))
    (refused o (operand_of c.args.shown) c.in-Err.refusal)
    (print-is o (slice_get x.input 0) (seen p x) shown c.args.ends_line (operand_of c.args.shown) (Err c.in-Err.refusal) asks)
    (quiet-does p g.M.Memory.choose x c.refuse.new.machine out (refused o (operand_of c.args.shown) c.in-Err.refusal) (ended (operand_of c.args.shown) there)))
    c.refuse.ensures

pub returns-in-Err-clause-failed : goal.returns-in-Err-clause-failed
returns-in-Err-clause-failed g c failed = absurd (quiet-fails c.refuse.result c.quiet.result c.quiet.ensures failed)
