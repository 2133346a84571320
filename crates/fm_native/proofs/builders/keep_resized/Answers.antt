use Rattle.std.proofs.Common.{◌≡◌, ◌≤◌, length, ap, sym, ◌∙◌, refl, subst, rules}
use Rattle.fm_cells.specs.Sizes.{packed_words}
use Rattle.fm_frames.proofs.Resized.{length-resized}
use Rattle.fm_frames.proofs.TextSteps.{kept-words}
use Rattle.fm_frames.proofs.Throwing.{told-ok}
use Rattle.fm_frames.specs.Effects.{acting}
use Rattle.fm_frames.specs.NativeRows.{has_text, resized}
use Rattle.fm_frames.specs.States.{State, word_at}
use Rattle.fm_frames.specs.Steps.{most_words, stack_of}
use Rattle.fm_frames.specs.declared.values.Value.TheVariants as value
use Rattle.fm_frames.specs.inner.Doings.{CanStep, DoesIn}
use Rattle.fm_frames.specs.inner.Places.{IsWide}
use Rattle.fm_native.proofs.builders.keep_resized.Goals as goal
use Rattle.fm_native.specs.inner.Hidden.{units_so_far}

pub returns-then-not-reserve : goal.returns-then-not-reserve
returns-then-not-reserve g c =
    let p = c.args.program.now in
    let o = p.outline in
    let x = c.args.machine.now in
    let units = resized (units_so_far x.areas.store c.args.built.text) c.args.len in
    let same : packed_words (length units) 4 ≡ packed_words c.args.len 4 =
    ap (λ n. packed_words n 4) (length-resized (units_so_far x.areas.store c.args.built.text) c.args.len) in
    let few : packed_words c.args.len 4 ≤ most_words = search rules in
    c.if-not-reserve.ensures.told p g.M.Memory.choose (acting 2 (has_text o 1 units)) refl
    (kept-words p x.areas 1 units c.requires.can.runnable (subst (λ n. n ≤ most_words) (sym same) few) ∙ same ∙ sym c.text_words.ensures)

pub keep_text-requires-clause-can : goal.keep_text-requires-clause-can
keep_text-requires-clause-can g c = subst (CanStep c.args.program.now) (sym (c.if-not-reserve.ensures.kept refl)) c.requires.can

pub keep_text-requires-clause-wide : goal.keep_text-requires-clause-wide
keep_text-requires-clause-wide g c =
    let hides = c.requires.known.hides in
    subst (λ (y : State). IsWide y.areas.store c.args.built.held.cell.0) (sym (c.if-not-reserve.ensures.kept refl)) (hides.object, hides.at, hides.wide)

pub returns : goal.returns
returns g c =
    let p = c.args.program.now in
    let o = p.outline in
    let x = c.args.machine.now in
    let units = resized (units_so_far x.areas.store c.args.built.text) c.args.len in
    let told : c.deref.result.now ≡ units = search rules in
    let kept = c.if-not-reserve.ensures.kept refl in
    told-ok c.keep_text.result _ _
    (λ keeps.
    subst (λ (y : State). DoesIn p g.M.Memory.choose y c.keep_text.new.self (acting 2 (has_text o 1 units))) kept
    (subst (λ us. DoesIn p g.M.Memory.choose c.reserve.new.self c.keep_text.new.self (acting 2 (has_text o 1 us))) told
    (keeps 1 (subst (λ (y : State). word_at (stack_of y) 1 ≡ value.Ref c.args.built.held.cell) (sym kept) c.requires.known.held.word))))
    c.keep_text.ensures
