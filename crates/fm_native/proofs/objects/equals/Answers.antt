use Rattle.std.proofs.Common.{[], ◌∷◌, sym, ◌∙◌}
use Rattle.fm_frames.proofs.Throwing.{told-ok}
use Rattle.fm_frames.specs.Acts.{told_same}
use Rattle.fm_frames.specs.Effects.{SameOperands, words}
use Rattle.fm_frames.specs.declared.natives.Native.TheVariants.{ObjectEquals}
use Rattle.fm_native.proofs.Rows.{carried, equals-is}
use Rattle.fm_native.proofs.objects.equals.Goals as goal
use Rattle.fm_frames.specs.inner.Doings.{seen}

pub returns : goal.returns
returns g c =
    let p = c.args.program.now in
    let x = c.args.machine.now in
    told-ok c.give.result _ _
    (λ given.
    carried p g.M.Memory.choose x c.give.new.self ObjectEquals (words 2 (SameOperands ∷ [])) (λ byte. equals-is p.outline byte (seen p x))
    (given SameOperands (sym (c.told_same.ensures ∙ (λ i. told_same (c.word-first.ensures i) (c.word-second.ensures i)))) p g.M.Memory.choose))
    c.give.ensures
