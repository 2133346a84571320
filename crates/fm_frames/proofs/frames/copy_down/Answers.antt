use Rattle.std.proofs.Common.{◌≡◌, ◌∙◌, ◌+◌, ◌-◌, ◌++◌, ap, drop, get_or, take, set, sym, subst, arith}
use Rattle.fm_frames.proofs.FrameValues.{copied-two}
use Rattle.fm_frames.proofs.frames.copy_down.Goals as goal
use Rattle.fm_frames.specs.declared.values.Value.TheVariants as value

pub returns-clause-copied : goal.returns-clause-copied
returns-clause-copied c =
    let values = c.args.values.now in
    let two : c.args.words ≡ 2 = omega arith in
    subst
    (λ n. take (c.args.place + n) c.copy-3.new.self ≡ take c.args.place values ++ drop (c.args.used - n) (take c.args.used values))
    (sym two)
    (ap (take (c.args.place + 2)) (c.copy-3.ensures ∙ ap (λ one. set one (c.args.place + 1) (get_or one (c.args.used - 1) value.Top)) c.copy-2.ensures)
    ∙ copied-two values c.args.used c.args.place (omega arith) (omega arith))
