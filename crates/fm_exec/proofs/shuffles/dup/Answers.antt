use Rattle.std.proofs.Common.{[], ◌∷◌, sym}
use Rattle.fm_exec.proofs.shuffles.dup.Goals as goal
use Rattle.fm_frames.proofs.Throwing.{told-ok}
use Rattle.fm_frames.specs.Effects.{OfOperand}
use Rattle.fm_frames.specs.NumberRows.{move_effect}

pub returns : goal.returns
unfolding move_effect
returns g c =
    told-ok c.give_words.result _ _
    (λ given. given (OfOperand 0 ∷ OfOperand 0 ∷ []) (λ i. sym c.word-top.ensures i ∷ sym c.word-top.ensures i ∷ []) c.args.program.now g.M.Memory.choose)
    c.give_words.ensures
