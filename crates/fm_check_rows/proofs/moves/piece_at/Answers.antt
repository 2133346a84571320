use Rattle.std.proofs.Common.{◌+◌, ◌≤◌, ◌∙◌, ap, None, length, arith}
use Rattle.std.specs.List.{slice_get}
use Rattle.fm_check_rows.proofs.PieceLemmas.{piece_at, piece_at_end}
use Rattle.fm_check_rows.specs.inner.Pieces.{piece_of}
use Rattle.fm_check_rows.proofs.moves.piece_at.Goals as goal

pub returns-then-after-size : goal.returns-then-after-size
returns-then-after-size c =
    piece_at c.args.stack.now c.args.depth c.piece_of.result c.requires
    (c.piece_of.ensures ∙ ap (λ first. piece_of first c.get-then-after-size.result) c.get.ensures
    ∙ ap (piece_of (slice_get c.args.stack.now c.args.depth)) c.get-then-after-size.ensures)

pub returns-else-after-size : goal.returns-else-after-size
returns-else-after-size c =
    let end : length c.args.stack.now ≤ c.args.depth + 1 = omega (arith, c.if-after-size.false, c.len-size.ensures) in
    piece_at_end c.args.stack.now c.args.depth c.piece_of-else-after-size.result c.requires end
    (c.piece_of-else-after-size.ensures ∙ ap (λ first. piece_of first None) c.get-else-after-size.ensures)
