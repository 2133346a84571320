use Rattle.fm_check_walk.proofs.PutLemmas.{PutsLocals-all, PutsLocals-none}
use Rattle.fm_check_walk.specs.inner.Risen.{IsAsIn, IsInPiece}
use Rattle.fm_types.specs.Typings.{type_state}
use Rattle.fm_check_walk.proofs.risen.push_unlike.Goals as goal

pub returns-then-has_same_piece : goal.returns-then-has_same_piece
returns-then-has_same_piece c =
    let s = type_state c.args.state.now in
    PutsLocals-none (IsInPiece c.args.piece c.args.count) (IsAsIn c.args.others.now s) s c.args.rises.now.items
    (λ k passes. c.has_same_piece.ensures c.if-has_same_piece.true k passes.at)

pub returns : goal.returns
returns c =
    let s = type_state c.args.state.now in
    PutsLocals-all (IsInPiece c.args.piece c.args.count) (IsAsIn c.args.others.now s) s c.args.rises.now.items c.push_piece.new.rises.items
    c.in_ok-push_piece.ensures
