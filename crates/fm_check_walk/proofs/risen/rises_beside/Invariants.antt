use Rattle.std.proofs.Common.{[]}
use Rattle.fm_check_walk.proofs.PutLemmas.{IsInPieces}
use Rattle.fm_check_walk.specs.inner.Risen.{IsAsIn, PutsLocals}
use Rattle.fm_types.specs.Typings.{type_state}
use Rattle.fm_check_walk.proofs.risen.rises_beside.Given as goal

abbrev pub invariant-loop-piece : goal.invariant-loop-piece
invariant-loop-piece l = PutsLocals (IsInPieces l.piece l.count) (IsAsIn l.others (type_state l.state)) (type_state l.state) [] l.rises.items
