use Rattle.fm_check_walk.proofs.PutLemmas.{IsFrom}
use Rattle.fm_check_walk.specs.inner.Risen.{PutsLocals}
use Rattle.fm_types.specs.Typings.{type_state}
use Rattle.fm_check_walk.proofs.risen.push_piece.Given as goal

abbrev pub invariant-loop-index : goal.invariant-loop-index
invariant-loop-index l = PutsLocals (IsFrom l.first l.index l.count) (λ k. ⊥) (type_state l.state) l.initial.rises.items l.rises.items
