use Rattle.std.proofs.Common.{◌*◌, refl, arith}
use Rattle.fm_check_walk.proofs.PutLemmas.{IsFrom, PutsLocals-more, PutsLocals-none, PutsLocals-piece}
use Rattle.fm_types.specs.Typings.{type_state}
use Rattle.fm_check_walk.proofs.risen.push_piece.Goals as goal

pub loop-index-init : goal.loop-index-init
loop-index-init c =
    PutsLocals-none (IsFrom (c.args.piece * 32) 0 c.args.count) (λ k. ⊥) (type_state c.args.state.now) c.args.rises.now.items
    (λ k passes. let first = passes.after_first in let end = passes.before_end in omega (arith, first, end))

pub loop-index-preserved : goal.loop-index-preserved
loop-index-preserved c =
    PutsLocals-more (c.args.piece * 32) c.loop-index.index c.args.count (type_state c.args.state.now) c.args.rises.now.items c.loop-index.rises.items
    c.push_local.new.rises.items c.loop-index.invariant c.in_ok-push_local.ensures

pub returns : goal.returns
returns c =
    PutsLocals-piece c.args.piece (c.args.piece * 32) c.loop-index.index c.args.count (type_state c.args.state.now) c.args.rises.now.items
    c.loop-index.rises.items refl (omega arith) c.loop-index.invariant
