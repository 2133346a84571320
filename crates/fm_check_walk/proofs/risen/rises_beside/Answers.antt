use Rattle.std.proofs.Common.{refl, ◌/◌, ◌+◌, List, [], sym, subst, arith}
use Rattle.fm_check_walk.proofs.PutLemmas.{IsInPieces, PutsLocals-every, PutsLocals-none, PutsLocals-pieces}
use Rattle.fm_check_walk.specs.declared.risen.Rise.{Rise}
use Rattle.fm_check_walk.specs.inner.Risen.{IsAsIn, PutsLocals}
use Rattle.fm_types.specs.Typings.{type_state}
use Rattle.fm_check_walk.proofs.risen.rises_beside.Goals as goal

pub loop-piece-init : goal.loop-piece-init
loop-piece-init c =
    let s = type_state c.args.state.now in
    let Puts : List Rise → Type 0 = λ xs. PutsLocals (IsInPieces 0 c.args.count) (IsAsIn c.args.others.now s) s [] xs in
    subst Puts (sym c.new-rises.ensures.items)
    (PutsLocals-none (IsInPieces 0 c.args.count) (IsAsIn c.args.others.now s) s []
    (λ k passes. let at = passes.at in absurd (omega (arith, at))))

pub push_unlike-requires : goal.push_unlike-requires
push_unlike-requires c = omega (arith, c.loop-piece-test.true, c.from.ensures, c.ranges.count)

pub loop-piece-preserved : goal.loop-piece-preserved
loop-piece-preserved c =
    let s = type_state c.args.state.now in
    PutsLocals-pieces c.loop-piece.piece c.args.count (IsAsIn c.args.others.now s) s [] c.loop-piece.rises.items c.push_unlike.new.rises.items
    c.loop-piece.invariant c.in_ok-push_unlike.ensures

pub returns : goal.returns
returns c =
    let s = type_state c.args.state.now in
    PutsLocals-every (c.args.count / 32 + 1) c.loop-piece.piece c.args.count (IsAsIn c.args.others.now s) s [] c.loop-piece.rises.items refl
    (omega (arith, c.from.ensures)) c.loop-piece.invariant
