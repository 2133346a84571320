use Rattle.std.proofs.Common.{arith}
use Rattle.fm_layout.proofs.InPlaceLemmas.{Widening-all, Widening-fits, Widening-next, Widening-none}
use Rattle.fm_layout.proofs.rounds.widen_each.Goals as goal

pub loop-k-init : goal.loop-k-init
loop-k-init c = Widening-none c.args.starts.now c.args.rooms.now

pub size_at-start-requires : goal.size_at-start-requires
size_at-start-requires c =
    let size = c.loop-k.invariant.size in
    let fits = Widening-fits c.args.starts.now c.args.rooms.now c.loop-k.rooms c.loop-k.k c.loop-k.start (omega arith) c.loop-k.invariant in
    omega arith

pub overflow_add-start : goal.overflow_add-start
overflow_add-start c =
    let size = c.loop-k.invariant.size in
    let fits = Widening-fits c.args.starts.now c.args.rooms.now c.loop-k.rooms c.loop-k.k c.loop-k.start (omega arith) c.loop-k.invariant in
    omega (arith, c.size_at-start.ensures)

pub loop-k-preserved : goal.loop-k-preserved
loop-k-preserved c =
    let size = c.loop-k.invariant.size in
    Widening-next c.args.starts.now c.args.rooms.now c.loop-k.rooms c.loop-k.k c.loop-k.start c.widened_at-wider.result c.size_at-start.result (omega arith)
    c.widened_at-wider.ensures c.size_at-start.ensures c.loop-k.invariant

pub returns : goal.returns
returns c =
    let size = c.loop-k.invariant.size in
    Widening-all c.args.starts.now c.args.rooms.now c.loop-k.rooms c.loop-k.k c.loop-k.start (omega arith) c.loop-k.invariant
