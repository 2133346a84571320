use Rattle.std.proofs.Common.{◌∙◌, ◌++◌, arith}
use Rattle.fm_conn.proofs.StepLemmas.{moved_step}
use Rattle.fm_conn.specs.inner.PairLists.{number_pair, place_of}
use Rattle.fm_conn.proofs.item_nodes.ItemNodes.push_moved.Goals as goal

pub loop-place-preserved : goal.loop-place-preserved
loop-place-preserved c =
    let l = c.loop-place in
    let left = l.invariant.left in
    record {
      left = omega arith;
      done = moved_step c.args.self.now.nodes.now (place_of c.args.self.now) c.args.places.now l.place-index l.above l.pairs.items
          c.push_pair.new.pairs.items _ left (omega arith) l.invariant.done
          (c.in_ok-push_pair.ensures ∙ (λ k. l.pairs.items ++ number_pair (c.taken.ensures k) (c.given.ensures k)));
    }
