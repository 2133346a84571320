use Rattle.std.proofs.Common.{◌≡◌, ◌++◌, length}
use Rattle.fm_audit.specs.Reading.{after_frees, frees, pairs_of}
use Rattle.fm_audit.proofs.reading.put_frees.Given as goal

abbrev pub invariant-loop-holder : goal.invariant-loop-holder
invariant-loop-holder l = record {
  rest : after_frees l.free l.first l.rest ≡ after_frees l.free l.first l.items;
  put : l.before.items ++ pairs_of l.item (frees l.free l.first l.rest) ≡ l.fn.before.items ++ pairs_of l.item (frees l.free l.first l.items);
}

abbrev pub decreases-loop-holder : goal.decreases-loop-holder
decreases-loop-holder l = length l.rest
