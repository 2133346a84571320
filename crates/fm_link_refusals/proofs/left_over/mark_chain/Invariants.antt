use Rattle.std.proofs.Common.{◌≡◌, drop}
use Rattle.fm_link_refusals.specs.inner.LeftOver.{marked_up}
use Rattle.fm_link_refusals.proofs.left_over.mark_chain.Given as goal

abbrev pub invariant-loop-class : goal.invariant-loop-class
invariant-loop-class l = marked_up l.marks.items (drop l.class-index l.chain) ≡ marked_up l.initial.marks.items l.chain
