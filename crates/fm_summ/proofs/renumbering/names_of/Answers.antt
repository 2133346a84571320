use Rattle.std.proofs.Common.{arith}
use Rattle.fm_summ.proofs.CodeLemmas.{all_named, names_named, names_rise}
use Rattle.fm_summ.proofs.renumbering.names_of.Goals as goal

pub returns-clause-rising : goal.returns-clause-rising
returns-clause-rising c = names_rise c.sort_unstable.new.self.items c.dedup.new.self.items c.sort_unstable.ensures.sorted c.dedup.ensures.filtered

pub returns-clause-named : goal.returns-clause-named
returns-clause-named c =
    names_named c.args.pairs.now c.loop-pair.names.items c.sort_unstable.new.self.items c.dedup.new.self.items
    (all_named c.args.pairs.now c.loop-pair.pair-index c.loop-pair.names.items c.loop-pair.invariant (omega (arith, c.loop-pair-test.false))) c.sort_unstable.ensures.permutation c.dedup.ensures.filtered
