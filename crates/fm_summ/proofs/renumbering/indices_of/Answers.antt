use Rattle.std.proofs.Common.{get_or}
use Rattle.std.proofs.lemmas.List.Elements.{Contains-get_or}
use Rattle.fm_summ.proofs.CodeLemmas.{indices_more}
use Rattle.fm_summ.proofs.renumbering.indices_of.Goals as goal

pub index_of-requires-clause-there : goal.index_of-requires-clause-there
index_of-requires-clause-there c =
    let pair = get_or c.args.pairs.now c.loop-pair.pair-index (0, 0) in
    (c.requires.there pair.0 pair.1 (Contains-get_or c.args.pairs.now c.loop-pair.pair-index (0, 0) c.loop-pair-test.true)).0

pub index_of-requires-in-loop-pair-clause-there : goal.index_of-requires-in-loop-pair-clause-there
index_of-requires-in-loop-pair-clause-there c =
    let pair = get_or c.args.pairs.now c.loop-pair.pair-index (0, 0) in
    (c.requires.there pair.0 pair.1 (Contains-get_or c.args.pairs.now c.loop-pair.pair-index (0, 0) c.loop-pair-test.true)).1

pub loop-pair-preserved : goal.loop-pair-preserved
loop-pair-preserved c =
    indices_more c.args.names.now c.args.pairs.now c.loop-pair.pair-index c.loop-pair.indexed.items c.push.new.self.items c.index_of.result
    c.index_of-in-loop-pair.result c.loop-pair-test.true c.loop-pair.invariant.0 c.loop-pair.invariant.1 c.index_of.ensures.inside c.index_of.ensures.is
    c.index_of-in-loop-pair.ensures.inside c.index_of-in-loop-pair.ensures.is c.in_ok-push.ensures.items
