use Rattle.std.proofs.Common.{arith}
use Rattle.fm_base.proofs.GraphLemmas.{Joins_under, Meets_first, Meets_second, TwoRoots}
use Rattle.fm_base.proofs.graph.join.Goals as goal

pub returns-then-first-second : goal.returns-then-first-second
returns-then-first-second c =
    let one = c.root_of-first.ensures in
    let two = c.root_of-second.ensures in
    let both : TwoRoots c.args.a c.args.b c.root_of-first.result c.root_of-second.result c.args.above.now.items c.root_of-first.new.above.items c.root_of-second.new.above.items = record {
      one = one.shortens;
      leads = one.leads;
      two = two.shortens;
      leads_too = two.leads;
      inside = c.requires.first;
      inside_too = c.requires.second;
    } in
    Joins_under _ _ _ _ _ _ (Meets_first _ _ _ _ _ _ _ both (omega (arith, c.if-first-second.true)))

pub returns-else-first-second : goal.returns-else-first-second
returns-else-first-second c =
    let one = c.root_of-first.ensures in
    let two = c.root_of-second.ensures in
    let both : TwoRoots c.args.a c.args.b c.root_of-first.result c.root_of-second.result c.args.above.now.items c.root_of-first.new.above.items c.root_of-second.new.above.items = record {
      one = one.shortens;
      leads = one.leads;
      two = two.shortens;
      leads_too = two.leads;
      inside = c.requires.first;
      inside_too = c.requires.second;
    } in
    Joins_under _ _ _ _ _ _ (Meets_second _ _ _ _ _ _ _ both (omega (arith, c.if-first-second.false)))
