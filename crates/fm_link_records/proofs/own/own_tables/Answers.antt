use Rattle.std.proofs.Common.{◌-◌, ap, length, arith, refl}
use Rattle.fm_link_records.proofs.OwnSteps.{tables_more}
use Rattle.std.proofs.lemmas.List.{length_push}
use Rattle.fm_link_records.proofs.own.own_tables.Goals as goal

pub loop-class-preserved : goal.loop-class-preserved
loop-class-preserved c =
    let old = c.loop-class.tables.items in
    let table = c.in_ok-table.table in
    let count = c.loop-class.invariant.count in
    let one = length_push old table in
    let pushed = ap length c.in_ok-push.ensures.items in
    record {
      count = omega (arith, count, one, pushed);
      own = tables_more c.args.first.now c.args.signatures.now c.args.flags.now old c.push.new.self.items table _ _ c.loop-class.class
          c.in_ok-push.ensures.items count c.in_ok-table.ensures refl refl c.loop-class.invariant.own;
    }

pub returns-clause-count : goal.returns-clause-count
returns-clause-count c =
    let count = c.loop-class.invariant.count in let h = c.loop-class-test.false in let end = c.loop-class.auto.class-end in let some =
    c.requires.some in omega (arith, count, h, end, some)
