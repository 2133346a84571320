use Rattle.fm_link_records.proofs.NamedLaws.{one_named}
use Rattle.fm_link_records.specs.inner.Named.{type_at}
use Rattle.fm_link_records.proofs.named.add_types_at.Goals as goal

pub loop-index-preserved : goal.loop-index-preserved
loop-index-preserved c =
    one_named (type_at c.args.types.now c.args.file.now) c.args.indices.now c.loop-index.index-index c.args.named.now.items c.loop-index.named.items
    c.push_some.new.named.items c.type_at.result c.loop-index-test.true c.loop-index.invariant c.type_at.ensures c.in_ok-push_some.ensures
