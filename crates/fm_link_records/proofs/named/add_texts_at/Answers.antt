use Rattle.fm_link_records.proofs.NamedLaws.{one_named}
use Rattle.fm_link_records.specs.inner.Named.{text_at}
use Rattle.fm_link_records.proofs.named.add_texts_at.Goals as goal

pub loop-index-preserved : goal.loop-index-preserved
loop-index-preserved c =
    one_named (text_at c.args.file.now) c.args.indices.now c.loop-index.index-index c.args.named.now.items c.loop-index.named.items
    c.push_number.new.named.items c.text_at.result c.loop-index-test.true c.loop-index.invariant c.text_at.ensures c.in_ok-push_number.ensures
