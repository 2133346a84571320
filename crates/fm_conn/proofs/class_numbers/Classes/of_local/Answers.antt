use Rattle.std.proofs.Common.{◌∙◌, ap, arith}
use Rattle.fm_conn.proofs.TableLemmas.{class_read, local_class}
use Rattle.fm_conn.specs.inner.NodeTables.{class_at}
use Rattle.fm_conn.proofs.class_numbers.Classes.of_local.Goals as goal

pub returns : goal.returns
returns c =
    let least = c.args.self.now.least.items in
    class_read least c.from.result c.index.result.now (omega (arith, c.args.self.now.one_each)) c.index.ensures
    ∙ ap (class_at least) c.from.ensures ∙ local_class c.args.self.now.nodes least c.args.k c.requires
