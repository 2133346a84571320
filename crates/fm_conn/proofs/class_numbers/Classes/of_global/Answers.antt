use Rattle.std.proofs.Common.{◌∙◌, ap, arith}
use Rattle.fm_conn.proofs.TableLemmas.{class_read, global_class}
use Rattle.fm_conn.specs.inner.NodeTables.{class_at}
use Rattle.fm_conn.proofs.class_numbers.Classes.of_global.Goals as goal

pub returns : goal.returns
returns c =
    let least = c.args.self.now.least.items in
    class_read least c.global.result c.index.result.now (omega (arith, c.args.self.now.one_each)) c.index.ensures
    ∙ ap (class_at least) c.global.ensures ∙ global_class c.args.self.now.nodes least
