use Rattle.std.proofs.Common.{◌∙◌, ap, arith}
use Rattle.fm_conn.proofs.TableLemmas.{class_read, return_class}
use Rattle.fm_conn.specs.inner.NodeTables.{class_at}
use Rattle.fm_conn.proofs.class_numbers.Classes.of_return.Goals as goal

pub returns : goal.returns
returns c =
    let least = c.args.self.now.least.items in
    class_read least c.returned.result c.index.result.now (omega (arith, c.args.self.now.one_each)) c.index.ensures
    ∙ ap (class_at least) c.returned.ensures ∙ return_class c.args.self.now.nodes least
