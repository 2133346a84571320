use Rattle.std.proofs.Common.{◌∙◌, ◌<◌, length, get_or, ap, sym, arith}
use Rattle.std.proofs.lemmas.Bool.{ltb-true}
use Rattle.fm_conn.proofs.TableLemmas.{words_few}
use Rattle.fm_conn.specs.inner.NodeTables.{table_in}
use Rattle.fm_conn.proofs.nodes.Nodes.depth.Goals as goal

pub overflow_cast-result : goal.overflow_cast-result
overflow_cast-result c =
    let t = table_in c.self.inside.locals c.self.inside.words.items in
    let w = c.in-Some.words.now in
    let inside : c.args.item < length c.deref.result.now = ltb-true c.args.item (length c.deref.result.now) (sym c.in-Some.ensures.lookup.0) in
    let few = words_few t c.self.inside.starts.items c.args.item w c.self.invariant (omega (arith, ap length c.deref.ensures.value))
    (c.in-Some.ensures.lookup.1 ∙ ap (λ list. get_or list c.args.item w) c.deref.ensures.value) in
    omega (arith, c.len.ensures)
