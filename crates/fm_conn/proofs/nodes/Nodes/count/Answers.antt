use Rattle.std.proofs.Common.{◌≡◌, ◌∙◌, length, ap, arith}
use Rattle.std.proofs.lemmas.List.{get_or_read}
use Rattle.fm_conn.proofs.TableLemmas.{start_is, starts_count}
use Rattle.fm_conn.specs.inner.NodeTables.{first_word, node_count, table_in}
use Rattle.fm_conn.proofs.nodes.Nodes.count.Goals as goal

pub index-requires : goal.index-requires
index-requires c =
    let t = table_in c.self.inside.locals c.self.inside.words.items in
    omega (arith, starts_count t c.self.inside.starts.items c.self.invariant)

pub returns : goal.returns
returns c =
    let t = table_in c.self.inside.locals c.self.inside.words.items in
    let starts = c.self.inside.starts.items in
    let count = starts_count t starts c.self.invariant in
    let last : c.len.result ≡ length t.words = omega (arith, c.len.ensures) in
    get_or_read starts c.len.result c.index.result.now (omega arith) c.index.ensures 0
    ∙ start_is t starts c.len.result c.self.invariant (omega arith)
    ∙ ap (first_word t) last
    ∙ ap node_count c.self.view_is
