use Rattle.std.proofs.Common.{ℕ, List, subst}
use Rattle.fm_code.specs.declared.code_array.Handler.{Handler}
use Rattle.fm_flow.proofs.CodeFacts.{ranges_within}
use Rattle.fm_flow.specs.inner.Walks.{AreMarked}
use Rattle.fm_flow.proofs.edge_tables.edges_of.Goals as goal

pub range_ends-requires : goal.range_ends-requires
range_ends-requires c = record {
  few = c.item_count.ensures.few;
  within = rw (c.item_count.ensures.count, c.as_slice.ensures) (ranges_within c.args.code.now c.requires);
}

pub gathered-requires : goal.gathered-requires
gathered-requires c =
    let Marked : ℕ → List Handler → Type 0 = λ n handlers. AreMarked n handlers c.in_ok-ends.ends in
    let marked : Marked c.item_count.result c.as_slice.result.now = c.in_ok-ends.ensures in
    record {
      spelled = c.requires;
      marked = subst (λ (n : ℕ). Marked n c.args.code.now.handlers) c.item_count.ensures.count (subst (λ (hs : List Handler). Marked c.item_count.result hs) c.as_slice.ensures marked);
    }
