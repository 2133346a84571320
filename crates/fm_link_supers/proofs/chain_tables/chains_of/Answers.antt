use Rattle.std.proofs.Common.{sym, ◌∙◌, ap, ◌++◌, ◌∷◌, [], map, zero-add}
use Rattle.std.proofs.lemmas.List.FromFn.{map-range_with_len_more}
use Rattle.fm_link_supers.proofs.TableSteps.{lists_push}
use Rattle.fm_link_supers.specs.inner.ParentTable.{chain_by}
use Rattle.fm_world.specs.inner.Tables.{numbers_below}
use Rattle.fm_link_supers.proofs.chain_tables.chains_of.Goals as goal

pub loop-class-preserved : goal.loop-class-preserved
loop-class-preserved c =
    let parents = c.args.parents.now in
    let class = c.loop-class.class in
    let chain = c.in_ok-chain_of.field-0 in
    lists_push c.loop-class.chains.items c.push.new.self.items chain c.in_ok-push.ensures.items
    ∙ ap (λ xs. xs ++ chain.items ∷ []) c.loop-class.invariant
    ∙ ap (λ x. map (chain_by parents) (numbers_below class) ++ x ∷ []) (c.in_ok-chain_of.ensures ∙ ap (chain_by parents) c.in_ok-number_of.ensures)
    ∙ sym (map-range_with_len_more (chain_by parents) 0 class class (zero-add class))
