use Rattle.std.proofs.Common.{◌+◌, ◌++◌, sym, ◌∙◌, ap, take, option_to_list, append_assoc}
use Rattle.std.specs.List.{filter_map}
use Rattle.fm_code.specs.declared.code_array.Item.{Item}
use Rattle.fm_link_records.specs.inner.Named.{made_at}
use Rattle.fm_link_records.proofs.NamedLaws.{filter_map-more}
use Rattle.fm_link_records.proofs.named.add_made_by.Goals as goal

pub loop-item-preserved : goal.loop-item-preserved
loop-item-preserved c =
    let types = c.args.types.now in
    let file = c.args.file.now in
    let items = c.args.items.now in
    let old = c.args.made.now.items in
    let i = c.loop-item.item-index in
    let item = c.item-item.result in
    c.in_ok-push_some.ensures
    ∙ ap (λ ts. c.loop-item.made.items ++ option_to_list ts) c.made_at.ensures
    ∙ ap (λ ts. ts ++ option_to_list (made_at types file item.insn)) c.loop-item.invariant
    ∙ append_assoc old (filter_map (λ (x : Item). made_at types file x.insn) (take i items)) (option_to_list (made_at types file item.insn))
    ∙ ap (λ ts. old ++ ts) (sym (filter_map-more (λ (x : Item). made_at types file x.insn) items i item c.loop-item-test.true c.item-item.is))
