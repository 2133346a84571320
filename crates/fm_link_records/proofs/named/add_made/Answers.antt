use Rattle.std.proofs.Common.{◌+◌, ◌++◌, sym, ◌∙◌, ap, length, take, get_or, append_assoc, arith}
use Rattle.std.specs.List.{filter_map, flat_map}
use Rattle.fm_base.specs.declared.kinds.TypeRef.{TypeRef}
use Rattle.std.proofs.Common.{Option}
use Rattle.fm_code.specs.declared.code_array.Item.{Item}
use Rattle.fm_world.specs.Uses.{items_of}
use Rattle.fm_link_records.specs.inner.Named.{made_at}
use Rattle.fm_link_records.proofs.NamedLaws.{filter_map-items}
use Rattle.fm_link_records.proofs.named.add_made.Goals as goal

pub loop-method-preserved : goal.loop-method-preserved
loop-method-preserved c =
    let f : Item → Option TypeRef = λ item. made_at c.args.types.now c.args.file.now item.insn in
    let methods = c.args.file.now.class.now.methods in
    let i = c.loop-method.method-index in
    let method = c.method-item.result in
    let old = c.args.made.now.items in
    c.in_ok-add_made_by.ensures
    ∙ ap (λ items. c.loop-method.made.items ++ filter_map f items) c.items_of.ensures
    ∙ ap (λ ts. ts ++ filter_map f (items_of method)) c.loop-method.invariant
    ∙ append_assoc old (filter_map f (flat_map items_of (take i methods))) (filter_map f (items_of method))
    ∙ ap (λ ts. old ++ ts)
    (sym (filter_map-items f items_of methods i method (omega (arith, c.loop-method-test.true, ap length c.as_slice-method-items.ensures))
    (c.method-item.is ∙ ap (λ ms. get_or ms i method) c.as_slice-method-items.ensures)))
