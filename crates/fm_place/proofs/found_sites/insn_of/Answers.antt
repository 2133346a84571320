use Rattle.std.proofs.Common.{◌∙◌, Some, length, get_or, ap}
use Rattle.std.proofs.lemmas.Option.{slice_get_read}
use Rattle.std.specs.Option.{option_map}
use Rattle.fm_code.specs.declared.code_array.Item.{Item}
use Rattle.fm_place.proofs.found_sites.insn_of.Goals as goal

pub returns : goal.returns
returns c =
    let got_item = c.index-as_slice-item.result in
    let items = c.args.code.now.items in
    ap (option_map (λ (v : Item). v.insn))
    (slice_get_read items (length items) c.args.item got_item (λ k. length items) c.requires
    (c.index-as_slice-item.is ∙ ap (λ list. get_or list c.args.item got_item) c.as_slice.ensures))
    ∙ ap (λ (v : Item). Some v.insn) c.index-as_slice-item.is
