use Rattle.std.proofs.Common.{◌≡◌, ◌∙◌, Some, length, get_or, ap, sym}
use Rattle.std.proofs.lemmas.Option.{slice_get_read}
use Rattle.std.specs.Option.{option_map}
use Rattle.fm_code.specs.Edges.{insn_of}
use Rattle.fm_code.specs.declared.code_array.Item.{Item}
use Rattle.fm_conn.proofs.WordLemmas.{located-counted, located-none}
use Rattle.fm_conn.specs.inner.NodeTables.{words_at}
use Rattle.fm_conn.specs.inner.PairLists.{method_in}
use Rattle.fm_conn.proofs.pairs.item_at.Goals as goal

pub returns-then-not-is_reached-clause-place : goal.returns-then-not-is_reached-clause-place
returns-then-not-is_reached-clause-place c = sym (located-none (method_in c.args.method.now) c.args.item (sym c.if-not-is_reached.ensures))

pub returns-clause-place : goal.returns-clause-place
returns-clause-place c =
    let x = method_in c.args.method.now in
    let got_item = c.index-as_slice-item.result in
    let item = get_or c.as_slice.result.now c.args.item got_item in
    let items = c.args.method.now.code.now.items in
    let got : insn_of x.code c.args.item ≡ Some item.insn =
    ap (option_map (λ (v : Item). v.insn))
    (slice_get_read items (length items) c.args.item got_item (λ k. length items) c.requires.inside
    (c.index-as_slice-item.is ∙ ap (λ list. get_or list c.args.item got_item) c.as_slice.ensures))
    ∙ ap (λ (v : Item). Some v.insn) c.index-as_slice-item.is in
    ap Some c.reached_item.ensures.place
    ∙ sym (located-counted x c.args.item item.insn (length (words_at c.args.nodes.now c.args.item)) (sym c.if-not-is_reached.ensures) got
    (ap (λ t. length (words_at t c.args.item)) c.requires.nodes))
