use Rattle.std.proofs.Common.{◌∙◌, ◌≡◌, ap, length, get_or}
use Rattle.std.proofs.lemmas.List.{length-replicate}
use Rattle.fm_base.proofs.RowsLemmas.{IsRow-zeros, bits_of-zeros, get_or-zeros}
use Rattle.fm_base.proofs.rows.Row.new.Goals as goal

pub invariant_of-result : goal.invariant_of-result
invariant_of-result c =
    let made = c.in_ok-words.ensures.items_if_clones_equal (λ y e. e) in
    let needed : length c.in_ok-words.words.items ≡ c.div_ceil.result = ap length made ∙ length-replicate c.div_ceil.result 0 in
    IsRow-zeros c.in_ok-words.words.items c.args.bits (needed ∙ c.div_ceil.ensures)
    (λ k. ap (λ words. get_or words k 0) made ∙ get_or-zeros c.div_ceil.result k)

pub returns : goal.returns
returns c =
    let made = c.in_ok-words.ensures.items_if_clones_equal (λ y e. e) in
    bits_of-zeros c.in_ok-words.words.items c.args.bits (λ k. ap (λ words. get_or words k 0) made ∙ get_or-zeros c.div_ceil.result k)
