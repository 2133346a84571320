use Rattle.std.proofs.Common.{◌≡◌, ◌<◌, ◌+◌, ◌/◌, ◌%◌, ◌^◌, ap, sym, refl, ◌∙◌, get_or, set, subst, length, length-set}
use Rattle.std.specs.Vec.{with_items}
use Rattle.fm_cells.specs.Changes.{put_by}
use Rattle.fm_cells.specs.Sizes.{element_bits}
use Rattle.fm_cells.specs.inner.Words.{exponent_in, pack_in, with_digit}
use Rattle.fm_cells.specs.inner.WordStores.{word_store, IsWords}
use Rattle.fm_cells.proofs.Elements.{held_of_elements}
use Rattle.fm_cells.proofs.WordStores.{with_items-all, first_within, word-read, get_within, pack_is_own, put-done}
use Rattle.fm_cells.proofs.word_cells.WordCellsMemory.put.Goals as goal

-- the pack that was read
pack_is : (c : goal.After-as_mut_slice) → 2 ^ c.exponent_in-exponent.result ≡ pack_in (get_or c.self.inside.words.items c.args.cell.0 0)
pack_is c =
    ap (λ e. 2 ^ e) (c.exponent_in-exponent.ensures.value ∙ ap exponent_in (word-read c.self.inside.words c.args.cell.0 c.index.result.now (first_within c.self.inside c.args.self.now c.args.cell.0 c.self.view_is c.self.invariant (held_of_elements c.args.self.now c.args.cell.0 c.args.place c.requires.within)) c.index.ensures))

pub set_element-requires-clause-within : goal.set_element-requires-clause-within
set_element-requires-clause-within c =
    subst (λ n. n < length c.as_mut_slice.result.now) (ap (λ p. c.args.cell.0 + 2 + c.args.place / p) (sym (pack_is c)))
    (subst (λ all. c.args.cell.0 + 2 + c.args.place / pack_in (get_or c.self.inside.words.items c.args.cell.0 0) < length all) (sym c.as_mut_slice.ensures.value) (get_within c.self.inside c.args.self.now c.args.cell.0 c.args.place c.self.view_is c.self.invariant c.requires.within))

pub set_element-requires-clause-fits : goal.set_element-requires-clause-fits
set_element-requires-clause-fits c =
    subst (λ p. c.args.element < 2 ^ element_bits p) (pack_is_own c.self.inside c.args.self.now c.args.cell.0 c.args.place c.self.view_is c.self.invariant c.requires.within ∙ sym (pack_is c)) c.requires.fits

both : (c : goal.After-self-1) → (word_store (record c.self.inside { words = with_items c.self.inside.words c.set_element.new.words }) ≡ put_by c.args.self.now c.args.cell.0 c.args.place c.args.element) × IsWords (record c.self.inside { words = with_items c.self.inside.words c.set_element.new.words })
both c =
    let ws = c.self.inside.words.items in
    let pack : 2 ^ c.exponent_in-exponent.result ≡ pack_in (get_or ws c.args.cell.0 0) =
    ap (λ e. 2 ^ e) (c.exponent_in-exponent.ensures.value ∙ ap exponent_in (word-read c.self.inside.words c.args.cell.0 c.index.result.now (first_within c.self.inside c.args.self.now c.args.cell.0 c.self.view_is c.self.invariant (held_of_elements c.args.self.now c.args.cell.0 c.args.place c.requires.within)) c.index.ensures)) in
    let at = c.args.cell.0 + 2 + c.args.place / (2 ^ c.exponent_in-exponent.result) in
    let written : c.set_element.new.words ≡ set ws at (with_digit (element_bits (2 ^ c.exponent_in-exponent.result)) (c.args.place % (2 ^ c.exponent_in-exponent.result)) c.args.element (get_or ws at 0)) =
    c.set_element.ensures ∙ ap (λ all. set all at (with_digit (element_bits (2 ^ c.exponent_in-exponent.result)) (c.args.place % (2 ^ c.exponent_in-exponent.result)) c.args.element (get_or all at 0))) c.as_mut_slice.ensures.value in
    let long : length c.set_element.new.words ≡ length ws = ap length written ∙ length-set ws at (with_digit (element_bits (2 ^ c.exponent_in-exponent.result)) (c.args.place % (2 ^ c.exponent_in-exponent.result)) c.args.element (get_or ws at 0)) in
    put-done c.self.inside _ c.args.self.now c.args.cell.0 c.args.place c.args.element (2 ^ c.exponent_in-exponent.result) (with_items c.self.inside.words c.set_element.new.words) c.self.view_is c.self.invariant c.requires.within c.requires.fits pack
    (with_items-all c.self.inside.words c.set_element.new.words long ∙ written) refl

pub invariant_of-self : goal.invariant_of-self
invariant_of-self c = (both c).1

pub returns : goal.returns
returns c = (both c).0
