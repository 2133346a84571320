use Rattle.std.proofs.Common.{◌≡◌, ◌<◌, ◌+◌, ◌/◌, ◌^◌, ap, sym, ◌∙◌, get_or, subst, length}
use Rattle.fm_cells.specs.Stores.{elements_at}
use Rattle.fm_cells.specs.inner.Words.{exponent_in, pack_in, element_in}
use Rattle.fm_cells.proofs.Elements.{held_of_elements, element-fits}
use Rattle.fm_cells.proofs.WordStores.{first_within, word-read, get_within, get_value}
use Rattle.fm_cells.proofs.word_cells.WordCellsMemory.get.Goals as goal

pub index-requires : goal.index-requires
index-requires c = first_within c.self.inside c.args.self.now c.args.cell.0 c.self.view_is c.self.invariant (held_of_elements c.args.self.now c.args.cell.0 c.args.place c.requires)

-- the pack that was read
pack_is : (c : goal.After-exponent_in) → 2 ^ c.exponent_in.result ≡ pack_in (get_or c.self.inside.words.items c.args.cell.0 0)
pack_is c =
    ap (λ e. 2 ^ e) (c.exponent_in.ensures.value ∙ ap exponent_in (word-read c.self.inside.words c.args.cell.0 c.index.result.now (first_within c.self.inside c.args.self.now c.args.cell.0 c.self.view_is c.self.invariant (held_of_elements c.args.self.now c.args.cell.0 c.args.place c.requires)) c.index.ensures))

pub element-requires-clause-within : goal.element-requires-clause-within
element-requires-clause-within c =
    subst (λ n. n < length c.deref.result.now) (ap (λ p. c.args.cell.0 + 2 + c.args.place / p) (sym (pack_is c)))
    (subst (λ all. c.args.cell.0 + 2 + c.args.place / pack_in (get_or c.self.inside.words.items c.args.cell.0 0) < length all) (sym c.deref.ensures.value) (get_within c.self.inside c.args.self.now c.args.cell.0 c.args.place c.self.view_is c.self.invariant c.requires))

value_is : (c : goal.After-element) → c.element.result ≡ get_or (elements_at c.args.self.now c.args.cell.0) c.args.place 0
value_is c =
    let pack : 2 ^ c.exponent_in.result ≡ pack_in (get_or c.self.inside.words.items c.args.cell.0 0) =
    ap (λ e. 2 ^ e) (c.exponent_in.ensures.value ∙ ap exponent_in (word-read c.self.inside.words c.args.cell.0 c.index.result.now (first_within c.self.inside c.args.self.now c.args.cell.0 c.self.view_is c.self.invariant (held_of_elements c.args.self.now c.args.cell.0 c.args.place c.requires)) c.index.ensures)) in
    c.element.ensures
    ∙ ap (λ all. element_in all (c.args.cell.0 + 2) (2 ^ c.exponent_in.result) c.args.place) c.deref.ensures.value
    ∙ ap (λ p. element_in c.self.inside.words.items (c.args.cell.0 + 2) p c.args.place) pack
    ∙ get_value c.self.inside c.args.self.now c.args.cell.0 c.args.place c.self.view_is c.self.invariant c.requires

pub returns-clause-value : goal.returns-clause-value
returns-clause-value c = value_is c

pub returns-clause-fits : goal.returns-clause-fits
returns-clause-fits c = element-fits _ c.args.self.now c.args.cell.0 c.args.place c.element.result c.self.view_is c.self.invariant.sound c.requires (value_is c)
