use Rattle.std.proofs.Common.{◌≡◌, ◌+◌, ap, refl, ◌∙◌, get_or, arith}
use Rattle.std.proofs.lemmas.List.{get_or_default}
use Rattle.std.specs.Vec.{with_item}
use Rattle.fm_cells.specs.Changes.{chained_by}
use Rattle.fm_cells.specs.inner.WordStores.{word_store, IsWords}
use Rattle.fm_cells.specs.inner.Words.{len_in, extent_word}
use Rattle.fm_cells.proofs.WordStores.{second_within, set_chain-done}
use Rattle.fm_cells.proofs.word_cells.WordCellsMemory.set_chain.Goals as goal

pub index-requires : goal.index-requires
index-requires c = second_within c.self.inside c.args.self.now c.args.cell.0 c.self.view_is c.self.invariant c.requires

pub index_mut-requires : goal.index_mut-requires
index_mut-requires c = second_within c.self.inside c.args.self.now c.args.cell.0 c.self.view_is c.self.invariant c.requires

both : (c : goal.After-self-1) → (word_store (record c.self.inside { words = with_item c.self.inside.words (c.args.cell.0 + 1) c.extent_word.result }) ≡ chained_by c.args.self.now c.args.cell.0 c.args.to.0) × IsWords (record c.self.inside { words = with_item c.self.inside.words (c.args.cell.0 + 1) c.extent_word.result })
both c =
    let within = second_within c.self.inside c.args.self.now c.args.cell.0 c.self.view_is c.self.invariant c.requires in
    let read : c.index.result.now ≡ get_or c.self.inside.words.items (c.args.cell.0 + 1) 0 = c.index.ensures ∙ get_or_default c.self.inside.words.items (c.args.cell.0 + 1) c.index.result.now 0 (omega (arith, c.self.inside.words.ok.0)) in
    set_chain-done c.self.inside _ c.args.self.now c.args.cell.0 c.args.to.0 c.extent_word.result (with_item c.self.inside.words (c.args.cell.0 + 1) c.extent_word.result) c.self.view_is c.self.invariant c.requires (omega arith)
    (c.extent_word.ensures ∙ ap (λ len. extent_word len c.args.to.0) (c.len_in.ensures ∙ ap len_in read)) refl refl

pub invariant_of-self : goal.invariant_of-self
invariant_of-self c = (both c).1

pub returns : goal.returns
returns c = (both c).0
