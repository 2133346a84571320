use Rattle.std.proofs.Common.{◌≡◌, ◌+◌, ap, ◌∙◌, get_or, arith}
use Rattle.std.proofs.lemmas.List.{get_or_default}
use Rattle.fm_cells.specs.inner.Words.{chain_in}
use Rattle.fm_cells.proofs.WordStores.{second_within, chain_value}
use Rattle.fm_cells.proofs.word_cells.WordCellsMemory.chain.Goals as goal

pub index-requires : goal.index-requires
index-requires c = second_within c.self.inside c.args.self.now c.args.cell.0 c.self.view_is c.self.invariant c.requires

pub returns : goal.returns
returns c =
    let within = second_within c.self.inside c.args.self.now c.args.cell.0 c.self.view_is c.self.invariant c.requires in
    let read : c.index.result.now ≡ get_or c.self.inside.words.items (c.args.cell.0 + 1) 0 = c.index.ensures ∙ get_or_default c.self.inside.words.items (c.args.cell.0 + 1) c.index.result.now 0 (omega (arith, c.self.inside.words.ok.0)) in
    c.chain_in.ensures ∙ ap chain_in read ∙ chain_value c.self.inside c.args.self.now c.args.cell.0 c.self.view_is c.self.invariant c.requires
