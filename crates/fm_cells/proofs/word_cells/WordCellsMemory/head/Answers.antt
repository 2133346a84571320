use Rattle.std.proofs.Common.{◌≡◌, ◌+◌, ap, sym, ◌∙◌, get_or}
use Rattle.std.specs.Option.{option_map}
use Rattle.fm_cells.specs.Answers.{head_of}
use Rattle.fm_cells.specs.Stores.{object_at}
use Rattle.fm_cells.specs.inner.Words.{class_in, birth_in, pack_in, is_fixed, len_in, object_from}
use Rattle.fm_cells.proofs.Held.{held_if}
use Rattle.fm_cells.proofs.WordStores.{held-found, first_within, second_within, word-read, same_head}
use Rattle.fm_cells.proofs.word_cells.WordCellsMemory.head.Goals as goal

pub index-identity-requires : goal.index-identity-requires
index-identity-requires c =
    let held = held-found c.self.inside c.args.self.now c.args.cell.0 _ c.self.view_is c.self.invariant c.deref.ensures.value (c.is_marked.ensures.0 c.if-not-is_marked.false) in
    first_within c.self.inside c.args.self.now c.args.cell.0 c.self.view_is c.self.invariant (held_if _ _ held)

pub index-requires : goal.index-requires
index-requires c =
    let held = held-found c.self.inside c.args.self.now c.args.cell.0 _ c.self.view_is c.self.invariant c.deref.ensures.value (c.is_marked.ensures.0 c.if-not-is_marked.false) in
    second_within c.self.inside c.args.self.now c.args.cell.0 c.self.view_is c.self.invariant (held_if _ _ held)

pub returns : goal.returns
returns c =
    let held = held-found c.self.inside c.args.self.now c.args.cell.0 _ c.self.view_is c.self.invariant c.deref.ensures.value (c.is_marked.ensures.0 c.if-not-is_marked.false) in
    let some = held_if (object_at c.args.self.now c.args.cell.0) (object_from c.self.inside.words.items c.args.cell.0) held in
    let first : c.index-identity.result.now ≡ get_or c.self.inside.words.items c.args.cell.0 0 = word-read c.self.inside.words c.args.cell.0 c.index-identity.result.now (first_within c.self.inside c.args.self.now c.args.cell.0 c.self.view_is c.self.invariant some) c.index-identity.ensures in
    let second : c.index.result.now ≡ get_or c.self.inside.words.items (c.args.cell.0 + 1) 0 = word-read c.self.inside.words (c.args.cell.0 + 1) c.index.result.now (second_within c.self.inside c.args.self.now c.args.cell.0 c.self.view_is c.self.invariant some) c.index.ensures in
    same_head c.self.inside.words.items c.args.cell.0 _ _ _ _ _ (c.class_in.ensures ∙ ap class_in first) (c.birth_in.ensures ∙ ap birth_in first) (c.len_in.ensures ∙ ap len_in second) (c.pack_in.ensures.value ∙ ap pack_in first) (c.is_fixed.ensures ∙ ap is_fixed first)
    ∙ sym (ap (λ o. option_map head_of o) held)
