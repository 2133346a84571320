use Rattle.std.proofs.Common.{◌≡◌, ◌<◌, ◌-◌, ◌/◌, ◌%◌, ap, sym, refl, ◌∙◌, cond, true, false, get_or, set, arith, subst, length, length-set, Ok, slice_index_or}
use Rattle.std.specs.Vec.{with_item, with_items}
use Rattle.fm_cells.specs.Changes.{without_object}
use Rattle.fm_cells.specs.Objects.{object_words}
use Rattle.fm_cells.specs.Sizes.{size_class}
use Rattle.fm_cells.specs.inner.Words.{is_fixed, with_digit, object_from}
use Rattle.fm_cells.specs.inner.WordStores.{word_store, IsWords}
use Rattle.fm_cells.specs.declared.word_cells.WordCells.TheInside.{Inside}
use Rattle.fm_cells.specs.declared.answers.Freed.TheVariants.{Done, Skipped}
use Rattle.fm_cells.proofs.Elements.{free_answer-some, freed_by-some}
use Rattle.fm_cells.proofs.Held.{held_if}
use Rattle.fm_cells.proofs.WordStores.{size_from, class_from, with_items-all, held-found, first_within, second_within, word-read, mark_within, marked-above, size-le-live, free-done}
use Rattle.fm_cells.proofs.word_cells.WordCellsMemory.free.Goals as goal

pub index-identity-requires : goal.index-identity-requires
index-identity-requires c =
    let held = held-found c.self.inside c.args.self.now c.args.cell.0 _ c.self.view_is c.self.invariant c.deref.ensures.value (c.is_marked.ensures.0 c.if-not-is_marked.false) in
    first_within c.self.inside c.args.self.now c.args.cell.0 c.self.view_is c.self.invariant (held_if _ _ held)

pub returns-then-is_fixed-clause-answer : goal.returns-then-is_fixed-clause-answer
returns-then-is_fixed-clause-answer c =
    let held = held-found c.self.inside c.args.self.now c.args.cell.0 _ c.self.view_is c.self.invariant c.deref.ensures.value (c.is_marked.ensures.0 c.if-not-is_marked.false) in
    let above = marked-above c.self.inside c.args.self.now c.args.cell.0 _ c.self.view_is c.self.invariant held in
    let first : c.index-identity.result.now ≡ get_or c.self.inside.words.items c.args.cell.0 0 = word-read c.self.inside.words c.args.cell.0 c.index-identity.result.now (first_within c.self.inside c.args.self.now c.args.cell.0 c.self.view_is c.self.invariant (held_if _ _ held)) c.index-identity.ensures in
    let fixed : is_fixed (get_or c.self.inside.words.items c.args.cell.0 0) ≡ true = ap is_fixed (sym first) ∙ sym c.is_fixed.ensures ∙ c.if-is_fixed.true in
    sym (free_answer-some c.args.self.now c.args.cell.0 _ above held ∙ ap (λ b. cond b (Ok Skipped) (Ok Done)) fixed)

pub returns-then-is_fixed-clause-freed : goal.returns-then-is_fixed-clause-freed
returns-then-is_fixed-clause-freed c =
    let object = object_from c.self.inside.words.items c.args.cell.0 in
    let held = held-found c.self.inside c.args.self.now c.args.cell.0 _ c.self.view_is c.self.invariant c.deref.ensures.value (c.is_marked.ensures.0 c.if-not-is_marked.false) in
    let first : c.index-identity.result.now ≡ get_or c.self.inside.words.items c.args.cell.0 0 = word-read c.self.inside.words c.args.cell.0 c.index-identity.result.now (first_within c.self.inside c.args.self.now c.args.cell.0 c.self.view_is c.self.invariant (held_if _ _ held)) c.index-identity.ensures in
    let fixed : is_fixed (get_or c.self.inside.words.items c.args.cell.0 0) ≡ true = ap is_fixed (sym first) ∙ sym c.is_fixed.ensures ∙ c.if-is_fixed.true in
    sym (freed_by-some c.args.self.now c.args.cell.0 object held ∙ ap (λ b. cond b c.args.self.now (without_object c.args.self.now c.args.cell.0 object)) fixed)

pub index-requires : goal.index-requires
index-requires c =
    let held = held-found c.self.inside c.args.self.now c.args.cell.0 _ c.self.view_is c.self.invariant c.deref.ensures.value (c.is_marked.ensures.0 c.if-not-is_marked.false) in
    second_within c.self.inside c.args.self.now c.args.cell.0 c.self.view_is c.self.invariant (held_if _ _ held)

pub bounds-self-inside-size : goal.bounds-self-inside-size
bounds-self-inside-size c =
    let held = held-found c.self.inside c.args.self.now c.args.cell.0 _ c.self.view_is c.self.invariant c.deref.ensures.value (c.is_marked.ensures.0 c.if-not-is_marked.false) in
    let size : c.object_words-words.result ≡ object_words (object_from c.self.inside.words.items c.args.cell.0) = size_from c.self.inside c.args.self.now c.args.cell.0 c.index-identity.result.now c.index.result.now c.len_in.result c.pack_in.result c.object_words-words.result c.self.view_is c.self.invariant held c.index-identity.ensures c.index.ensures c.len_in.ensures c.pack_in.ensures.value c.object_words-words.ensures in
    class_from c.self.inside c.args.self.now c.args.cell.0 c.object_words-words.result c.size_class-size.result c.self.view_is c.self.invariant held size c.size_class-size.ensures

pub index_mut-requires : goal.index_mut-requires
index_mut-requires c =
    let held = held-found c.self.inside c.args.self.now c.args.cell.0 _ c.self.view_is c.self.invariant c.deref.ensures.value (c.is_marked.ensures.0 c.if-not-is_marked.false) in
    first_within c.self.inside c.args.self.now c.args.cell.0 c.self.view_is c.self.invariant (held_if _ _ held)

pub bounds-self-inside-size-2 : goal.bounds-self-inside-size-2
bounds-self-inside-size-2 c =
    let held = held-found c.self.inside c.args.self.now c.args.cell.0 _ c.self.view_is c.self.invariant c.deref.ensures.value (c.is_marked.ensures.0 c.if-not-is_marked.false) in
    let size : c.object_words-words.result ≡ object_words (object_from c.self.inside.words.items c.args.cell.0) = size_from c.self.inside c.args.self.now c.args.cell.0 c.index-identity.result.now c.index.result.now c.len_in.result c.pack_in.result c.object_words-words.result c.self.view_is c.self.invariant held c.index-identity.ensures c.index.ensures c.len_in.ensures c.pack_in.ensures.value c.object_words-words.ensures in
    class_from c.self.inside c.args.self.now c.args.cell.0 c.object_words-words.result c.size_class-size.result c.self.view_is c.self.invariant held size c.size_class-size.ensures

pub set_mark-requires-clause-within : goal.set_mark-requires-clause-within
set_mark-requires-clause-within c =
    let held = held-found c.self.inside c.args.self.now c.args.cell.0 _ c.self.view_is c.self.invariant c.deref.ensures.value (c.is_marked.ensures.0 c.if-not-is_marked.false) in
    subst (λ all. c.args.cell.0 / 64 < length all) (sym c.as_mut_slice.ensures.value) (mark_within c.self.inside c.args.self.now c.args.cell.0 _ c.self.view_is c.self.invariant held)

pub overflow_sub-self : goal.overflow_sub-self
overflow_sub-self c =
    let held = held-found c.self.inside c.args.self.now c.args.cell.0 _ c.self.view_is c.self.invariant c.deref.ensures.value (c.is_marked.ensures.0 c.if-not-is_marked.false) in
    let size : c.object_words-words.result ≡ object_words (object_from c.self.inside.words.items c.args.cell.0) = size_from c.self.inside c.args.self.now c.args.cell.0 c.index-identity.result.now c.index.result.now c.len_in.result c.pack_in.result c.object_words-words.result c.self.view_is c.self.invariant held c.index-identity.ensures c.index.ensures c.len_in.ensures c.pack_in.ensures.value c.object_words-words.ensures in
    size-le-live c.self.inside c.args.self.now c.args.cell.0 c.object_words-words.result _ c.self.view_is c.self.invariant held size

-- the fields at the end
abbrev after : goal.After-self-3-1 → Inside
after c = record c.self.inside {
  words = with_item c.self.inside.words c.args.cell.0 (slice_index_or c.self.inside.heads c.size_class-size.result 0);
  marks = with_items c.self.inside.marks c.set_mark.new.marks;
  heads = set c.self.inside.heads c.size_class-size.result c.args.cell.0;
  live = c.self.inside.live - c.object_words-words.result;
}

both : (c : goal.After-self-3-1) → (word_store (after c) ≡ without_object c.args.self.now c.args.cell.0 (object_from c.self.inside.words.items c.args.cell.0)) × IsWords (after c)
both c =
    let held = held-found c.self.inside c.args.self.now c.args.cell.0 _ c.self.view_is c.self.invariant c.deref.ensures.value (c.is_marked.ensures.0 c.if-not-is_marked.false) in
    let size : c.object_words-words.result ≡ object_words (object_from c.self.inside.words.items c.args.cell.0) = size_from c.self.inside c.args.self.now c.args.cell.0 c.index-identity.result.now c.index.result.now c.len_in.result c.pack_in.result c.object_words-words.result c.self.view_is c.self.invariant held c.index-identity.ensures c.index.ensures c.len_in.ensures c.pack_in.ensures.value c.object_words-words.ensures in
    let bit = with_digit 1 (c.args.cell.0 % 64) 0 (get_or c.self.inside.marks.items (c.args.cell.0 / 64) 0) in
    let marked : c.set_mark.new.marks ≡ set c.self.inside.marks.items (c.args.cell.0 / 64) bit = c.set_mark.ensures ∙ ap (λ all. set all (c.args.cell.0 / 64) (with_digit 1 (c.args.cell.0 % 64) 0 (get_or all (c.args.cell.0 / 64) 0))) c.as_mut_slice.ensures.value in
    let long : length c.set_mark.new.marks ≡ length c.self.inside.marks.items = ap length marked ∙ length-set c.self.inside.marks.items (c.args.cell.0 / 64) bit in
    free-done c.self.inside (after c) c.args.self.now c.args.cell.0 c.size_class-size.result c.object_words-words.result (object_from c.self.inside.words.items c.args.cell.0)
    (with_item c.self.inside.words c.args.cell.0 (slice_index_or c.self.inside.heads c.size_class-size.result 0)) (with_items c.self.inside.marks c.set_mark.new.marks) c.self.view_is c.self.invariant held (omega (arith, c.self.told.0))
    (c.size_class-size.ensures ∙ ap size_class size) size refl (with_items-all c.self.inside.marks c.set_mark.new.marks long ∙ marked) refl

pub invariant_of-self : goal.invariant_of-self
invariant_of-self c = (both c).1

pub returns-clause-answer : goal.returns-clause-answer
returns-clause-answer c =
    let held = held-found c.self.inside c.args.self.now c.args.cell.0 _ c.self.view_is c.self.invariant c.deref.ensures.value (c.is_marked.ensures.0 c.if-not-is_marked.false) in
    let above = marked-above c.self.inside c.args.self.now c.args.cell.0 _ c.self.view_is c.self.invariant held in
    let first : c.index-identity.result.now ≡ get_or c.self.inside.words.items c.args.cell.0 0 = word-read c.self.inside.words c.args.cell.0 c.index-identity.result.now (first_within c.self.inside c.args.self.now c.args.cell.0 c.self.view_is c.self.invariant (held_if _ _ held)) c.index-identity.ensures in
    let fixed : is_fixed (get_or c.self.inside.words.items c.args.cell.0 0) ≡ false = ap is_fixed (sym first) ∙ sym c.is_fixed.ensures ∙ c.if-is_fixed.false in
    sym (free_answer-some c.args.self.now c.args.cell.0 _ above held ∙ ap (λ b. cond b (Ok Skipped) (Ok Done)) fixed)

pub returns-clause-freed : goal.returns-clause-freed
returns-clause-freed c =
    let object = object_from c.self.inside.words.items c.args.cell.0 in
    let held = held-found c.self.inside c.args.self.now c.args.cell.0 _ c.self.view_is c.self.invariant c.deref.ensures.value (c.is_marked.ensures.0 c.if-not-is_marked.false) in
    let first : c.index-identity.result.now ≡ get_or c.self.inside.words.items c.args.cell.0 0 = word-read c.self.inside.words c.args.cell.0 c.index-identity.result.now (first_within c.self.inside c.args.self.now c.args.cell.0 c.self.view_is c.self.invariant (held_if _ _ held)) c.index-identity.ensures in
    let fixed : is_fixed (get_or c.self.inside.words.items c.args.cell.0 0) ≡ false = ap is_fixed (sym first) ∙ sym c.is_fixed.ensures ∙ c.if-is_fixed.false in
    (both c).0 ∙ sym (freed_by-some c.args.self.now c.args.cell.0 object held ∙ ap (λ b. cond b c.args.self.now (without_object c.args.self.now c.args.cell.0 object)) fixed)
