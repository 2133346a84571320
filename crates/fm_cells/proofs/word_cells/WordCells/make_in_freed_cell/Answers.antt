use Rattle.std.proofs.Common.{◌≡◌, ◌+◌, ◌/◌, ◌%◌, false, ap, sym, refl, ◌∙◌, get_or, set, arith, length, length-set}
use Rattle.std.specs.Vec.{with_items}
use Rattle.fm_cells.specs.Changes.{Take, made_by}
use Rattle.fm_cells.specs.Objects.{request_of, IsRequest}
use Rattle.fm_cells.specs.inner.WordStores.{word_store, IsWords}
use Rattle.fm_cells.specs.inner.Words.{with_digit}
use Rattle.fm_cells.specs.declared.word_cells.WordCells.TheInside.{Inside}
use Rattle.fm_cells.proofs.WordMakes.{IsWritten, head_within, head-done, rewritten}
use Rattle.fm_cells.proofs.WordStores.{with_items-all, word-read}
use Rattle.fm_cells.proofs.word_cells.WordCells.make_in_freed_cell.Goals as goal

asked_for : (c : goal.After-index-arg-1) → IsRequest (request_of c.args.class c.args.len c.args.pack c.args.fixed)
asked_for c = record { class_fits = c.requires.class_fits; len_fits = c.requires.len_fits; pack_is = c.requires.pack_is }

pub index-requires : goal.index-requires
index-requires c =
    let within = head_within c.self.inside c.args.self.now c.args.cell c.requires.head.0 (request_of c.args.class c.args.len c.args.pack c.args.fixed) c.self.view_is c.self.invariant (asked_for c) c.requires.head.1 in
    omega (arith, within.0, c.self.inside.words.ok.0)

pub overflow_cast-self : goal.overflow_cast-self
overflow_cast-self c =
    let asked : IsRequest (request_of c.args.class c.args.len c.args.pack c.args.fixed) = record { class_fits = c.requires.class_fits; len_fits = c.requires.len_fits; pack_is = c.requires.pack_is } in
    let within = head_within c.self.inside c.args.self.now c.args.cell c.requires.head.0 (request_of c.args.class c.args.len c.args.pack c.args.fixed) c.self.view_is c.self.invariant asked c.requires.head.1 in
    let read = word-read c.self.inside.words c.args.cell c.index.result.now (omega (arith, within.0, c.self.inside.words.ok.0)) c.index.ensures in
    omega (arith, within.1, read)

pub write_object-requires-clause-within : goal.write_object-requires-clause-within
write_object-requires-clause-within c =
    let asked : IsRequest (request_of c.args.class c.args.len c.args.pack c.args.fixed) = record { class_fits = c.requires.class_fits; len_fits = c.requires.len_fits; pack_is = c.requires.pack_is } in
    let within = head_within c.self.inside c.args.self.now c.args.cell c.requires.head.0 (request_of c.args.class c.args.len c.args.pack c.args.fixed) c.self.view_is c.self.invariant asked c.requires.head.1 in
    omega (arith, within.0, ap length c.as_mut_slice.ensures.value, c.object_words-words.ensures)

pub set_mark-requires-clause-within : goal.set_mark-requires-clause-within
set_mark-requires-clause-within c =
    let asked : IsRequest (request_of c.args.class c.args.len c.args.pack c.args.fixed) = record { class_fits = c.requires.class_fits; len_fits = c.requires.len_fits; pack_is = c.requires.pack_is } in
    let within = head_within c.self.inside c.args.self.now c.args.cell c.requires.head.0 (request_of c.args.class c.args.len c.args.pack c.args.fixed) c.self.view_is c.self.invariant asked c.requires.head.1 in
    omega (arith, within.0, ap length c.as_mut_slice-2.ensures.value, c.self.invariant.marks_long)

-- the fields at the end
abbrev after : goal.After-self-5-1 → Inside
after c = record c.self.inside {
  words = with_items c.self.inside.words c.write_object.new.words;
  marks = with_items c.self.inside.marks c.set_mark.new.marks;
  heads = set c.self.inside.heads c.size_class-size.result c.index.result.now;
  births = c.self.inside.births + 1;
  live = c.self.inside.live + c.object_words-words.result;
  peak = c.max-self-inside.result;
}

both : (c : goal.After-self-5-1) → (word_store (after c) ≡ made_by c.args.self.now (request_of c.args.class c.args.len c.args.pack c.args.fixed) (Take c.args.cell false)) × IsWords (after c)
both c =
    let ws = c.self.inside.words.items in
    let ms = c.self.inside.marks.items in
    let asked : IsRequest (request_of c.args.class c.args.len c.args.pack c.args.fixed) = record { class_fits = c.requires.class_fits; len_fits = c.requires.len_fits; pack_is = c.requires.pack_is } in
    let within = head_within c.self.inside c.args.self.now c.args.cell c.requires.head.0 (request_of c.args.class c.args.len c.args.pack c.args.fixed) c.self.view_is c.self.invariant asked c.requires.head.1 in
    let bit = with_digit 1 (c.args.cell % 64) 1 (get_or ms (c.args.cell / 64) 0) in
    let marked : c.set_mark.new.marks ≡ set ms (c.args.cell / 64) bit = c.set_mark.ensures ∙ ap (λ all. set all (c.args.cell / 64) (with_digit 1 (c.args.cell % 64) 1 (get_or all (c.args.cell / 64) 0))) c.as_mut_slice-2.ensures.value in
    let marks_long : length c.set_mark.new.marks ≡ length ms = ap length marked ∙ length-set ms (c.args.cell / 64) bit in
    let words_long : length c.write_object.new.words ≡ length ws = c.write_object.auto.words ∙ ap length c.as_mut_slice.ensures.value in
    let written : IsWritten ws c.write_object.new.words c.args.cell c.identity_word-identity.result c.extent_word.result c.object_words-words.result =
    record {
      first = c.write_object.ensures.first;
      second = c.write_object.ensures.second;
      zeros = c.write_object.ensures.zeros;
      before = λ k h. c.write_object.ensures.before k h ∙ ap (λ all. get_or all k 0) c.as_mut_slice.ensures.value;
      after = λ k h. c.write_object.ensures.after k h ∙ ap (λ all. get_or all k 0) c.as_mut_slice.ensures.value;
    } in
    let items : (with_items c.self.inside.words c.write_object.new.words).items ≡ c.write_object.new.words = with_items-all c.self.inside.words c.write_object.new.words words_long in
    head-done c.self.inside (after c) c.args.self.now c.args.cell c.requires.head.0 c.args.class c.args.len c.args.pack c.args.fixed c.identity_word-identity.result c.extent_word.result c.object_words-words.result c.size_class-size.result c.max-self-inside.result c.index.result.now
    (with_items c.self.inside.words c.write_object.new.words) (with_items c.self.inside.marks c.set_mark.new.marks) c.self.view_is c.self.invariant asked c.requires.birth_fits c.requires.within c.requires.head.1 (omega (arith, c.self.told.0))
    c.object_words-words.ensures c.size_class-size.ensures (word-read c.self.inside.words c.args.cell c.index.result.now (omega (arith, within.0, c.self.inside.words.ok.0)) c.index.ensures) (ap length items ∙ words_long) (rewritten ws c.write_object.new.words _ c.args.cell c.identity_word-identity.result c.extent_word.result c.object_words-words.result (sym items) written)
    (record { class_is = c.identity_word-identity.ensures.class; birth_is = c.identity_word-identity.ensures.birth; pack_is = c.identity_word-identity.ensures.pack; fixed_is = c.identity_word-identity.ensures.fixed }) c.extent_word.ensures
    (omega (arith, within.0, c.self.invariant.marks_long)) (with_items-all c.self.inside.marks c.set_mark.new.marks marks_long ∙ marked) c.max-self-inside.ensures refl

pub invariant_of-self : goal.invariant_of-self
invariant_of-self c = (both c).1

pub returns : goal.returns
returns c = (both c).0
