use Rattle.std.proofs.Common.{◌≡◌, ℕ, ◌<◌, ◌≤◌, ◌+◌, ◌/◌, ◌%◌, ◌^◌, true, ap, sym, refl, ◌∙◌, get_or, set, max, arith, subst, length, length-set, inl, inr}
use Rattle.std.specs.Vec.{with_items}
use Rattle.std.proofs.lemmas.Bool.{cases_lt}
use Rattle.std.proofs.lemmas.List.{get_or_past}
use Rattle.fm_cells.specs.Changes.{Take, made_by}
use Rattle.fm_cells.specs.Objects.{request_of, Request, IsRequest, request_words}
use Rattle.fm_cells.specs.Sizes.{class_words, cell_words, size_class}
use Rattle.fm_cells.specs.inner.WordStores.{word_store, IsWords}
use Rattle.fm_cells.specs.inner.Words.{with_digit}
use Rattle.fm_cells.specs.declared.word_cells.WordCells.TheInside.{Inside}
use Rattle.fm_cells.proofs.SizeLaws.{class_words-mono}
use Rattle.fm_cells.proofs.Held.{at_error}
use Rattle.fm_cells.proofs.Soundness.{request_size_class-lt}
use Rattle.fm_cells.proofs.WordMakes.{IsWritten, same-marks, fresh-done, rewritten, next_cell, within-passes, request-fits}
use Rattle.fm_cells.proofs.WordStores.{with_items-all}
use Rattle.fm_cells.proofs.word_cells.WordCells.make_in_new_cell.Goals as goal

few : (class words : ℕ) (request : Request) → IsRequest request → words ≡ request_words request → class ≡ size_class words → class < 64
few class words request asked is_words is_class = subst (λ n. n < 64) (sym (is_class ∙ ap size_class is_words)) (request_size_class-lt request)

pub class_words-requires : goal.class_words-requires
class_words-requires c =
    let asked : IsRequest (request_of c.args.class c.args.len c.args.pack c.args.fixed) = record { class_fits = c.requires.class_fits; len_fits = c.requires.len_fits; pack_is = c.requires.pack_is } in
    few c.size_class-size.result c.object_words-words.result _ asked c.object_words-words.ensures c.size_class-size.ensures

pub overflow_add-end : goal.overflow_add-end
overflow_add-end c =
    let asked : IsRequest (request_of c.args.class c.args.len c.args.pack c.args.fixed) = record { class_fits = c.requires.class_fits; len_fits = c.requires.len_fits; pack_is = c.requires.pack_is } in
    let small = few c.size_class-size.result c.object_words-words.result _ asked c.object_words-words.ensures c.size_class-size.ensures in
    let wide : class_words c.size_class-size.result ≤ 2 ^ 36 = class_words-mono c.size_class-size.result 63 (omega arith) in
    let limit : c.args.self.now.made_words ≤ c.self.inside.limit = subst (λ s. s.made_words ≤ c.self.inside.limit) c.self.view_is c.self.invariant.last_reused.made_within_limit in
    omega (arith, wide, c.class_words.ensures, c.self.invariant.limit_fits, next_cell c.self.inside c.args.self.now c.max-cell.result c.self.view_is (c.max-cell.ensures ∙ ap (λ n. max n 1) c.len.ensures))

pub invariant_of-self : goal.invariant_of-self
invariant_of-self c = (same-marks c.self.inside _ c.args.self.now c.self.inside.words c.reserve_marks.new.marks c.self.view_is c.self.invariant refl c.in_err-reserve_marks.ensures.same c.in_err-reserve_marks.ensures.longer refl).1

pub returns-in_err-reserve_marks-clause-refused : goal.returns-in_err-reserve_marks-clause-refused
returns-in_err-reserve_marks-clause-refused c = at_error c.from_residual.result _ (same-marks c.self.inside (record c.self.inside { marks = c.reserve_marks.new.marks }) c.args.self.now c.self.inside.words c.reserve_marks.new.marks c.self.view_is c.self.invariant refl c.in_err-reserve_marks.ensures.same c.in_err-reserve_marks.ensures.longer refl).0

pub invariant_of-self-in_err-resize : goal.invariant_of-self-in_err-resize
invariant_of-self-in_err-resize c = (same-marks c.self.inside _ c.args.self.now c.resize.new.self c.reserve_marks.new.marks c.self.view_is c.self.invariant c.in_err-resize.ensures.items c.in_ok-reserve_marks.ensures.same c.in_ok-reserve_marks.ensures.longer refl).1

pub returns-in_err-resize-clause-refused : goal.returns-in_err-resize-clause-refused
returns-in_err-resize-clause-refused c = at_error c.from_residual-in_err-resize.result _ (same-marks c.self.inside (record c.self.inside { words = c.resize.new.self; marks = c.reserve_marks.new.marks }) c.args.self.now c.resize.new.self c.reserve_marks.new.marks c.self.view_is c.self.invariant c.in_err-resize.ensures.items c.in_ok-reserve_marks.ensures.same c.in_ok-reserve_marks.ensures.longer refl).0

pub write_header-requires : goal.write_header-requires
write_header-requires c =
    let asked : IsRequest (request_of c.args.class c.args.len c.args.pack c.args.fixed) = record { class_fits = c.requires.class_fits; len_fits = c.requires.len_fits; pack_is = c.requires.pack_is } in
    let room : c.class_words.result ≡ cell_words (request_words (request_of c.args.class c.args.len c.args.pack c.args.fixed)) = c.class_words.ensures ∙ ap class_words (c.size_class-size.ensures ∙ ap size_class c.object_words-words.ensures) in
    omega (arith, room, request-fits (request_of c.args.class c.args.len c.args.pack c.args.fixed) asked, c.object_words-words.ensures, ap length c.as_mut_slice.ensures.value, c.in_ok-resize.ensures.len, c.resize.new.self.ok.0)

pub bounds-self-inside-size : goal.bounds-self-inside-size
bounds-self-inside-size c =
    let asked : IsRequest (request_of c.args.class c.args.len c.args.pack c.args.fixed) = record { class_fits = c.requires.class_fits; len_fits = c.requires.len_fits; pack_is = c.requires.pack_is } in
    few c.size_class-size.result c.object_words-words.result _ asked c.object_words-words.ensures c.size_class-size.ensures

pub bounds-self-inside-size-2 : goal.bounds-self-inside-size-2
bounds-self-inside-size-2 c =
    let asked : IsRequest (request_of c.args.class c.args.len c.args.pack c.args.fixed) = record { class_fits = c.requires.class_fits; len_fits = c.requires.len_fits; pack_is = c.requires.pack_is } in
    few c.size_class-size.result c.object_words-words.result _ asked c.object_words-words.ensures c.size_class-size.ensures

-- the fields at the end
abbrev after : goal.After-self-6-1 → Inside
after c = record c.self.inside {
  words = with_items c.resize.new.self c.write_header.new.words;
  marks = with_items c.reserve_marks.new.marks c.set_mark.new.marks;
  made = set c.self.inside.made c.size_class-size.result (get_or c.self.inside.made c.size_class-size.result 0 + 1);
  births = c.self.inside.births + 1;
  live = c.self.inside.live + c.object_words-words.result;
  peak = c.max-self-inside.result;
}

both : (c : goal.After-self-6-1) → (word_store (after c) ≡ made_by c.args.self.now (request_of c.args.class c.args.len c.args.pack c.args.fixed) (Take (c.args.self.now.made_words + 1) true)) × IsWords (after c)
both c =
    let ws = c.resize.new.self.items in
    let ms = c.reserve_marks.new.marks.items in
    let request = request_of c.args.class c.args.len c.args.pack c.args.fixed in
    let asked : IsRequest request = record { class_fits = c.requires.class_fits; len_fits = c.requires.len_fits; pack_is = c.requires.pack_is } in
    let cell = c.max-cell.result in
    let is_cell : cell ≡ c.args.self.now.made_words + 1 = next_cell c.self.inside c.args.self.now cell c.self.view_is (c.max-cell.ensures ∙ ap (λ n. max n 1) c.len.ensures) in
    let room : c.class_words.result ≡ cell_words (request_words request) = c.class_words.ensures ∙ ap class_words (c.size_class-size.ensures ∙ ap size_class c.object_words-words.ensures) in
    let bit = with_digit 1 (cell % 64) 1 (get_or ms (cell / 64) 0) in
    let marked : c.set_mark.new.marks ≡ set ms (cell / 64) bit = c.set_mark.ensures ∙ ap (λ all. set all (cell / 64) (with_digit 1 (cell % 64) 1 (get_or all (cell / 64) 0))) c.as_mut_slice-2.ensures.value in
    let marks_long : length c.set_mark.new.marks ≡ length ms = ap length marked ∙ length-set ms (cell / 64) bit in
    let words_long : length c.write_header.new.words ≡ length ws = c.write_header.auto.words ∙ ap length c.as_mut_slice.ensures.value in
    let grown_long : length ws ≡ cell + class_words c.size_class-size.result = omega (arith, c.in_ok-resize.ensures.len, c.resize.new.self.ok.0, c.class_words.ensures) in
    let front : (i : ℕ) → i < cell → get_or ws i 0 ≡ get_or c.self.inside.words.items i 0 = λ i h. elim (cases_lt i c.self.inside.words.len) as (λ _. get_or ws i 0 ≡ get_or c.self.inside.words.items i 0) [
      | inl below ↦ c.in_ok-resize.ensures.by_index.0 i 0 (omega arith) below
      | inr past ↦ c.in_ok-resize.ensures.by_index.1 i 0 refl past (omega arith) ∙ sym (get_or_past c.self.inside.words.items i 0 (omega (arith, c.self.inside.words.ok.0)))
    ] in
    let written : IsWritten ws c.write_header.new.words cell c.identity_word-identity.result c.extent_word.result c.object_words-words.result =
    record {
      first = c.write_header.ensures.first;
      second = c.write_header.ensures.second;
      zeros = λ k from below. c.write_header.ensures.after k from ∙ ap (λ all. get_or all k 0) c.as_mut_slice.ensures.value ∙ c.in_ok-resize.ensures.by_index.1 k 0 refl (omega (arith, c.max-cell.ensures, c.len.ensures)) (omega (arith, room, request-fits request asked, c.object_words-words.ensures, c.in_ok-resize.ensures.len));
      before = λ k h. c.write_header.ensures.before k h ∙ ap (λ all. get_or all k 0) c.as_mut_slice.ensures.value;
      after = λ k h. c.write_header.ensures.after k (omega (arith, c.object_words-words.ensures)) ∙ ap (λ all. get_or all k 0) c.as_mut_slice.ensures.value;
    } in
    let items : (with_items c.resize.new.self c.write_header.new.words).items ≡ c.write_header.new.words = with_items-all c.resize.new.self c.write_header.new.words words_long in
    fresh-done c.self.inside (after c) c.args.self.now c.args.class c.args.len c.args.pack c.args.fixed cell c.identity_word-identity.result c.extent_word.result c.object_words-words.result c.size_class-size.result c.max-self-inside.result c.resize.new.self c.reserve_marks.new.marks
    (with_items c.resize.new.self c.write_header.new.words) (with_items c.reserve_marks.new.marks c.set_mark.new.marks) c.self.view_is c.self.invariant asked c.requires.birth_fits c.requires.within c.requires.none
    (within-passes c.self.inside c.args.self.now cell c.class_words.result request c.self.view_is is_cell room c.if-end-self.false) is_cell c.object_words-words.ensures c.size_class-size.ensures front grown_long
    (ap length items ∙ words_long) (rewritten ws c.write_header.new.words _ cell c.identity_word-identity.result c.extent_word.result c.object_words-words.result (sym items) written)
    (record { class_is = c.identity_word-identity.ensures.class; birth_is = c.identity_word-identity.ensures.birth; pack_is = c.identity_word-identity.ensures.pack; fixed_is = c.identity_word-identity.ensures.fixed }) c.extent_word.ensures
    c.in_ok-reserve_marks.ensures.same (omega (arith, c.in_ok-reserve_marks.ensures.room, c.class_words.ensures)) (with_items-all c.reserve_marks.new.marks c.set_mark.new.marks marks_long ∙ marked) c.max-self-inside.ensures refl

pub invariant_of-self-2 : goal.invariant_of-self-2
invariant_of-self-2 c = (both c).1

pub returns-clause-made : goal.returns-clause-made
returns-clause-made c = (next_cell c.self.inside c.args.self.now c.max-cell.result c.self.view_is (c.max-cell.ensures ∙ ap (λ n. max n 1) c.len.ensures), (both c).0)
