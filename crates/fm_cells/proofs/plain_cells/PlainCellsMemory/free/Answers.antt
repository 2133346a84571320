use Rattle.std.proofs.Common.{◌≡◌, ◌≢◌, ◌∙◌, sym, refl, ap, cond, Some, None, Ok, arith}
use Rattle.fm_cells.specs.Changes.{without_object}
use Rattle.fm_cells.specs.Objects.{IsObject, object_words}
use Rattle.fm_cells.specs.Sizes.{packed_words}
use Rattle.fm_cells.specs.inner.Residents.{resident_object}
use Rattle.fm_cells.specs.Stores.{object_at}
use Rattle.fm_cells.specs.declared.answers.Freed.TheVariants.{Done, Skipped}
use Rattle.fm_cells.proofs.Elements.{fits_at, free_answer-none, free_answer-some, freed_by-none, freed_by-some}
use Rattle.fm_cells.proofs.PlainStores.{found_some, found_none, emptied, words-le-live, held_above_null}
use Rattle.fm_cells.proofs.plain_cells.PlainCellsMemory.free.Goals as goal

-- the object in the resident that was found is held, and its numbers lie in their ranges
some_at : (c : goal.After-len) → object_at c.args.self.now c.args.cell.0 ≡ Some (resident_object c.in-Some.resident.now)
some_at c = found_some c.self.inside _ _ c.args.cell.0 _ c.in-Some.resident c.self.view_is c.deref.ensures.value c.in-Some.is c.resident_at.ensures

object_fits : (c : goal.After-len) → IsObject (resident_object c.in-Some.resident.now)
object_fits c = fits_at _ c.args.self.now c.args.cell.0 (resident_object c.in-Some.resident.now) c.self.view_is c.self.invariant.sound (some_at c)

pub overflow_cast-len : goal.overflow_cast-len
overflow_cast-len c = let object = object_fits c in omega (arith, object.length_fits, c.in-Some.resident.now.elements.ok.0, c.len.ensures)

pub object_words-requires-clause-len_fits : goal.object_words-requires-clause-len_fits
object_words-requires-clause-len_fits c = let object = object_fits c in omega (arith, object.length_fits, c.in-Some.resident.now.elements.ok.0, c.len.ensures)

pub object_words-requires-clause-pack_is : goal.object_words-requires-clause-pack_is
object_words-requires-clause-pack_is c = let object = object_fits c in object.pack_is

pub returns-in-None-2-clause-answer : goal.returns-in-None-2-clause-answer
returns-in-None-2-clause-answer c =
    let none : object_at c.args.self.now c.args.cell.0 ≡ None = found_none c.self.inside _ _ c.args.cell.0 _ c.self.view_is c.deref.ensures.value c.in-None.is c.resident_at.ensures in
    sym (free_answer-none c.args.self.now c.args.cell.0 c.if-cell-eq0.false none)

pub returns-in-None-2-clause-freed : goal.returns-in-None-2-clause-freed
returns-in-None-2-clause-freed c =
    let none : object_at c.args.self.now c.args.cell.0 ≡ None = found_none c.self.inside _ _ c.args.cell.0 _ c.self.view_is c.deref.ensures.value c.in-None.is c.resident_at.ensures in
    sym (freed_by-none c.args.self.now c.args.cell.0 none)

pub returns-then-fixed-clause-answer : goal.returns-then-fixed-clause-answer
returns-then-fixed-clause-answer c =
    let some : object_at c.args.self.now c.args.cell.0 ≡ Some (resident_object c.in-Some.resident.now) = found_some c.self.inside _ _ c.args.cell.0 _ c.in-Some.resident c.self.view_is c.deref.ensures.value c.in-Some.is c.resident_at.ensures in
    let above : c.args.cell.0 ≢ 0 = held_above_null c.self.inside c.args.self.now c.args.cell.0 (resident_object c.in-Some.resident.now) c.self.view_is c.self.invariant some in
    sym (free_answer-some c.args.self.now c.args.cell.0 (resident_object c.in-Some.resident.now) above some ∙ ap (λ b. cond b (Ok Skipped) (Ok Done)) c.if-fixed.true)

pub returns-then-fixed-clause-freed : goal.returns-then-fixed-clause-freed
returns-then-fixed-clause-freed c =
    let some : object_at c.args.self.now c.args.cell.0 ≡ Some (resident_object c.in-Some.resident.now) = found_some c.self.inside _ _ c.args.cell.0 _ c.in-Some.resident c.self.view_is c.deref.ensures.value c.in-Some.is c.resident_at.ensures in
    sym (freed_by-some c.args.self.now c.args.cell.0 (resident_object c.in-Some.resident.now) some ∙ ap (λ b. cond b c.args.self.now (without_object c.args.self.now c.args.cell.0 (resident_object c.in-Some.resident.now))) c.if-fixed.true)

-- the words that were counted are those of the object
words_are : (c : goal.Joined-index_mut) → c.object_words.result ≡ object_words (resident_object c.in-Some.resident.now)
words_are c = c.object_words.ensures ∙ ap (λ len. packed_words len c.in-Some.resident.now.pack) (c.len.ensures ∙ c.in-Some.resident.now.elements.ok.0)

pub overflow_sub-self : goal.overflow_sub-self
overflow_sub-self c =
    let some : object_at c.args.self.now c.args.cell.0 ≡ Some (resident_object c.in-Some.resident.now) = found_some c.self.inside _ _ c.args.cell.0 _ c.in-Some.resident c.self.view_is c.deref.ensures.value c.in-Some.is c.resident_at.ensures in
    words-le-live c.self.inside c.args.self.now c.args.cell.0 c.object_words.result (resident_object c.in-Some.resident.now) c.self.view_is c.self.invariant some (words_are c)

pub invariant_of-self : goal.invariant_of-self
invariant_of-self c =
    let some : object_at c.args.self.now c.args.cell.0 ≡ Some (resident_object c.in-Some.resident.now) = found_some c.self.inside _ _ c.args.cell.0 _ c.in-Some.resident c.self.view_is c.deref.ensures.value c.in-Some.is c.resident_at.ensures in
    let words : c.object_words.result ≡ object_words (resident_object c.in-Some.resident.now) = c.object_words.ensures ∙ ap (λ len. packed_words len c.in-Some.resident.now.pack) (c.len.ensures ∙ c.in-Some.resident.now.elements.ok.0) in
    (emptied c.self.inside _ c.args.self.now c.args.cell.0 c.object_words.result (resident_object c.in-Some.resident.now) c.self.view_is c.self.invariant some words refl).1

pub returns-clause-answer : goal.returns-clause-answer
returns-clause-answer c =
    let some : object_at c.args.self.now c.args.cell.0 ≡ Some (resident_object c.in-Some.resident.now) = found_some c.self.inside _ _ c.args.cell.0 _ c.in-Some.resident c.self.view_is c.deref.ensures.value c.in-Some.is c.resident_at.ensures in
    let above : c.args.cell.0 ≢ 0 = held_above_null c.self.inside c.args.self.now c.args.cell.0 (resident_object c.in-Some.resident.now) c.self.view_is c.self.invariant some in
    sym (free_answer-some c.args.self.now c.args.cell.0 (resident_object c.in-Some.resident.now) above some ∙ ap (λ b. cond b (Ok Skipped) (Ok Done)) c.if-fixed.false)

pub returns-clause-freed : goal.returns-clause-freed
returns-clause-freed c =
    let some : object_at c.args.self.now c.args.cell.0 ≡ Some (resident_object c.in-Some.resident.now) = found_some c.self.inside _ _ c.args.cell.0 _ c.in-Some.resident c.self.view_is c.deref.ensures.value c.in-Some.is c.resident_at.ensures in
    let words : c.object_words.result ≡ object_words (resident_object c.in-Some.resident.now) = c.object_words.ensures ∙ ap (λ len. packed_words len c.in-Some.resident.now.pack) (c.len.ensures ∙ c.in-Some.resident.now.elements.ok.0) in
    (emptied c.self.inside _ c.args.self.now c.args.cell.0 c.object_words.result (resident_object c.in-Some.resident.now) c.self.view_is c.self.invariant some words refl).0
    ∙ sym (freed_by-some c.args.self.now c.args.cell.0 (resident_object c.in-Some.resident.now) some ∙ ap (λ b. cond b c.args.self.now (without_object c.args.self.now c.args.cell.0 (resident_object c.in-Some.resident.now))) c.if-fixed.false)
