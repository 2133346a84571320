-- An object that is made with its content in both stores leaves them paired, and corresponds to the
-- other one.
use Rattle.std.proofs.Common.{◌≡◌, ℕ, Bool, true, List, [], ◌∷◌, length, Some, refl, sym, ◌∙◌, ap, subst, slice_index_or, arith}
use Rattle.std.proofs.lemmas.List.{length-replicate}
use Rattle.fm_base.specs.declared.kinds.TypeRef.{TypeRef}
use Rattle.fm_cells.specs.Changes.{made_by, Take, with_object}
use Rattle.fm_cells.specs.Choices.{MayReuse}
use Rattle.fm_cells.specs.Objects.{new_object, Object, Request}
use Rattle.fm_cells.specs.Sizes.{packed_words}
use Rattle.fm_cells.specs.Stores.{object_at, Store}
use Rattle.fm_world.specs.Programs.{kind_at, Outline}
use Rattle.fm_frames.specs.Acts.{with_content}
use Rattle.fm_frames.specs.Elements.{is_text_type}
use Rattle.fm_frames.specs.Sights.{type_numbered}
use Rattle.fm_law_sound.proofs.ActsKeep.{content_in, new_held}
use Rattle.fm_law_sound.specs.Acting.{ContentFits}
use Rattle.fm_law_two_memories.specs.Laws.{KeepsBirths, MadeAlike}
use Rattle.fm_law_two_memories.specs.Pairing.{AreAlike, ArePaired, Gone, SameElement, SameFound}
use Rattle.fm_law_two_memories.proofs.Stores.{changed_paired, element_later, found_later, made_paired, made_stays, new_twins, with_stays}

pub stays_then : (store middle later : Store) → KeepsBirths store middle → KeepsBirths middle later → KeepsBirths store later
stays_then store middle later first second cell object held =
    let now = first cell object held in
    let then_ = second cell now.0 now.1 in (then_.0, then_.1, then_.2 ∙ now.2)

-- what two objects of a type are made with, of this many elements, is alike
pub record SameContent (gone : Gone) (o : Outline) (one other : Store) (t : TypeRef) (len : ℕ) (content theirs : List ℕ) : Type 0 where
  pub all : length content ≡ len
  pub other_all : length theirs ≡ len
  pub units : is_text_type o t ≡ true → theirs ≡ content
  pub elements : (place : ℕ) → SameElement gone one other (kind_at o.classes t place) (slice_index_or content place 0) (slice_index_or theirs place 0)

module _ (gone : Gone) (o : Outline) (one other : Store) (paired : ArePaired gone o one other) (request : Request) (cell twin : ℕ) (grows other_grows : Bool) (may : MayReuse one request (Take cell grows)) (other_may : MayReuse other request (Take twin other_grows)) (t : TypeRef) (type_is : type_numbered o request.class ≡ t) where
  abbrev middle : Store
  middle = made_by one request (Take cell grows)

  abbrev other_middle : Store
  other_middle = made_by other request (Take twin other_grows)

  made : ArePaired gone o middle other_middle
  made = made_paired gone o one other paired request cell twin grows other_grows may other_may

  twins : SameFound middle other_middle cell twin
  twins = new_twins gone o one other paired request cell twin grows other_grows may other_may

  bare_alike : MadeAlike gone o one other middle other_middle cell twin
  bare_alike = record {
    paired = made;
    stays = made_stays one request cell grows may.1;
    other_stays = made_stays other request twin other_grows other_may.1;
    twins = twins;
  }

  pub filled_alike : (content theirs : List ℕ) → SameContent gone o one other t request.len content theirs
      → MadeAlike gone o one other (with_content middle cell content) (with_content other_middle twin theirs) cell twin
  filled_alike [] [] h = bare_alike
  filled_alike [] (own ∷ owns) h = absurd (omega (arith, h.all, h.other_all))
  filled_alike (unit ∷ units) [] h = absurd (omega (arith, h.all, h.other_all))
  filled_alike (unit ∷ units) (own ∷ owns) h =
      let first : Object = new_object one.births request in
      let second : Object = new_object other.births request in
      let now : Object = record first { elements = unit ∷ units } in
      let second_now : Object = record second { elements = own ∷ owns } in
      let there : object_at middle cell ≡ Some first = new_held one request cell grows in
      let second_there : object_at other_middle twin ≡ Some second = new_held other request twin other_grows in
      let words = ap (λ n. packed_words n request.pack) (h.all ∙ sym (length-replicate request.len 0)) in
      let second_words = ap (λ n. packed_words n request.pack) (h.other_all ∙ sym (length-replicate request.len 0)) in
      let still : KeepsBirths one middle = made_stays one request cell grows may.1 in
      let other_still : KeepsBirths other other_middle = made_stays other request twin other_grows other_may.1 in
      let alike : AreAlike gone o middle other_middle now second_now = record {
        class = refl;
        birth = paired.births;
        pack = refl;
        fixed = refl;
        len = h.other_all ∙ sym h.all;
        units = λ is. h.units (ap (is_text_type o) (sym type_is) ∙ is);
        elements = λ place.
            subst (λ k. SameElement gone middle other_middle k (slice_index_or (unit ∷ units) place 0) (slice_index_or (own ∷ owns) place 0))
            (ap (λ u. kind_at o.classes u place) (sym type_is))
            (element_later gone one other middle other_middle still other_still (kind_at o.classes t place) _ _ (h.elements place));
      } in
      let next : Store = with_object middle cell now in
      let following : Store = with_object other_middle twin second_now in
      let stays : KeepsBirths middle next = with_stays middle cell first now there refl in
      let other_stays : KeepsBirths other_middle following = with_stays other_middle twin second second_now second_there refl in
      subst (λ s. MadeAlike gone o one other s (with_content other_middle twin (own ∷ owns)) cell twin) (sym (ap (content_in middle cell unit units) there))
      (subst (λ s. MadeAlike gone o one other next s cell twin) (sym (ap (content_in other_middle twin own owns) second_there))
      (record {
        paired = changed_paired gone o middle other_middle made cell twin first second there second_there paired.births now second_now alike refl words second_words;
        stays = stays_then one middle next still stays;
        other_stays = stays_then other other_middle following other_still other_stays;
        twins = found_later gone middle other_middle next following stays other_stays cell twin twins;
      }))

  pub made_alike : (content : List ℕ) → ContentFits o t request.len content
      → MadeAlike gone o one other (with_content middle cell content) (with_content other_middle twin content) cell twin
  made_alike [] fits = bare_alike
  made_alike (unit ∷ units) fits =
      filled_alike (unit ∷ units) (unit ∷ units) (record {
        all = fits.0;
        other_all = fits.0;
        units = λ is. refl;
        elements = λ place.
            subst (λ k. SameElement gone one other k (slice_index_or (unit ∷ units) place 0) (slice_index_or (unit ∷ units) place 0)) (sym (fits.2 place)) refl;
      })
