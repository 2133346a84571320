-- What is seen of a value on the one memory is seen of the same value on the other.
use Rattle.std.proofs.Common.{◌≡◌, ℕ, zero, suc, inl, inr, Bool, true, false, cond, List, [], ◌∷◌, Some, refl, sym, ◌∙◌, ap, subst, slice_index_or, ⊎_elim}
use Rattle.std.specs.List.{AllByRecursion, AllZip}
use Rattle.std.proofs.lemmas.Bool.{or_cases}
use Rattle.std.proofs.lemmas.Grind.{same_number_lists}
use Rattle.std.proofs.lemmas.Option.{same_Some}
use Rattle.fm_cells.specs.Objects.{Object}
use Rattle.fm_cells.specs.Soundness.{IsOrderly}
use Rattle.fm_cells.specs.Stores.{object_at, Store}
use Rattle.fm_world.specs.Chains.{same_type}
use Rattle.fm_world.specs.Programs.{Outline}
use Rattle.fm_frames.specs.Elements.{chars_type, is_text_type, shows_units}
use Rattle.fm_frames.specs.Sights.{has_hidden_field, inner_of, led_to, looks, NoField, sight, sight_of_cell, sight_of_object, sights, text_in, Text, Lost, Thing, type_numbered, units_of}
use Rattle.fm_frames.specs.declared.values.Value.{Value}
use Rattle.fm_frames.specs.declared.values.Value.TheVariants as value
use Rattle.fm_law_sound.proofs.ShownUnits.{chars_kind}
use Rattle.fm_law_two_memories.specs.Hidden.{HiddenComesFirst}
use Rattle.fm_law_two_memories.specs.Pairing.{AreAlike, ArePaired, AreTwins, Gone, HasTwin, SameCell, SameElement, SameFound, SameValue}
use Rattle.fm_law_two_memories.specs.Seeing.{IsSeen, IsThere}
use Rattle.fm_law_two_memories.proofs.Twins.{found_same, not_null, twin_there}

module _ (gone : Gone) (o : Outline) (one other : Store) (paired : ArePaired gone o one other) where
  -- twins are alike
  pub twins_alike : (a b : ℕ) (t : AreTwins one other a b) → AreAlike gone o one other t.object t.second
  twins_alike a b t =
      let found : HasTwin gone o one other t.object = paired.objects a t.object t.held (twin_there gone o one other paired a b t) in
      let cell : found.cell ≡ b =
      paired.other_orderly.births_apart found.cell b found.twin t.second found.held t.twin_held (found.alike.birth ∙ sym t.born) in
      let is : found.twin ≡ t.second = same_Some found.twin t.second (sym found.held ∙ ap (object_at other) cell ∙ t.twin_held) in
      subst (λ twin. AreAlike gone o one other t.object twin) is found.alike

  -- ---- what is seen of an object

  module _ (object second : Object) (alike : AreAlike gone o one other object second) where
    type_same : type_numbered o second.class ≡ type_numbered o object.class
    type_same = ap (type_numbered o) alike.class

    -- numbers are the same
    chars_alike : same_type chars_type (type_numbered o object.class) ≡ true → second.elements ≡ object.elements
    chars_alike same =
        same_number_lists second.elements object.elements alike.len
        (λ place within. subst (λ k. SameElement gone one other k (slice_index_or object.elements place 0) (slice_index_or second.elements place 0))
        (chars_kind o (type_numbered o object.class) place same) (alike.elements place))

    shown_alike : shows_units o (type_numbered o object.class) ≡ true → second.elements ≡ object.elements
    shown_alike shows = ⊎_elim alike.units chars_alike
        (or_cases (is_text_type o (type_numbered o object.class)) (same_type chars_type (type_numbered o object.class)) shows)

    units_by : (b : Bool) → shows_units o (type_numbered o object.class) ≡ b
        → cond (shows_units o (type_numbered o object.class)) second.elements [] ≡ cond (shows_units o (type_numbered o object.class)) object.elements []
    units_by true is = ap (λ xs. cond (shows_units o (type_numbered o object.class)) xs []) (shown_alike is)
    units_by false is = ap (λ b. cond b second.elements []) is ∙ sym (ap (λ b. cond b object.elements []) is)

    pub units_same : units_of o second ≡ units_of o object
    units_same = ap (λ t. cond (shows_units o t) second.elements []) type_same ∙ units_by (shows_units o (type_numbered o object.class)) refl

    text_by : (b : Bool) → is_text_type o (type_numbered o object.class) ≡ b
        → cond (is_text_type o (type_numbered o object.class)) (Text second.elements) Lost
        ≡ cond (is_text_type o (type_numbered o object.class)) (Text object.elements) Lost
    text_by true is = ap (λ xs. cond (is_text_type o (type_numbered o object.class)) (Text xs) Lost) (alike.units is)
    text_by false is = ap (λ b. cond b (Text second.elements) Lost) is ∙ sym (ap (λ b. cond b (Text object.elements) Lost) is)

    pub text_same : text_in o (Some second) ≡ text_in o (Some object)
    text_same = ap (λ t. cond (is_text_type o t) (Text second.elements) Lost) type_same ∙ text_by (is_text_type o (type_numbered o object.class)) refl

  led_held : (store : Store) (cell : ℕ) (object : Object) → IsOrderly store → object_at store cell ≡ Some object → led_to o store cell ≡ text_in o (Some object)
  led_held store zero object orderly held = absurd (not_null store zero object orderly held refl)
  led_held store (suc cell) object orderly held = ap (text_in o) held

  led_same : (a b : ℕ) → SameFound one other a b → led_to o other b ≡ led_to o one a
  led_same a b (inl null) = ap (led_to o other) null.1 ∙ sym (ap (led_to o one) null.0)
  led_same a b (inr t) =
      led_held other b t.second paired.other_orderly t.twin_held ∙ text_same t.object t.second (twins_alike a b t)
      ∙ sym (led_held one a t.object paired.orderly t.held)

  module _ (hidden : HiddenComesFirst o) where
    -- the text that the object has hidden isn't gone
    abbrev HidesFound : Object → Type 0
    HidesFound object = has_hidden_field o (type_numbered o object.class) ≡ true → IsThere gone one (slice_index_or object.elements 0 0)

    inner_same : (object second : Object) → AreAlike gone o one other object second → HidesFound object → inner_of o other second ≡ inner_of o one object
    inner_same object second alike there =
        ap (λ t. cond (has_hidden_field o t) (led_to o other (slice_index_or second.elements 0 0)) NoField) (type_same object second alike)
        ∙ by_test (has_hidden_field o (type_numbered o object.class)) refl where
          by_test : (b : Bool) → has_hidden_field o (type_numbered o object.class) ≡ b
              → cond (has_hidden_field o (type_numbered o object.class)) (led_to o other (slice_index_or second.elements 0 0)) NoField
              ≡ cond (has_hidden_field o (type_numbered o object.class)) (led_to o one (slice_index_or object.elements 0 0)) NoField
          by_test true is =
              let first = hidden (type_numbered o object.class) is in
              let same : SameCell gone one other (slice_index_or object.elements 0 0) (slice_index_or second.elements 0 0) =
              subst (λ k. SameElement gone one other k (slice_index_or object.elements 0 0) (slice_index_or second.elements 0 0)) first.1 (alike.elements 0) in
              ap (λ found. cond (has_hidden_field o (type_numbered o object.class)) found NoField) (led_same _ _ (found_same gone one other _ _ (there is) same))
          by_test false is =
              ap (λ b. cond b (led_to o other (slice_index_or second.elements 0 0)) NoField) is
              ∙ sym (ap (λ b. cond b (led_to o one (slice_index_or object.elements 0 0)) NoField) is)

    pub looks_same : (object second : Object) → AreAlike gone o one other object second → HidesFound object → looks o other second ≡ looks o one object
    unfolding looks
    looks_same object second alike there = λ i. record {
      type = type_same object second alike i;
      birth = alike.birth i;
      len = alike.len i;
      fixed = alike.fixed i;
      units = units_same object second alike i;
      inner = inner_same object second alike there i;
    }

    -- ---- what is seen of a value

    seen_held : (store : Store) (cell : ℕ) (object : Object) → IsOrderly store → object_at store cell ≡ Some object
        → sight_of_cell o store cell ≡ Thing (looks o store object)
    seen_held store zero object orderly held = absurd (not_null store zero object orderly held refl)
    seen_held store (suc cell) object orderly held = ap (sight_of_object o store) held

    cell_seen_same : (a b : ℕ) → SameFound one other a b → ((object : Object) → object_at one a ≡ Some object → HidesFound object)
        → sight_of_cell o other b ≡ sight_of_cell o one a
    cell_seen_same a b (inl null) there = ap (sight_of_cell o other) null.1 ∙ sym (ap (sight_of_cell o one) null.0)
    cell_seen_same a b (inr t) there =
        seen_held other b t.second paired.other_orderly t.twin_held
        ∙ ap (λ it. Thing it) (looks_same t.object t.second (twins_alike a b t) (there t.object t.held))
        ∙ sym (seen_held one a t.object paired.orderly t.held)

    pub sight_same : (v w : Value) → SameValue gone one other v w → IsSeen gone o one v → sight o other w ≡ sight o one v
    sight_same value.Top w h seen = ap (sight o other) h
    sight_same (value.Int n) w h seen = ap (sight o other) h
    sight_same (value.Long n) w h seen = ap (sight o other) h
    sight_same (value.Ref cell) w h seen =
        ap (sight o other) h.1 ∙ cell_seen_same cell.0 h.0 (found_same gone one other cell.0 h.0 seen.word h.2) seen.hidden

    pub sights_same : (vs ws : List Value) → AllZip (SameValue gone one other) vs ws → AllByRecursion (IsSeen gone o one) vs
        → sights o other ws ≡ sights o one vs
    sights_same [] [] h seen = refl
    sights_same [] (w ∷ ws) h seen = absurd h
    sights_same (v ∷ vs) [] h seen = absurd h
    sights_same (v ∷ vs) (w ∷ ws) h seen =
        ap (λ s. s ∷ sights o other ws) (sight_same v w h.0 seen.0) ∙ ap (λ all. sight o one v ∷ all) (sights_same vs ws h.1 seen.1)
