-- Each row of the table keeps the order, and leaves stacks on which no long is split.
use Rattle.std.proofs.Common.{◌≡◌, sym, ◌∙◌, ap, ℕ, true, Option, Some, None}
use Rattle.std.specs.Prelude.{IsSomeAnd}
use Rattle.fm_base.specs.declared.kinds.TypeRef.{TypeRef}
use Rattle.fm_code.specs.declared.instructions.Insn.{Insn}
use Rattle.fm_types.proofs.ArrayOrder.{array_load_row-under, array_store_row-under, length_row-under}
use Rattle.fm_types.proofs.CallOrder.{constructor_called-under}
use Rattle.fm_types.proofs.EachCheckRow.{each_check_row, Leaves, of_field, Row}
use Rattle.fm_types.proofs.NumberOrder.{increment_row-under, load_row-under, move_by-under, store_row-under}
use Rattle.fm_types.proofs.ObjectOrder.{new_row-under, takes_field-keeps}
use Rattle.fm_types.proofs.StateOrder.{IsUnder, pushed-under, under-fits, under-parts, under-refl, worked-under, worked_below-under}
use Rattle.fm_types.proofs.Zips.{Follows, follows-if}
use Rattle.fm_types.specs.Fits.{AreTree}
use Rattle.fm_types.specs.Named.{field_words}
use Rattle.fm_types.specs.ObjectRows.{takes_field}
use Rattle.fm_types.specs.Rows.{row_after}
use Rattle.fm_types.specs.States.{is_whole, state_fits, TypeState}
use Rattle.fm_world.specs.Programs.{Outline}
use Rattle.fm_world.specs.declared.uses.Use.{Use}

-- what is given under a state is under what is given at the other
abbrev Keeps : Outline → ℕ → Row → Type 0
Keeps o n row = (item : ℕ) (news : ℕ → Option TypeRef) (s t : TypeState) → IsUnder o s t → Follows (IsUnder o) (row item news s) (row item news t)

-- each sort of step keeps the order
steps-keep : (o : Outline) → AreTree o.classes → (method : ℕ) (u : Use) (i : Insn) → Leaves o method u i (Keeps o)
steps-keep o tree method u i = record {
  more = λ m n row less keeps. keeps;
  none = λ item news s t h. tt;
  kept = λ item news s t h. h;
  built = λ item news s t h. follows-if (IsUnder o) s.built t.built (Some s) (Some t) h.built (λ e. h);
  pushes = λ given words item news s t h. pushed-under o tree given s t words.whole h;
  works = λ wanted given first second item news s t h. worked-under o tree wanted given s t first.whole second.whole h;
  moves = λ m within item news s t h. move_by-under o (Some m) s t h;
  loads = λ r k is item news s t h. load_row-under o tree r k s t h;
  stores = λ r k is item news s t h. store_row-under o tree r k s t h;
  increments = λ k by is item news s t h. increment_row-under o k s t h;
  loads_element = λ e item news s t h. array_load_row-under o tree e s t h;
  stores_element = λ e item news s t h. array_store_row-under o tree e s t h;
  has_length = λ item news s t h. length_row-under o tree s t h;
  puts_field = λ field named item news s t h. worked_below-under o tree (field_words o field) (takes_field o method field named) s t
      (of_field o field).whole (takes_field-keeps o tree method field named) h;
  makes = λ index is item news s t h. new_row-under o tree item u s t h;
  constructs = λ index m named is item news s t h. constructor_called-under o tree method news m named s t h;
}

pub row_after-under : (o : Outline) → AreTree o.classes → (method item : ℕ) (news : ℕ → Option TypeRef) (u : Use) (i : Insn) (s t : TypeState)
    → IsUnder o s t
    → Follows (IsUnder o) (row_after o method item news u i s) (row_after o method item news u i t)
row_after-under o tree method item news u i s t h = each_check_row o method u i (Keeps o) (steps-keep o tree method u i) item news s t h

-- ---- the laws

pub rows-keep_order : (o : Outline) → AreTree o.classes → (method item : ℕ) (news : ℕ → Option TypeRef) (u : Use) (i : Insn) (s t after : TypeState)
    → is_whole s.stack ≡ true → is_whole t.stack ≡ true → state_fits o s t ≡ true → row_after o method item news u i t ≡ Some after
    → IsSomeAnd (row_after o method item news u i s) (λ given. state_fits o given after ≡ true)
rows-keep_order o tree method item news u i s t after first second fitting gives =
    by_given (row_after o method item news u i s) (row_after o method item news u i t) gives
    (row_after-under o tree method item news u i s t (under-parts o s t fitting first second)) where
      by_given : (x y : Option TypeState) → y ≡ Some after → Follows (IsUnder o) x y → IsSomeAnd x (λ given. state_fits o given after ≡ true)
      by_given None None e h = cc
      by_given (Some a) None e h = cc
      by_given None (Some b) e h = absurd h
      by_given (Some a) (Some b) e h = let same : b ≡ after = cc in ap (state_fits o a) (sym same) ∙ under-fits o a b h

pub rows-keep_whole : (o : Outline) → AreTree o.classes → (method item : ℕ) (news : ℕ → Option TypeRef) (u : Use) (i : Insn) (s after : TypeState)
    → is_whole s.stack ≡ true → row_after o method item news u i s ≡ Some after → is_whole after.stack ≡ true
rows-keep_whole o tree method item news u i s after whole gives =
    by_given (row_after o method item news u i s) gives
    (row_after-under o tree method item news u i s s (under-refl o tree s whole)) where
      by_given : (x : Option TypeState) → x ≡ Some after → Follows (IsUnder o) x x → is_whole after.stack ≡ true
      by_given None e h = cc
      by_given (Some b) e h = let same : b ≡ after = cc in ap (λ (s : TypeState). is_whole s.stack) (sym same) ∙ h.stack.whole
