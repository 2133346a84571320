-- Cells that fit a slot fit whatever this slot fits, and go on fitting it where objects stay.
use Rattle.std.proofs.Common.{◌≡◌, ℕ, ◌-◌, true, List, [], ◌∷◌, length, drop, Option, subst, inl, inr, arith}
use Rattle.std.specs.List.{AllZip}
use Rattle.std.proofs.lemmas.Bool.{false≢true}
use Rattle.std.proofs.lemmas.Bool.Decides.{nat_tests}
use Rattle.std.proofs.lemmas.List.Elements.{length_all_zip}
use Rattle.fm_base.specs.declared.kinds.TypeRef.{TypeRef}
use Rattle.fm_cells.specs.Stores.{Store}
use Rattle.fm_types.specs.Fits.{AreTree, fits, fits_type}
use Rattle.fm_types.specs.States.{is_whole, state_fits, TypeState}
use Rattle.fm_types.specs.declared.slots.Slot.{Slot}
use Rattle.fm_types.specs.declared.slots.Slot.TheVariants as slot
use Rattle.fm_types.proofs.Order.{type-trans}
use Rattle.fm_types.proofs.StateOrder.{Fitting, IsUnder, Stands, under-parts}
use Rattle.fm_types.proofs.Zips.{zip-drop}
use Rattle.fm_world.specs.Programs.{Outline}
use Rattle.fm_frames.specs.Acts.{cell_of}
use Rattle.fm_frames.specs.Sights.{type_numbered}
use Rattle.fm_frames.specs.declared.values.Value.{Value}
use Rattle.fm_law_sound.proofs.KindLemmas.{kind_along, local_along}
use Rattle.fm_law_no_fault.specs.Whole.{CellFits, FrameFits, LeadsToA, LocalFits, lowest, WordFits}

-- ---- lists

-- what is related to the first of two related ones is related to the second
pub zip_along : {A B : Type 0} (R : A → A → Type 0) (P Q : A → B → Type 0) → ((a b : A) (v : B) → R a b → P a v → Q b v)
    → (xs ys : List A) (words : List B) → AllZip R xs ys → AllZip P xs words → AllZip Q ys words
zip_along R P Q each [] [] [] level h = tt
zip_along R P Q each [] [] (v ∷ words) level h = absurd h
zip_along R P Q each [] (y ∷ ys) words level h = absurd level
zip_along R P Q each (x ∷ xs) [] words level h = absurd level
zip_along R P Q each (x ∷ xs) (y ∷ ys) [] level h = absurd h
zip_along R P Q each (x ∷ xs) (y ∷ ys) (v ∷ words) level h = (each x y v level.0 h.0, zip_along R P Q each xs ys words level.1 h.1)

-- ---- along the order of slots

module _ (o : Outline) (tree : AreTree o.classes) (store : Store) (own : ℕ) (news : ℕ → Option TypeRef) where
  pub leads_along : (a b : TypeRef) (cell : ℕ) → fits_type o.classes a b ≡ true → LeadsToA o store (λ u. fits_type o.classes u a) cell
      → LeadsToA o store (λ u. fits_type o.classes u b) cell
  leads_along a b cell f (inl e) = inl e
  leads_along a b cell f (inr h) = inr (record {
    object = h.object;
    held = h.held;
    passes = type-trans o.classes tree (type_numbered o h.object.class) a b h.passes f;
  })

  pub cell_along : (a b : Slot) (cell : ℕ) → fits o a b ≡ true → CellFits o store own news a cell → CellFits o store own news b cell
  unfolding fits
  cell_along a slot.Top cell f h = tt
  cell_along slot.Int slot.Int cell f h = tt
  cell_along slot.Long slot.Long cell f h = tt
  cell_along slot.Null slot.Null cell f h = h
  cell_along slot.Null (slot.Ref t) cell f h = inl h
  cell_along (slot.Ref a) (slot.Ref b) cell f h = leads_along a b cell f h
  cell_along (slot.Uninit item) (slot.Uninit other) cell f h =
      let same : item ≡ other = grind (arith, nat_tests, f) in subst (λ i. CellFits o store own news (slot.Uninit i) cell) same h
  cell_along slot.UninitThis slot.UninitThis cell f h = h
  cell_along a b cell f h = absurd (false≢true f)

  word_along : (a b : Slot) (v : Value) → Stands o a b → WordFits o store own news a v → WordFits o store own news b v
  word_along a b v stands h = record {
    kind = kind_along o a b v stands.fitting stands.shape h.kind;
    cell = cell_along a b (cell_of v) stands.fitting h.cell;
  }

  in_local_along : (a b : Slot) (v : Value) → Fitting o a b → LocalFits o store own news a v → LocalFits o store own news b v
  in_local_along a b v f h = record { kind = local_along o a b v f h.kind; cell = cell_along a b (cell_of v) f h.cell }

  lowest_along : (n : ℕ) (xs ys : List Slot) → AllZip (Stands o) xs ys → AllZip (Stands o) (lowest n xs) (lowest n ys)
  lowest_along n xs ys level =
      subst (λ k. AllZip (Stands o) (lowest n xs) (drop (k - n) ys)) (length_all_zip (Stands o) xs ys level)
      (zip-drop (Stands o) (length xs - n) xs ys level)

  pub frame_along : (s other : TypeState) → is_whole s.stack ≡ true → is_whole other.stack ≡ true → state_fits o s other ≡ true
      → (locals stack : List Value) → FrameFits o store own news s locals stack → FrameFits o store own news other locals stack
  frame_along s other whole other_whole fitting locals stack h =
      let under : IsUnder o s other = under-parts o s other fitting whole other_whole in
      record {
        in_locals =
            zip_along (Fitting o) (LocalFits o store own news) (LocalFits o store own news) in_local_along s.locals other.locals locals under.locals h.in_locals;
        in_stack =
            zip_along (Stands o) (WordFits o store own news) (WordFits o store own news) word_along (lowest (length stack) s.stack)
            (lowest (length stack) other.stack) stack (lowest_along (length stack) s.stack other.stack under.stack.level) h.in_stack;
      }
