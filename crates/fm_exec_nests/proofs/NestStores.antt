-- What the making of an array, and a put into one, leave of the store.
use Rattle.std.proofs.Common.{◌≡◌, ◌⊎◌, inl, inr, ℕ, ◌+◌, ◌<◌, ◌==◌, false, cond, if◌then◌else◌, [], Option, Some, None, refl, ap, sym, ◌∙◌, subst, arith}
use Rattle.std.proofs.lemmas.Bool.{cases_eq, eq-eqb, ne_eqb}
use Rattle.fm_base.specs.declared.kinds.Kind.{Kind}
use Rattle.fm_base.specs.declared.kinds.TypeRef.{TypeRef}
use Rattle.fm_cells.proofs.Changes.{births-made_by, live_words-made_by, object_at-made_by, object_at-with_object}
use Rattle.fm_cells.proofs.StoreLaws.{live_words-put_by}
use Rattle.fm_cells.specs.Changes.{put_by, with_element}
use Rattle.fm_cells.specs.Objects.{new_object, Object, Request, request_words}
use Rattle.fm_cells.specs.Stores.{live_words, object_at, Store}
use Rattle.fm_cells.specs.declared.answers.Cell.{Cell}
use Rattle.fm_frames.proofs.OpeningArguments.{wide-put}
use Rattle.fm_frames.proofs.OpeningSteps.{put_kept}
use Rattle.fm_frames.proofs.TextSteps.{wide-after}
use Rattle.fm_frames.specs.Acts.{Choose, put_value, requested}
use Rattle.fm_frames.specs.Elements.{is_text_type, kept, pack_of, pack_of_base}
use Rattle.fm_frames.specs.States.{ref, State}
use Rattle.fm_frames.specs.declared.values.Value.{Value}
use Rattle.fm_frames.specs.inner.Doings.{Makes}
use Rattle.fm_frames.specs.inner.Places.{IsWide}
use Rattle.fm_exec_nests.specs.inner.Nests.{Grows}
use Rattle.fm_world.specs.Programs.{Outline}
use Rattle.fm_law_sound.proofs.NestedArrays.{array_is_no_text}
use Rattle.fm_frames.proofs.Contents.{put_in}

pub grows-then : (x y z : Store) (a b m n : ℕ) → Grows x y a m → Grows y z b n → Grows x z (a + b) (m + n)
grows-then x y z a b m n first second =
    let births = first.births in
    let more_births = second.births in
    let live = first.live in
    let more_live = second.live in
    record {
      births = omega (arith, births, more_births);
      live = omega (arith, live, more_live);
      budget = second.budget ∙ first.budget;
      wide = λ cell h. second.wide cell (first.wide cell h);
    }

pub grows-made : (choose : Choose) (y z : State) (r : Request) (array : Cell) → Makes choose y z r [] (Some array)
    → Grows y.areas.store z.areas.store 1 (request_words r)
grows-made choose y z r array (grows, taken, free, is) = record {
  births = ap (λ (z : State). z.areas.store.births) is ∙ births-made_by y.areas.store r array.0 grows;
  live = ap (λ (z : State). live_words z.areas.store) is ∙ live_words-made_by y.areas.store r array.0 grows free;
  budget = ap (λ (z : State). z.areas.store.budget) is;
  wide = λ cell wide. wide-after choose y z r [] array cell wide (grows, taken, free, is);
}

-- and so do the objects of other cells
other-put : (store : Store) (array place element cell : ℕ) → (cell == array) ≡ false → object_at (put_by store array place element) cell ≡ object_at store cell
other-put store array place element cell apart = by_object (object_at store array) where
  by_object : (object : Option Object) → object_at (put_in store array place element object) cell ≡ object_at store cell
  by_object None = refl
  by_object (Some object) =
      object_at-with_object store array (with_element object place element) cell
      ∙ ap (λ b. cond b (Some (with_element object place element)) (object_at store cell)) apart

wide-kept : (store : Store) (array place element cell : ℕ) → IsWide store cell → IsWide (put_by store array place element) cell
wide-kept store array place element cell wide = by_cell (cases_eq cell array) where
  by_cell : (cell ≡ array) ⊎ (cell ≡ array → ⊥) → IsWide (put_by store array place element) cell
  by_cell (inl same) = subst (λ other. IsWide (put_by store other place element) cell) same (wide-put store cell place element wide)
  by_cell (inr other) =
      let (object, held, pack) = wide in
      (object, other-put store array place element cell (ne_eqb cell array other) ∙ held, pack)

pub grows-put : (y z : State) (array place : ℕ) (k : Kind) (v : Value) → z ≡ record y { areas = put_value y.areas (ref array) place k v }
    → Grows y.areas.store z.areas.store 0 0
grows-put y z array place k v is =
    let kept_so = put_kept y.areas.store array place (kept k v) in
    let births : z.areas.store.births ≡ y.areas.store.births = ap (λ (z : State). z.areas.store.births) is ∙ kept_so.0 in
    let live : live_words z.areas.store ≡ live_words y.areas.store = ap (λ (z : State). live_words z.areas.store) is ∙ live_words-put_by y.areas.store array place (kept k v) in
    record {
      births = omega (arith, births);
      live = omega (arith, live);
      budget = ap (λ (z : State). z.areas.store.budget) is ∙ kept_so.1;
      wide = λ cell wide. subst (λ (z : State). IsWide z.areas.store cell) (sym is) (wide-kept y.areas.store array place (kept k v) cell wide);
    }

-- an array of arrays has its elements in whole words
array-pack : (o : Outline) (t : TypeRef) → 1 < t.dims → pack_of o t ≡ 1
array-pack o t deep =
    ap (λ b. if b then pack_of_base t.base else (if is_text_type o t then 4 else 1)) (ne_eqb t.dims 1 (λ same. omega (arith, deep, same)))
    ∙ ap (λ b. if b then 4 else 1) (array_is_no_text o t (omega (arith, deep)))

pub array-wide : (o : Outline) (choose : Choose) (y z : State) (t : TypeRef) (len : ℕ) (array : Cell) → 1 < t.dims
    → Makes choose y z (requested o t len false) [] (Some array) → IsWide z.areas.store array.0
array-wide o choose y z t len array deep (grows, taken, free, is) =
    let r : Request = requested o t len false in
    let object : Object = new_object y.areas.store.births r in (
      object,
      ap (λ (z : State). object_at z.areas.store array.0) is ∙ object_at-made_by y.areas.store r array.0 grows array.0
          ∙ ap (λ b. cond b (Some object) (object_at y.areas.store array.0)) (eq-eqb array.0 array.0 refl),
      array-pack o t deep,
    )
