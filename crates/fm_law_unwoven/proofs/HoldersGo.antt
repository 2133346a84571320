-- The holders of a frame at the next old item, once all that is inserted before it is done.
use Rattle.std.proofs.Common.{◌≡◌, ◌≢◌, ℕ, ◌+◌, ◌<◌, ◌⊎◌, inl, inr, Bool, true, false, List, [], ◌∷◌, ◌++◌, length, map, Some, Contains, refl, sym, ap, subst, ◌∙◌, arith}
use Rattle.std.specs.Prelude.{nat_eq, slice_get, slice_set}
use Rattle.std.specs.List.{range_with_len}
use Rattle.std.proofs.lemmas.Bool.{cases_eq, eqb-true}
use Rattle.std.proofs.lemmas.Option.{same_Some, slice_get_within}
use Rattle.fm_chain.specs.Chained.{looped_at}
use Rattle.fm_code.specs.Edges.{IsEdge}
use Rattle.fm_code.proofs.EdgesLemmas.{Contains-from_map}
use Rattle.fm_conn.proofs.ListLemmas.{Contains-from_range, Contains-range}
use Rattle.fm_conn.specs.Facts.{Facts}
use Rattle.fm_conn.specs.Nodes.{TypedMethod}
use Rattle.fm_frames.specs.Acts.{cell_of}
use Rattle.fm_frames.specs.States.{Areas, Frame, null, word_at}
use Rattle.fm_frames.specs.declared.values.Value.{Value}
use Rattle.fm_law_sound.specs.Sound.{IsReference}
use Rattle.fm_law_unwoven.proofs.TodoLocals.{after_both, freed_after, frees_same, holder_of, keeper_is, length_after, null_after, other_after, puts_kept, puts_null, PutsReference, references_after}
use Rattle.fm_law_unwoven.proofs.TodoAreas.{may_both, may_free, may_keep, may_start}
use Rattle.fm_law_unwoven.specs.Doing.{all_areas_after, all_locals_after, joins_in, MayDoAll}
use Rattle.fm_law_unwoven.specs.Kept.{HoldersStand}
use Rattle.fm_law_unwoven.specs.Laid.{frees_at, keeps_at, starts_of, to_free, to_keep, Todo, ToFree, ToStart}
use Rattle.fm_place.proofs.FullLemmas.{numbers-found}
use Rattle.fm_place.specs.Insertions.{after_at, before_at, Holder, Insertions}
use Rattle.fm_place.specs.Places.{is_busy, MayHold}
use Rattle.fm_place.specs.Safe.{IsSafeAt}
use Rattle.fm_place.specs.Woven.{local_of}
use Rattle.fm_place.proofs.HoldingLemmas.{path-more}

-- ---- what a holder may hold

module _ (facts : Facts) (x : TypedMethod) (plan : Insertions) where
  -- a holder is null, or may hold something
  abbrev pub MayStand : List Value → ℕ → Type 0
  MayStand locals j =
      (h : ℕ) (holder : Holder) → slice_get plan.holders h ≡ Some holder
      → (word_at locals (local_of x.code h) ≡ null) ⊎ MayHold facts x holder.site holder.class j

  abbrev pub IsWide : List Value → Type 0
  IsWide locals = length locals ≡ x.code.max_locals + length plan.holders

  abbrev pub AreReferences : List Value → Type 0
  AreReferences locals = (h : ℕ) → h < length plan.holders → IsReference (word_at locals (local_of x.code h))

  -- along an edge
  pub goes_along : (g : Frame) (j next : ℕ) → HoldersStand facts x plan g j → IsEdge x.code j next → MayStand g.locals next
  goes_along g j next stand edge h holder is = by_word (stand.may h holder is) where
    by_word : (word_at g.locals (local_of x.code h) ≡ null) ⊎ ((is_busy facts x holder.class j ≡ true) × MayHold facts x holder.site holder.class j)
        → (word_at g.locals (local_of x.code h) ≡ null) ⊎ MayHold facts x holder.site holder.class next
    by_word (inl none) = inl none
    by_word (inr (busy, (path, leads))) = inr (path ++ next ∷ [], path-more facts x holder.class path (holder.site + 1) j next leads busy edge)

  -- ---- before an item

  module _ (stack : List Value) (locals : List Value) (wide : IsWide locals) (references : AreReferences locals) where
    inside : (h : ℕ) → h < length plan.holders → local_of x.code h < length locals
    inside h few = omega (arith, wide, few)

    -- where holders are freed before an item, each one is null, or its class is busy there
    pub frees_stand : (j item : ℕ) (method : ℕ) → IsSafeAt facts x plan j → MayStand locals j
        → HoldersStand facts x plan (record { method = method; item = item; locals = all_locals_after x.code stack (frees_at plan j) locals; stack = stack }) j
    frees_stand j item method safe may = record {
      width = length_after x.code stack (frees_at plan j) locals ∙ wide;
      references = references_after x.code stack (length plan.holders) (frees_at plan j) locals gives (omega (arith, wide)) references;
      may = λ h holder is. by_busy h holder is (is_busy facts x holder.class j) refl (may h holder is);
    } where
      gives : (t : Todo) → Contains (frees_at plan j) t → PutsReference x.code stack (length plan.holders) t
      gives t found =
          let there = Contains-from_map (λ h. to_free (looped_at plan h) h) (before_at plan j) t found in
          subst (PutsReference x.code stack (length plan.holders)) there.2
          (puts_null x.code stack (length plan.holders) (looped_at plan there.0) there.0)

      -- a word is null once holders are freed one by one, with their chains or without
      same_freed : (h : ℕ) → word_at (all_locals_after x.code stack (map ToFree (before_at plan j)) locals) (local_of x.code h) ≡ null
          → word_at (all_locals_after x.code stack (frees_at plan j) locals) (local_of x.code h) ≡ null
      same_freed h is = ap (λ ls. word_at ls (local_of x.code h)) (frees_same x.code stack (looped_at plan) (before_at plan j) locals) ∙ is

      by_busy : (h : ℕ) (holder : Holder) → slice_get plan.holders h ≡ Some holder → (b : Bool) → is_busy facts x holder.class j ≡ b
          → (word_at locals (local_of x.code h) ≡ null) ⊎ MayHold facts x holder.site holder.class j
          → (word_at (all_locals_after x.code stack (frees_at plan j) locals) (local_of x.code h) ≡ null)
          ⊎ ((is_busy facts x holder.class j ≡ true) × MayHold facts x holder.site holder.class j)
      by_busy h holder is b at (inl none) =
          inl (same_freed h (null_after x.code stack h (before_at plan j) locals (inside h (slice_get_within plan.holders h holder is)) none))
      by_busy h holder is true at (inr held) = inr (at, held)
      by_busy h holder is false at (inr held) =
          inl (same_freed h
          (freed_after x.code stack h (before_at plan j) locals (inside h (slice_get_within plan.holders h holder is)) (safe.must h holder is at held)))

    -- and they may be freed
    pub may_frees : (areas : Areas) (j : ℕ) → IsSafeAt facts x plan j → MayDoAll x.code areas stack locals (frees_at plan j)
    may_frees areas j safe =
        may_free x.code stack (looped_at plan) (length plan.holders) (before_at plan j) areas locals (omega (arith, wide)) references
        (λ h among. let may = safe.may h among in slice_get_within plan.holders h may.holder may.is)

  -- ---- behind an item

  module _ (stack : List Value) (locals : List Value) (wide : IsWide locals) (references : AreReferences locals) (j : ℕ)
      (gives : (h : ℕ) → Contains (after_at plan j) h → (0 < length stack) × IsReference (word_at stack 0)) (joins : Bool) where
    abbrev kept : List Value
    kept = all_locals_after x.code stack (keeps_at plan joins j) locals

    kept_wide : IsWide kept
    kept_wide = length_after x.code stack (keeps_at plan joins j) locals ∙ wide

    -- a holder that keeps something is one of the plan
    among_holders : (h : ℕ) → Contains (after_at plan j) h → h < length plan.holders
    among_holders h among =
        let listed = numbers-found (λ o. nat_eq o.site j) 0 plan.holders h among in
        let within = slice_get_within plan.holders listed.place listed.holder listed.there in
        let place = listed.number in
        omega (arith, within, place)

    kept_references : AreReferences kept
    kept_references = references_after x.code stack (length plan.holders) (keeps_at plan joins j) locals each (omega (arith, wide)) references where
      each : (t : Todo) → Contains (keeps_at plan joins j) t → PutsReference x.code stack (length plan.holders) t
      each t found =
          let there = Contains-from_map (λ h. to_keep (looped_at plan h) joins h) (after_at plan j) t found in
          subst (PutsReference x.code stack (length plan.holders)) there.2
          (puts_kept x.code stack (length plan.holders) (looped_at plan there.0) joins there.0 (gives there.0 there.1).1 (among_holders there.0 there.1))

    -- a holder of another item isn't among those that keep something
    apart : (h : ℕ) (holder : Holder) → slice_get plan.holders h ≡ Some holder → holder.site ≢ j → (t : Todo) → Contains (keeps_at plan joins j) t
        → holder_of t ≢ h
    apart h holder is other t found same =
        let there = Contains-from_map (λ h. to_keep (looped_at plan h) joins h) (after_at plan j) t found in
        let listed = numbers-found (λ o. nat_eq o.site j) 0 plan.holders there.0 there.1 in
        let number : there.0 ≡ h = sym (keeper_is (looped_at plan there.0) joins there.0) ∙ ap holder_of there.2 ∙ same in
        let place = listed.number in
        let here : listed.place ≡ h = omega (arith, place, number) in
        let one : listed.holder ≡ holder = same_Some _ _ (sym listed.there ∙ ap (slice_get plan.holders) here ∙ is) in
        other (ap (λ (o : Holder). o.site) (sym one) ∙ eqb-true listed.holder.site j listed.passes)

    -- the holders of item j keep what it gave, which they may hold from there on
    kept_may : MayStand locals (j + 1) → MayStand kept (j + 1)
    kept_may may h holder is = by_site (cases_eq holder.site j) where
      by_site : (holder.site ≡ j) ⊎ (holder.site ≢ j) → (word_at kept (local_of x.code h) ≡ null) ⊎ MayHold facts x holder.site holder.class (j + 1)
      by_site (inl same) = inr ([], ap (λ n. n + 1) same)
      by_site (inr other) =
          subst (λ v. (v ≡ null) ⊎ MayHold facts x holder.site holder.class (j + 1))
          (sym (other_after x.code stack h (keeps_at plan joins j) locals (apart h holder is other))) (may h holder is)

    pub behind_stand : (item : ℕ) (method : ℕ) → IsSafeAt facts x plan (j + 1) → MayStand locals (j + 1)
        → HoldersStand facts x plan
        (record { method = method; item = item; locals = all_locals_after x.code stack (keeps_at plan joins j ++ frees_at plan (j + 1)) locals; stack = stack }) (j + 1)
    behind_stand item method safe may =
        subst (λ ls. HoldersStand facts x plan (record { method = method; item = item; locals = ls; stack = stack }) (j + 1))
        (sym (after_both x.code stack (keeps_at plan joins j) (frees_at plan (j + 1)) locals))
        (frees_stand stack kept kept_wide kept_references (j + 1) item method safe (kept_may may))

    pub may_behind : (areas : Areas) → joins ≡ joins_in areas.store (cell_of (word_at stack 0)) → IsSafeAt facts x plan (j + 1)
        → MayDoAll x.code areas stack locals (keeps_at plan joins j ++ frees_at plan (j + 1))
    may_behind areas is safe =
        may_both x.code stack (keeps_at plan joins j) (frees_at plan (j + 1)) areas locals
        (may_keep x.code stack (looped_at plan) (length plan.holders) joins (after_at plan j) areas locals each (omega (arith, wide)) references is)
        (may_frees stack kept kept_wide kept_references (all_areas_after x.code stack (keeps_at plan joins j) locals areas) (j + 1) safe) where
          each : (h : ℕ) → Contains (after_at plan j) h → (0 < length stack) × IsReference (word_at stack 0) × (h < length plan.holders)
          each h among = let here = gives h among in (here.0, here.1, among_holders h among)

  -- ---- at the start

  starts_as_frees : (stack : List Value) (hs : List ℕ) (locals : List Value)
      → all_locals_after x.code stack (map ToStart hs) locals ≡ all_locals_after x.code stack (map ToFree hs) locals
  starts_as_frees stack [] locals = refl
  starts_as_frees stack (h ∷ hs) locals = starts_as_frees stack hs (slice_set locals (local_of x.code h) null)

  module _ (stack : List Value) (locals : List Value) (wide : IsWide locals) where
    abbrev started : List Value
    started = all_locals_after x.code stack (starts_of plan) locals

    started_wide : IsWide started
    started_wide = length_after x.code stack (starts_of plan) locals ∙ wide

    pub started_null : (h : ℕ) → h < length plan.holders → word_at started (local_of x.code h) ≡ null
    started_null h few =
        ap (λ ls. word_at ls (local_of x.code h)) (starts_as_frees stack (range_with_len 0 (length plan.holders)) locals)
        ∙ freed_after x.code stack h (range_with_len 0 (length plan.holders)) locals (omega (arith, wide, few))
        (Contains-range 0 (length plan.holders) h (omega arith) (omega (arith, few)))

    started_references : AreReferences started
    started_references h few = subst IsReference (sym (started_null h few)) tt

    pub start_stand : (item : ℕ) (method : ℕ) → IsSafeAt facts x plan 0
        → HoldersStand facts x plan
        (record { method = method; item = item; locals = all_locals_after x.code stack (starts_of plan ++ frees_at plan 0) locals; stack = stack }) 0
    start_stand item method safe =
        subst (λ ls. HoldersStand facts x plan (record { method = method; item = item; locals = ls; stack = stack }) 0)
        (sym (after_both x.code stack (starts_of plan) (frees_at plan 0) locals))
        (frees_stand stack started started_wide started_references 0 item method safe
        (λ h holder is. inl (started_null h (slice_get_within plan.holders h holder is))))

    pub may_begin : (areas : Areas) → IsSafeAt facts x plan 0 → MayDoAll x.code areas stack locals (starts_of plan ++ frees_at plan 0)
    may_begin areas safe =
        may_both x.code stack (starts_of plan) (frees_at plan 0) areas locals
        (may_start x.code stack (range_with_len 0 (length plan.holders)) areas locals each)
        (may_frees stack started started_wide started_references (all_areas_after x.code stack (starts_of plan) locals areas) 0 safe) where
          each : (h : ℕ) → Contains (range_with_len 0 (length plan.holders)) h → local_of x.code h < length locals
          each h among =
              let range = Contains-from_range 0 (length plan.holders) h among in
              let less = range.1 in
              omega (arith, wide, less)
