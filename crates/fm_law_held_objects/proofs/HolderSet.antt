-- A holder of a frame gets another value: the others have what they had.
use Rattle.std.proofs.Common.{◌≡◌, ◌≢◌, ℕ, ◌+◌, ◌<◌, List, length, Some, sym, ap, subst, ◌∙◌, arith, slice_get, slice_set, ⊎_elim}
use Rattle.std.proofs.lemmas.Bool.{cases_eq}
use Rattle.std.proofs.lemmas.List.{get_or-set_other, get_or-set_same}
use Rattle.fm_cells.specs.Stores.{Store}
use Rattle.fm_chain.specs.Chained.{looped_at}
use Rattle.fm_code.specs.declared.code_array.Code.{Code}
use Rattle.fm_frames.specs.States.{State}
use Rattle.fm_frames.specs.declared.values.Value.{Value}
use Rattle.fm_frames.specs.declared.values.Value.TheVariants as value
use Rattle.fm_law_held_objects.specs.Contents.{Has, HoldsOneOrAll}
use Rattle.fm_law_held_objects.specs.Held.{AreHeld, HolderHas}
use Rattle.fm_law_held_objects.specs.Initialised.{IsInitialised}
use Rattle.fm_law_holders.specs.Holding.{holder_value}
use Rattle.fm_law_sound.specs.Sound.{Typings}
use Rattle.fm_place.specs.Insertions.{Holder, Insertions}
use Rattle.fm_place.specs.Woven.{local_of}
use Rattle.fm_same.specs.Colours.{Colour}

module _ (store : Store) (code : Code) (plan : Insertions) (locals : List Value) (width : length locals ≡ code.max_locals + length plan.holders) (kept : ℕ) (inside : kept < length plan.holders) (w : Value) where
  abbrev changed : List Value
  changed = slice_set locals (local_of code kept) w

  pub value_here : (h : ℕ) → h ≡ kept → holder_value code (slice_set locals (local_of code kept) w) h ≡ w
  value_here h same = ap (holder_value code changed) same ∙ get_or-set_same locals (local_of code kept) w value.Top (omega (arith, inside, width))

  pub value_there : (h : ℕ) → h ≢ kept → holder_value code (slice_set locals (local_of code kept) w) h ≡ holder_value code locals h
  value_there h away = get_or-set_other locals (local_of code kept) (local_of code h) w value.Top (λ same. away (omega (arith, same)))

  -- it has what the value leads to
  pub has_here : (h birth : ℕ) → h ≡ kept → HolderHas store code plan (slice_set locals (local_of code kept) w) h birth → Has (looped_at plan kept) store w birth
  has_here h birth same has =
      subst (λ v. Has (looped_at plan kept) store v birth) (value_here h same)
      (subst (λ looped. Has looped store (holder_value code changed h) birth) (ap (looped_at plan) same) has)

  -- and any other one what it had
  pub has_there : (h birth : ℕ) → h ≢ kept → HolderHas store code plan (slice_set locals (local_of code kept) w) h birth → HolderHas store code plan locals h birth
  has_there h birth away has = subst (λ v. Has (looped_at plan h) store v birth) (value_there h away) has

  -- so it has what the value leads to, and any other one has what it had
  pub gets_here : (h birth : ℕ) → h ≡ kept → Has (looped_at plan kept) store w birth → HolderHas store code plan (slice_set locals (local_of code kept) w) h birth
  gets_here h birth same has =
      subst (λ v. Has (looped_at plan h) store v birth) (sym (value_here h same))
      (subst (λ looped. Has looped store w birth) (ap (looped_at plan) (sym same)) has)

  pub gets_there : (h birth : ℕ) → h ≢ kept → HolderHas store code plan locals h birth
      → HolderHas store code plan (slice_set locals (local_of code kept) w) h birth
  gets_there h birth away has = subst (λ v. Has (looped_at plan h) store v birth) (sym (value_there h away)) has

  module _ (typings : Typings) (x : State) (colour : Colour) (depth : ℕ) (have : AreHeld typings x colour depth store code plan locals)
      (holds : (holder : Holder) → slice_get plan.holders kept ≡ Some holder → HoldsOneOrAll (looped_at plan kept) store colour depth holder.class w)
      (fresh : (birth : ℕ) → Has (looped_at plan kept) store w birth → IsInitialised typings x birth)
      (unheld : (h birth : ℕ) → h < length plan.holders → h ≢ kept → Has (looped_at plan kept) store w birth → HolderHas store code plan locals h birth → ⊥) where
    holds_here : (h : ℕ) (holder : Holder) → slice_get plan.holders h ≡ Some holder → h ≡ kept
        → HoldsOneOrAll (looped_at plan h) store colour depth holder.class (holder_value code (slice_set locals (local_of code kept) w) h)
    holds_here h holder at same =
        subst (HoldsOneOrAll (looped_at plan h) store colour depth holder.class) (sym (value_here h same))
        (subst (λ looped. HoldsOneOrAll looped store colour depth holder.class w) (ap (looped_at plan) (sym same))
        (holds holder (ap (slice_get plan.holders) (sym same) ∙ at)))

    -- so all hold what they may, where the value leads to objects that no other holder has, and that are initialised
    pub set_held : AreHeld typings x colour depth store code plan (slice_set locals (local_of code kept) w)
    set_held = record {
      holds = λ h holder at. ⊎_elim
          (λ (same : h ≡ kept). holds_here h holder at same)
          (λ (away : h ≢ kept).
          subst (HoldsOneOrAll (looped_at plan h) store colour depth holder.class) (sym (value_there h away)) (have.holds h holder at))
          (cases_eq h kept);
      apart = λ h other birth within inside_too one two. ⊎_elim
          (λ (same : h ≡ kept). ⊎_elim
          (λ (again : other ≡ kept). same ∙ sym again)
          (λ (away : other ≢ kept). absurd (unheld other birth inside_too away (has_here h birth same one) (has_there other birth away two)))
          (cases_eq other kept))
          (λ (away : h ≢ kept). ⊎_elim
          (λ (again : other ≡ kept). absurd (unheld h birth within away (has_here other birth again two) (has_there h birth away one)))
          (λ (beyond : other ≢ kept). have.apart h other birth within inside_too (has_there h birth away one) (has_there other birth beyond two))
          (cases_eq other kept))
          (cases_eq h kept);
      initialised = λ h birth within has. ⊎_elim
          (λ (same : h ≡ kept). fresh birth (has_here h birth same has))
          (λ (away : h ≢ kept). have.initialised h birth within (has_there h birth away has))
          (cases_eq h kept);
    }
