-- What things that are done leave in the locals of holders.
use Rattle.std.proofs.Common.{◌≡◌, ◌≢◌, ℕ, zero, suc, ◌+◌, ◌<◌, ◌≤◌, ◌⊎◌, inl, inr, Bool, true, false, List, [], ◌∷◌, ◌++◌, length, map, take, Contains, refl, sym, ap, subst, ◌∙◌, arith}
use Rattle.std.specs.Prelude.{slice_set}
use Rattle.std.proofs.lemmas.Bool.{cases_eq}
use Rattle.std.proofs.lemmas.List.{get_or-set_other, get_or-set_same, length-set, take-set-le}
use Rattle.fm_code.proofs.EdgesLemmas.{Contains-first, Contains-later}
use Rattle.fm_code.specs.declared.code_array.Code.{Code}
use Rattle.fm_frames.specs.States.{null, word_at}
use Rattle.fm_frames.specs.declared.values.Value.{Value}
use Rattle.fm_frames.specs.declared.values.Value.TheVariants as value
use Rattle.fm_law_sound.specs.Sound.{IsReference}
use Rattle.fm_law_unwoven.specs.Doing.{all_locals_after, left_in, locals_after}
use Rattle.fm_law_unwoven.specs.Laid.{to_free, to_keep, Todo, ToFree, ToFreeAll, ToKeep, ToLink, ToStart}
use Rattle.fm_place.specs.Woven.{local_of}

-- the holder that a thing is done for
abbrev pub holder_of : Todo → ℕ
holder_of (ToStart h) = h
holder_of (ToKeep h) = h
holder_of (ToLink h joins) = h
holder_of (ToFree h) = h
holder_of (ToFreeAll h) = h

pub keeper_is : (looped joins : Bool) (h : ℕ) → holder_of (to_keep looped joins h) ≡ h
keeper_is true joins h = refl
keeper_is false joins h = refl

module _ (old : Code) (stack : List Value) where
  -- what a holder gets
  abbrev got : List Value → Todo → Value
  got locals (ToStart h) = null
  got locals (ToKeep h) = word_at stack 0
  got locals (ToLink h joins) = left_in joins (word_at stack 0) (word_at locals (local_of old h))
  got locals (ToFree h) = null
  got locals (ToFreeAll h) = null

  set_is : (t : Todo) (locals : List Value) → locals_after old stack t locals ≡ slice_set locals (local_of old (holder_of t)) (got locals t)
  set_is (ToStart h) locals = refl
  set_is (ToKeep h) locals = refl
  set_is (ToLink h joins) locals = refl
  set_is (ToFree h) locals = refl
  set_is (ToFreeAll h) locals = refl

  -- one thing after others
  pub after_both : (one two : List Todo) (locals : List Value)
      → all_locals_after old stack (one ++ two) locals ≡ all_locals_after old stack two (all_locals_after old stack one locals)
  after_both [] two locals = refl
  after_both (t ∷ one) two locals = after_both one two (locals_after old stack t locals)

  length_one : (t : Todo) (locals : List Value) → length (locals_after old stack t locals) ≡ length locals
  length_one t locals = ap length (set_is t locals) ∙ length-set locals (local_of old (holder_of t)) (got locals t)

  pub length_after : (todos : List Todo) (locals : List Value) → length (all_locals_after old stack todos locals) ≡ length locals
  length_after [] locals = refl
  length_after (t ∷ todos) locals = length_after todos (locals_after old stack t locals) ∙ length_one t locals

  -- the locals of the old code stay
  pub old_after : (todos : List Todo) (locals : List Value) → take old.max_locals (all_locals_after old stack todos locals) ≡ take old.max_locals locals
  old_after [] locals = refl
  old_after (t ∷ todos) locals =
      old_after todos (locals_after old stack t locals) ∙ ap (take old.max_locals) (set_is t locals)
      ∙ take-set-le old.max_locals locals (local_of old (holder_of t)) (got locals t) (omega arith)

  -- a holder for which nothing is done stays
  pub other_after : (h : ℕ) (todos : List Todo) (locals : List Value) → ((t : Todo) → Contains todos t → holder_of t ≢ h)
      → word_at (all_locals_after old stack todos locals) (local_of old h) ≡ word_at locals (local_of old h)
  other_after h [] locals none = refl
  other_after h (t ∷ todos) locals none =
      let differs = none t (Contains-first t todos t refl) in
      other_after h todos (locals_after old stack t locals) (λ u there. none u (Contains-later t todos u there))
      ∙ ap (λ ls. word_at ls (local_of old h)) (set_is t locals)
      ∙ get_or-set_other locals (local_of old (holder_of t)) (local_of old h) (got locals t) value.Top (λ same. differs (omega (arith, same)))

  -- a holder that is null stays null where others start and are freed
  pub null_after : (h : ℕ) (hs : List ℕ) (locals : List Value) → local_of old h < length locals → word_at locals (local_of old h) ≡ null
      → word_at (all_locals_after old stack (map ToFree hs) locals) (local_of old h) ≡ null
  null_after h [] locals inside is = is
  null_after h (k ∷ hs) locals inside is =
      null_after h hs (slice_set locals (local_of old k) null)
      (let count = length-set locals (local_of old k) null in omega (arith, inside, count))
      (by_holder (cases_eq h k)) where
        by_holder : (h ≡ k) ⊎ (h ≢ k) → word_at (slice_set locals (local_of old k) null) (local_of old h) ≡ null
        by_holder (inl same) =
            subst (λ n. word_at (slice_set locals (local_of old n) null) (local_of old h) ≡ null) same (get_or-set_same locals (local_of old h) null value.Top inside)
        by_holder (inr other) =
            get_or-set_other locals (local_of old k) (local_of old h) null value.Top (λ same. other (omega (arith, same))) ∙ is

  -- a holder that is freed is null
  pub freed_after : (h : ℕ) (hs : List ℕ) (locals : List Value) → local_of old h < length locals → Contains hs h
      → word_at (all_locals_after old stack (map ToFree hs) locals) (local_of old h) ≡ null
  freed_after h [] locals inside (k, within, is) = absurd (omega (arith, within))
  freed_after h (x ∷ hs) locals inside (zero, within, is) =
      null_after h hs (slice_set locals (local_of old x) null)
      (let count = length-set locals (local_of old x) null in omega (arith, inside, count))
      (subst (λ n. word_at (slice_set locals (local_of old n) null) (local_of old h) ≡ null) (sym is) (get_or-set_same locals (local_of old h) null value.Top inside))
  freed_after h (x ∷ hs) locals inside (suc k, within, is) =
      freed_after h hs (slice_set locals (local_of old x) null)
      (let count = length-set locals (local_of old x) null in omega (arith, inside, count)) (k, omega (arith, within), is)

  -- whether all of a chain is freed or one object, the holder is null
  pub freed_one : (looped : Bool) (h : ℕ) (locals : List Value) → locals_after old stack (to_free looped h) locals ≡ slice_set locals (local_of old h) null
  freed_one true h locals = refl
  freed_one false h locals = refl

  pub frees_same : (looped : ℕ → Bool) (hs : List ℕ) (locals : List Value)
      → all_locals_after old stack (map (λ h. to_free (looped h) h) hs) locals ≡ all_locals_after old stack (map ToFree hs) locals
  frees_same looped [] locals = refl
  frees_same looped (h ∷ hs) locals =
      frees_same looped hs (locals_after old stack (to_free (looped h) h) locals)
      ∙ ap (all_locals_after old stack (map ToFree hs)) (freed_one (looped h) h locals)

  -- ---- references

  -- the holder gets a reference, or keeps one
  abbrev pub PutsReference : (count : ℕ) → Todo → Type 0
  PutsReference count (ToStart h) = Unit {0}
  PutsReference count (ToKeep h) = IsReference (word_at stack 0)
  PutsReference count (ToLink h joins) = IsReference (word_at stack 0) × (h < count)
  PutsReference count (ToFree h) = Unit {0}
  PutsReference count (ToFreeAll h) = Unit {0}

  pub puts_kept : (count : ℕ) (looped joins : Bool) (h : ℕ) → IsReference (word_at stack 0) → h < count → PutsReference count (to_keep looped joins h)
  puts_kept count true joins h top inside = (top, inside)
  puts_kept count false joins h top inside = top

  pub puts_null : (count : ℕ) (looped : Bool) (h : ℕ) → PutsReference count (to_free looped h)
  puts_null count true h = tt
  puts_null count false h = tt

  module _ (count : ℕ) (t : Todo) (locals : List Value) (puts : PutsReference count t) (wide : old.max_locals + count ≤ length locals)
      (before : (h : ℕ) → h < count → IsReference (word_at locals (local_of old h))) where
    got_reference : (u : Todo) → PutsReference count u → IsReference (got locals u)
    got_reference (ToStart h) puts = tt
    got_reference (ToKeep h) puts = puts
    got_reference (ToLink h true) puts = puts.0
    got_reference (ToLink h false) puts = before h puts.1
    got_reference (ToFree h) puts = tt
    got_reference (ToFreeAll h) puts = tt

    by_holder : (k : ℕ) → k < count → (k ≡ holder_of t) ⊎ (k ≢ holder_of t)
        → IsReference (word_at (slice_set locals (local_of old (holder_of t)) (got locals t)) (local_of old k))
    by_holder k below (inl same) =
        subst IsReference
        (sym (ap (λ n. word_at (slice_set locals (local_of old (holder_of t)) (got locals t)) (local_of old n)) same
        ∙ get_or-set_same locals (local_of old (holder_of t)) (got locals t) value.Top (omega (arith, wide, below, same))))
        (got_reference t puts)
    by_holder k below (inr other) =
        subst IsReference
        (sym (get_or-set_other locals (local_of old (holder_of t)) (local_of old k) (got locals t) value.Top (λ same. other (omega (arith, same)))))
        (before k below)

    -- all holders stay references
    pub references_one : (h : ℕ) → h < count → IsReference (word_at (locals_after old stack t locals) (local_of old h))
    references_one h below = subst (λ ls. IsReference (word_at ls (local_of old h))) (sym (set_is t locals)) (by_holder h below (cases_eq h (holder_of t)))

  -- also where more is done
  pub references_after : (count : ℕ) (todos : List Todo) (locals : List Value) → ((t : Todo) → Contains todos t → PutsReference count t)
      → old.max_locals + count ≤ length locals → ((h : ℕ) → h < count → IsReference (word_at locals (local_of old h)))
      → (h : ℕ) → h < count → IsReference (word_at (all_locals_after old stack todos locals) (local_of old h))
  references_after count [] locals puts wide before h inside = before h inside
  references_after count (t ∷ todos) locals puts wide before h inside =
      references_after count todos (locals_after old stack t locals) (λ u there. puts u (Contains-later t todos u there))
      (let same = length_one t locals in omega (arith, wide, same))
      (references_one count t locals (puts t (Contains-first t todos t refl)) wide before) h inside
