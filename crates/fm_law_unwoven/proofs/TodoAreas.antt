-- When things may be done, and what is freed by them: areas stay sound.
use Rattle.std.proofs.Common.{◌≡◌, ◌≢◌, ℕ, zero, suc, ◌+◌, ◌<◌, ◌≤◌, ◌^◌, ◌⊎◌, inl, inr, Bool, true, false, List, [], ◌∷◌, ◌++◌, length, map, Option, Some, None, Contains, refl, sym, ap, ◌∙◌, arith}
use Rattle.std.proofs.lemmas.Bool.{cases_eq}
use Rattle.fm_cells.proofs.Choices.{lawful_choice-may}
use Rattle.fm_cells.proofs.Elements.{chained_by-none}
use Rattle.fm_cells.specs.Changes.{chained_by}
use Rattle.fm_cells.specs.Choices.{lawful}
use Rattle.fm_cells.specs.Objects.{Object}
use Rattle.fm_cells.specs.Stores.{object_at, Store}
use Rattle.fm_code.proofs.EdgesLemmas.{Contains-first, Contains-later}
use Rattle.fm_code.specs.declared.code_array.Code.{Code}
use Rattle.fm_frames.specs.Acts.{all_freed, cell_of, chain_cells, chain_from, chained, Choose, freed, performed}
use Rattle.fm_frames.specs.Effects.{Free, SetChain}
use Rattle.fm_frames.specs.States.{Areas, null, ref, word_at}
use Rattle.fm_frames.specs.declared.values.Value.{Value}
use Rattle.fm_law_chained.proofs.Links.{linked_here, linked_there}
use Rattle.fm_law_sound.proofs.ActsKeep.{actions_keep}
use Rattle.fm_law_sound.specs.Sound.{AreasAreSound, IsReference}
use Rattle.fm_law_unwoven.proofs.TodoLocals.{freed_one, length_after, null_after, puts_kept, puts_null, references_one}
use Rattle.fm_law_unwoven.specs.Doing.{all_areas_after, all_locals_after, areas_after, freed_along, freed_from, joined_to, joins_in, locals_after, may_join, MayDo, MayDoAll}
use Rattle.fm_law_unwoven.specs.Laid.{to_free, to_keep, Todo, ToFree, ToFreeAll, ToKeep, ToLink, ToStart}
use Rattle.fm_place.specs.Woven.{local_of}
use Rattle.fm_world.specs.Members.{size_of}
use Rattle.fm_world.specs.Programs.{Outline}

-- ---- areas

module _ (o : Outline) (sizes : (class : ℕ) → size_of o.classes class < 2 ^ 31) (choose : Choose) where
  -- whatever is freed
  freed_sound : (x : Areas) (v : Value) → AreasAreSound o x → AreasAreSound o (freed x (cell_of v))
  unfolding performed
  freed_sound x v sound =
      actions_keep o sizes (lawful choose) (λ s request. lawful_choice-may s request (choose s request))
      (record { method = 0; item = 0; locals = []; stack = v ∷ [] }) x (Free 0 ∷ []) sound refl

  from_sound : (x : Areas) (cell : ℕ) → AreasAreSound o x → AreasAreSound o (freed_from x cell)
  from_sound x zero sound = sound
  from_sound x (suc cell) sound = freed_sound x (ref (suc cell)) sound

  all_sound : (cells : List ℕ) (x : Areas) → AreasAreSound o x → AreasAreSound o (all_freed x cells)
  all_sound [] x sound = sound
  all_sound (cell ∷ cells) x sound = all_sound cells (freed x cell) (freed_sound x (ref cell) sound)

  along_sound : (x : Areas) (cells : Option (List ℕ)) → AreasAreSound o x → AreasAreSound o (freed_along x cells)
  along_sound x None sound = sound
  along_sound x (Some cells) sound = all_sound cells x sound

  -- whatever is put before a chain
  chained_sound : (x : Areas) (cell to : ℕ) → AreasAreSound o x → AreasAreSound o (chained x cell to)
  unfolding performed
  chained_sound x cell to sound =
      actions_keep o sizes (lawful choose) (λ s request. lawful_choice-may s request (choose s request))
      (record { method = 0; item = 0; locals = []; stack = ref cell ∷ ref to ∷ [] }) x (SetChain 0 1 ∷ []) sound refl

  joined_sound : (joins : Bool) (x : Areas) (cell to : ℕ) → AreasAreSound o x → AreasAreSound o (joined_to joins x cell to)
  joined_sound true x cell to sound = chained_sound x cell to sound
  joined_sound false x cell to sound = sound

  one_sound : (old : Code) (stack locals : List Value) (t : Todo) (x : Areas) → AreasAreSound o x → AreasAreSound o (areas_after old stack locals t x)
  one_sound old stack locals (ToStart h) x sound = sound
  one_sound old stack locals (ToKeep h) x sound = sound
  one_sound old stack locals (ToLink h joins) x sound =
      joined_sound joins x (cell_of (word_at stack 0)) (cell_of (word_at locals (local_of old h))) sound
  one_sound old stack locals (ToFree h) x sound = from_sound x (cell_of (word_at locals (local_of old h))) sound
  one_sound old stack locals (ToFreeAll h) x sound = along_sound x (chain_from x.store (cell_of (word_at locals (local_of old h)))) sound

  pub areas_sound : (old : Code) (stack : List Value) (todos : List Todo) (locals : List Value) (x : Areas) → AreasAreSound o x
      → AreasAreSound o (all_areas_after old stack todos locals x)
  areas_sound old stack [] locals x sound = sound
  areas_sound old stack (t ∷ todos) locals x sound =
      areas_sound old stack todos (locals_after old stack t locals) (areas_after old stack locals t x) (one_sound old stack locals t x sound)

-- ---- what is freed of null

null_along : (x : Areas) → freed_along x (chain_from x.store 0) ≡ x
unfolding chain_cells
null_along x = refl

-- ---- what joins a chain

-- another link changes nothing of it
joins_stay : (store : Store) (cell to at : ℕ) → joins_in (chained_by store cell to) at ≡ joins_in store at
joins_stay store cell to zero = refl
joins_stay store cell to (suc at) = by_object (object_at store cell) refl where
  by_cell : (object : Object) → object_at store cell ≡ Some object → (suc at ≡ cell) ⊎ (suc at ≢ cell)
      → may_join (object_at (chained_by store cell to) (suc at)) ≡ may_join (object_at store (suc at))
  by_cell object held (inl same) =
      ap (λ n. may_join (object_at (chained_by store cell to) n)) same ∙ ap may_join (linked_here store cell to object held)
      ∙ sym (ap (λ n. may_join (object_at store n)) same ∙ ap may_join held)
  by_cell object held (inr other) = ap may_join (linked_there store cell to object held (suc at) other)

  by_object : (found : Option Object) → object_at store cell ≡ found
      → may_join (object_at (chained_by store cell to) (suc at)) ≡ may_join (object_at store (suc at))
  by_object None none = ap (λ s. may_join (object_at s (suc at))) (chained_by-none store cell to none)
  by_object (Some object) held = by_cell object held (cases_eq (suc at) cell)

module _ (old : Code) (stack : List Value) where
  -- null frees nothing
  null_one : (looped : Bool) (h : ℕ) (locals : List Value) (x : Areas) → word_at locals (local_of old h) ≡ null
      → areas_after old stack locals (to_free looped h) x ≡ x
  null_one true h locals x is = ap (λ v. freed_along x (chain_from x.store (cell_of v))) is ∙ null_along x
  null_one false h locals x is = ap (λ v. freed_from x (cell_of v)) is

  -- holders that are null free nothing
  pub nothing_freed : (looped : ℕ → Bool) (hs : List ℕ) (locals : List Value) (x : Areas) → ((h : ℕ) → Contains hs h → local_of old h < length locals)
      → ((h : ℕ) → Contains hs h → word_at locals (local_of old h) ≡ null)
      → all_areas_after old stack (map (λ h. to_free (looped h) h) hs) locals x ≡ x
  nothing_freed looped [] locals x inside nulls = refl
  nothing_freed looped (h ∷ hs) locals x inside nulls =
      let t = to_free (looped h) h in
      let later = locals_after old stack t locals in
      let count = length_after old stack (t ∷ []) locals in
      ap (all_areas_after old stack (map (λ k. to_free (looped k) k) hs) later) (null_one (looped h) h locals x (nulls h (Contains-first h hs h refl)))
      ∙ nothing_freed looped hs later x
      (λ k there. let within = inside k (Contains-later h hs k there) in omega (arith, within, count))
      (λ k there.
      let within = inside k (Contains-later h hs k there) in
      ap (λ ls. word_at ls (local_of old k)) (freed_one old stack (looped h) h locals)
      ∙ null_after old stack k (h ∷ []) locals within (nulls k (Contains-later h hs k there)))

  -- ---- what may be done

  pub may_both : (one two : List Todo) (areas : Areas) (locals : List Value) → MayDoAll old areas stack locals one
      → MayDoAll old (all_areas_after old stack one locals areas) stack (all_locals_after old stack one locals) two
      → MayDoAll old areas stack locals (one ++ two)
  may_both [] two areas locals first second = second
  may_both (t ∷ one) two areas locals first second =
      (first.0, may_both one two (areas_after old stack locals t areas) (locals_after old stack t locals) first.1 second)

  pub may_start : (hs : List ℕ) (areas : Areas) (locals : List Value) → ((h : ℕ) → Contains hs h → local_of old h < length locals)
      → MayDoAll old areas stack locals (map ToStart hs)
  may_start [] areas locals inside = tt
  may_start (h ∷ hs) areas locals inside =
      let later = locals_after old stack (ToStart h) locals in
      let count = length_after old stack (ToStart h ∷ []) locals in (
        inside h (Contains-first h hs h refl),
        may_start hs areas later (λ k there. let within = inside k (Contains-later h hs k there) in omega (arith, within, count)),
      )

  -- of so many holders, each of which has a reference
  module _ (looped : ℕ → Bool) (total : ℕ) where
    keep_one : (b joins : Bool) (h : ℕ) (areas : Areas) (locals : List Value) → 0 < length stack → IsReference (word_at stack 0)
        → IsReference (word_at locals (local_of old h)) → local_of old h < length locals
        → joins ≡ joins_in areas.store (cell_of (word_at stack 0)) → MayDo old areas stack locals (to_keep b joins h)
    keep_one true joins h areas locals some top held local is = record { some = some; top = top; held = held; local = local; joins_is = is }
    keep_one false joins h areas locals some top held local is = (some, local)

    joins_after : (b joins : Bool) (h : ℕ) (areas : Areas) (locals : List Value)
        → joins_in (areas_after old stack locals (to_keep b joins h) areas).store (cell_of (word_at stack 0))
        ≡ joins_in areas.store (cell_of (word_at stack 0))
    joins_after false joins h areas locals = refl
    joins_after true false h areas locals = refl
    joins_after true true h areas locals =
        joins_stay areas.store (cell_of (word_at stack 0)) (cell_of (word_at locals (local_of old h))) (cell_of (word_at stack 0))

    pub may_keep : (joins : Bool) (hs : List ℕ) (areas : Areas) (locals : List Value)
        → ((h : ℕ) → Contains hs h → (0 < length stack) × IsReference (word_at stack 0) × (h < total))
        → old.max_locals + total ≤ length locals → ((h : ℕ) → h < total → IsReference (word_at locals (local_of old h)))
        → joins ≡ joins_in areas.store (cell_of (word_at stack 0))
        → MayDoAll old areas stack locals (map (λ h. to_keep (looped h) joins h) hs)
    may_keep joins [] areas locals gives wide references is = tt
    may_keep joins (h ∷ hs) areas locals gives wide references is =
        let t = to_keep (looped h) joins h in
        let here = gives h (Contains-first h hs h refl) in
        let within = here.2 in
        let count = length_after old stack (t ∷ []) locals in (
          keep_one (looped h) joins h areas locals here.0 here.1 (references h here.2) (omega (arith, wide, within)) is,
          may_keep joins hs (areas_after old stack locals t areas) (locals_after old stack t locals) (λ k there. gives k (Contains-later h hs k there))
              (omega (arith, wide, count))
              (references_one old stack total t locals (puts_kept old stack total (looped h) joins h here.1 here.2) wide references)
              (is ∙ sym (joins_after (looped h) joins h areas locals)),
        )

    free_one : (b : Bool) (h : ℕ) (areas : Areas) (locals : List Value) → IsReference (word_at locals (local_of old h)) → local_of old h < length locals
        → MayDo old areas stack locals (to_free b h)
    free_one true h areas locals held local = (held, local)
    free_one false h areas locals held local = (held, local)

    pub may_free : (hs : List ℕ) (areas : Areas) (locals : List Value) → old.max_locals + total ≤ length locals
        → ((h : ℕ) → h < total → IsReference (word_at locals (local_of old h))) → ((h : ℕ) → Contains hs h → h < total)
        → MayDoAll old areas stack locals (map (λ h. to_free (looped h) h) hs)
    may_free [] areas locals wide references inside = tt
    may_free (h ∷ hs) areas locals wide references inside =
        let t = to_free (looped h) h in
        let here = inside h (Contains-first h hs h refl) in
        let count = length_after old stack (t ∷ []) locals in (
          free_one (looped h) h areas locals (references h here) (omega (arith, wide, here)),
          may_free hs (areas_after old stack locals t areas) (locals_after old stack t locals) (omega (arith, wide, count))
              (references_one old stack total t locals (puts_null old stack total (looped h) h) wide references)
              (λ k there. inside k (Contains-later h hs k there)),
        )
