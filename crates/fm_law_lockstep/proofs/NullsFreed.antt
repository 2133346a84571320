-- Holders that are null free nothing, and none of them is lost.
use Rattle.std.proofs.Common.{◌≡◌, ℕ, suc, ◌<◌, Bool, true, false, List, [], ◌∷◌, ◌++◌, length, map, Some, Contains, refl, sym, ap, ◌∙◌, arith}
use Rattle.std.proofs.lemmas.Option.{none-some}
use Rattle.fm_cells.specs.Stores.{Store}
use Rattle.fm_code.proofs.EdgesLemmas.{Contains-first, Contains-later}
use Rattle.fm_code.specs.declared.code_array.Code.{Code}
use Rattle.fm_frames.specs.Acts.{cell_of, chain_cells, chain_from}
use Rattle.fm_frames.specs.States.{Areas, Frame, null, word_at}
use Rattle.fm_frames.specs.declared.values.Value.{Value}
use Rattle.fm_law_lockstep.proofs.FoundTodos.{areas_both, finds_both, FindsAll, none_lost}
use Rattle.fm_law_unwoven.proofs.TodoAreas.{nothing_freed}
use Rattle.fm_law_unwoven.proofs.TodoLocals.{freed_one, length_after, null_after}
use Rattle.fm_law_unwoven.specs.Doing.{all_areas_after, all_locals_after, areas_after, IsLost, locals_after, Misses}
use Rattle.fm_law_unwoven.specs.Laid.{to_free, Todo}
use Rattle.fm_place.specs.Woven.{local_of}

-- the walk from null ends at once
null_walked : (store : Store) → chain_from store 0 ≡ Some []
unfolding chain_cells
null_walked store = refl

module _ (old : Code) (stack : List Value) where
  null_finds : (looped : Bool) (h : ℕ) (locals : List Value) (areas : Areas) → word_at locals (local_of old h) ≡ null
      → Misses old areas stack locals (to_free looped h) → ⊥
  null_finds false h locals areas none misses = let no : suc misses.0 ≡ 0 = sym misses.1 ∙ ap cell_of none in omega (arith, no)
  null_finds true h locals areas none misses =
      none-some [] (sym misses ∙ ap (λ v. chain_from areas.store (cell_of v)) none ∙ null_walked areas.store)

  nulls_find : (looped : ℕ → Bool) (hs : List ℕ) (locals : List Value) (areas : Areas) → ((h : ℕ) → Contains hs h → local_of old h < length locals)
      → ((h : ℕ) → Contains hs h → word_at locals (local_of old h) ≡ null) → FindsAll old stack (map (λ h. to_free (looped h) h) hs) locals areas
  nulls_find looped [] locals areas inside nulls = tt
  nulls_find looped (h ∷ hs) locals areas inside nulls =
      let t = to_free (looped h) h in
      let count = length_after old stack (t ∷ []) locals in (
        null_finds (looped h) h locals areas (nulls h (Contains-first h hs h refl)),
        nulls_find looped hs (locals_after old stack t locals) (areas_after old stack locals t areas)
            (λ k there. let within = inside k (Contains-later h hs k there) in omega (arith, within, count))
            (λ k there.
            let within = inside k (Contains-later h hs k there) in
            ap (λ ls. word_at ls (local_of old k)) (freed_one old stack (looped h) h locals)
            ∙ null_after old stack k (h ∷ []) locals within (nulls k (Contains-later h hs k there))),
      )

module _ (old : Code) (f : Frame) (areas : Areas) (first : List Todo) (finds : FindsAll old f.stack first f.locals areas)
    (same : all_areas_after old f.stack first f.locals areas ≡ areas) (looped : ℕ → Bool) (hs : List ℕ)
    (inside : (h : ℕ) → Contains hs h → local_of old h < length (all_locals_after old f.stack first f.locals))
    (nulls : (h : ℕ) → Contains hs h → word_at (all_locals_after old f.stack first f.locals) (local_of old h) ≡ null) where
  abbrev locals : List Value
  locals = all_locals_after old f.stack first f.locals

  abbrev frees : List Todo
  frees = map (λ h. to_free (looped h) h) hs

  -- where holders are null once other things are done, none of them is lost
  pub nulls_not_lost : IsLost old f areas (first ++ map (λ h. to_free (looped h) h) hs) → ⊥
  nulls_not_lost lost =
      none_lost old f areas (first ++ frees)
      (finds_both old f.stack first frees f.locals areas finds
      (nulls_find old f.stack looped hs locals (all_areas_after old f.stack first f.locals areas) inside nulls))
      lost

  -- and nothing is freed
  pub nulls_areas : all_areas_after old f.stack (first ++ map (λ h. to_free (looped h) h) hs) f.locals areas ≡ areas
  nulls_areas =
      areas_both old f.stack first frees f.locals areas ∙ ap (all_areas_after old f.stack frees locals) same
      ∙ nothing_freed old f.stack looped hs locals areas inside nulls
