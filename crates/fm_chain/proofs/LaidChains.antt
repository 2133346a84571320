-- The items of a method with chains are what layout requires, and its anchors are anchors.
use Rattle.std.proofs.Common.{◌≡◌, ℕ, ◌+◌, ◌*◌, ◌<◌, Bool, true, false, List, [], ◌∷◌, ◌++◌, length, map, refl, sym, ap, subst, ◌∙◌, arith}
use Rattle.std.specs.List.{AllByRecursion, flat_map, range_with_len, sum}
use Rattle.std.proofs.lemmas.List.FromFn.{length-range_with_len}
use Rattle.fm_code.specs.Fits.{FitsTwo}
use Rattle.fm_code.specs.SpellsCode.{targets_of}
use Rattle.fm_code.specs.declared.code_array.Code.{Code}
use Rattle.fm_code.specs.declared.code_array.Item.{Item}
use Rattle.fm_conn.proofs.ListLemmas.{Contains-from_range}
use Rattle.fm_layout.specs.Conditions.{AreNewItems, AreOldItems, HasOrigin}
use Rattle.fm_layout.specs.Laid.{laid_of}
use Rattle.fm_layout.specs.Tables.{AreAnchors}
use Rattle.fm_layout.specs.declared.laying.TheConstants.{MAX_NEW_ITEMS}
use Rattle.fm_layout.specs.declared.new_items.NewItem.{NewItem}
use Rattle.fm_place.proofs.WovenLemmas.{after-inside, all-flat}
use Rattle.fm_place.specs.Insertions.{after_at, before_at, Insertions}
use Rattle.fm_place.specs.Woven.{freed_items, local_of, null_stored, null_stored_items}
use Rattle.fm_chain.proofs.Replaced.{AreCounted, AreInserted, flat_inserted, flat_size, Inserts, MayBeInserted, numbers_are_anchors, numbers_from, replaced_is_laid_out, replaced_items, sum_cons}
use Rattle.fm_chain.specs.Chained.{anchors_from, anchors_of, chained, chained_item, chained_items, count_at, looped_at, released, taken, taken_items}
use Rattle.fm_chain.specs.Laws.{ChainedAnchorsAreAnchors, ChainedIsLaidOut, CallsSuit}
use Rattle.fm_chain.specs.declared.calls.Calls.{Calls}

-- ---- sizes

fours : (hs : List ℕ) → sum (map (λ (h : ℕ). 4) hs) ≡ freed_items * length hs
fours [] = refl
fours (h ∷ hs) = let rest = fours hs in let sum = sum_cons (λ (h : ℕ). 4) h hs in omega (arith, rest, sum)

twos : (hs : List ℕ) → sum (map (λ (h : ℕ). 2) hs) ≡ null_stored_items * length hs
twos [] = refl
twos (h ∷ hs) = let rest = twos hs in let sum = sum_cons (λ (h : ℕ). 2) h hs in omega (arith, rest, sum)

pub taken_size : (calls : Calls) (looped : Bool) (local : ℕ) → length (taken calls looped local) ≡ taken_items looped
taken_size calls false local = refl
taken_size calls true local = refl

module _ (calls : Calls) (code : Code) (plan : Insertions) where
  abbrev ahead : Inserts
  ahead j = flat_map (λ h. released calls (looped_at plan h) (local_of code h)) (before_at plan j)

  abbrev behind : Inserts
  behind j = flat_map (λ h. taken calls (looped_at plan h) (local_of code h)) (after_at plan j)

  abbrev started : List NewItem
  started = flat_map (λ h. null_stored (local_of code h)) (range_with_len 0 (length plan.holders))

  counted : AreCounted (count_at plan) ahead behind
  counted j =
      let before =
      flat_size (λ h. released calls (looped_at plan h) (local_of code h)) (λ h. 4) (λ h. refl) (before_at plan j) ∙ fours (before_at plan j) in
      let after =
      flat_size (λ h. taken calls (looped_at plan h) (local_of code h)) (λ h. taken_items (looped_at plan h))
      (λ h. taken_size calls (looped_at plan h) (local_of code h)) (after_at plan j) in
      omega (arith, before, after)

  started_size : length started ≡ null_stored_items * length plan.holders
  started_size =
      flat_size (λ h. null_stored (local_of code h)) (λ h. 2) (λ h. refl) (range_with_len 0 (length plan.holders))
      ∙ twos (range_with_len 0 (length plan.holders)) ∙ ap (λ n. null_stored_items * n) (length-range_with_len 0 (length plan.holders))

  -- ---- the same in general

  items_are : (anchors : List ℕ) (j : ℕ) (items : List Item) → chained_items calls code plan anchors j items ≡ replaced_items anchors ahead behind j items
  items_are anchors j [] = refl
  items_are anchors j (item ∷ items) = ap (λ rest. chained_item calls code plan anchors j item.insn ++ rest) (items_are anchors (j + 1) items)

  numbers_are : (n j : ℕ) (items : List Item) → anchors_from plan n j items ≡ numbers_from (count_at plan) n j items
  numbers_are n j [] = refl
  numbers_are n j (item ∷ items) = ap (λ rest. n ∷ rest) (numbers_are (n + count_at plan j) (j + 1) items)

  anchors_are : anchors_of plan code.items ≡ numbers_from (count_at plan) (length started) 0 code.items
  anchors_are =
      numbers_are (null_stored_items * length plan.holders) 0 code.items
      ∙ ap (λ n. numbers_from (count_at plan) n 0 code.items) (sym started_size)

  chained_is : chained calls code plan ≡ started ++ replaced_items (numbers_from (count_at plan) (length started) 0 code.items) ahead behind 0 code.items
  chained_is =
      ap (λ rest. started ++ rest) (items_are (anchors_of plan code.items) 0 code.items)
      ∙ ap (λ anchors. started ++ replaced_items anchors ahead behind 0 code.items) anchors_are

  pub anchors_are_anchors : AreAnchors code (laid_of code.items (chained calls code plan)) (anchors_of plan code.items)
  anchors_are_anchors =
      subst (λ items. AreAnchors code (laid_of code.items items) (anchors_of plan code.items)) (sym chained_is)
      (subst (λ anchors. AreAnchors code (laid_of code.items (started ++ replaced_items (numbers_from (count_at plan) (length started) 0 code.items)
      ahead behind 0 code.items)) anchors) (sym anchors_are)
      (numbers_are_anchors code started (numbers_from (count_at plan) (length started) 0 code.items) ahead behind (count_at plan) counted))

  -- ---- what is inserted

  module _ (suits : CallsSuit calls code plan) where
    local_fits : (h : ℕ) → h < length plan.holders → FitsTwo (local_of code h)
    local_fits h inside = let room = suits.room in omega (arith, room, inside)

    abbrev Origin : NewItem → Type 0
    Origin new = HasOrigin code.items new

    abbrev Nowhere : NewItem → Type 0
    Nowhere new = targets_of new.insn ≡ []

    released_origin : (looped : Bool) (local : ℕ) → FitsTwo local → AllByRecursion Origin (released calls looped local)
    released_origin false local fits = (fits, (suits.free, (tt, (fits, tt))))
    released_origin true local fits = (fits, (suits.free_chain, (tt, (fits, tt))))

    taken_origin : (looped : Bool) (local : ℕ) → FitsTwo local → AllByRecursion Origin (taken calls looped local)
    taken_origin false local fits = (tt, (fits, tt))
    taken_origin true local fits = (tt, (fits, (suits.link, (fits, tt))))

    taken_nowhere : (looped : Bool) (local : ℕ) → AllByRecursion Nowhere (taken calls looped local)
    taken_nowhere false local = (refl, (refl, tt))
    taken_nowhere true local = (refl, (refl, (refl, (refl, tt))))

    taken_inserted : (looped : Bool) (local : ℕ) → AreInserted (taken calls looped local)
    taken_inserted false local = refl
    taken_inserted true local = refl

    started_may : MayBeInserted code.items started
    started_may = record {
      origin = all-flat Origin (λ h. null_stored (local_of code h)) (range_with_len 0 (length plan.holders))
          (λ h found. let inside = (Contains-from_range 0 (length plan.holders) h found).1 in (tt, (local_fits h (omega (arith, inside)), tt)));
      nowhere = all-flat Nowhere (λ h. null_stored (local_of code h)) (range_with_len 0 (length plan.holders)) (λ h found. (refl, (refl, tt)));
      inserted = flat_inserted (λ h. null_stored (local_of code h)) (range_with_len 0 (length plan.holders)) (λ h. refl);
    }

    ahead_may : (j : ℕ) → MayBeInserted code.items (ahead j)
    ahead_may j = record {
      origin = all-flat Origin (λ h. released calls (looped_at plan h) (local_of code h)) (before_at plan j)
          (λ h found. released_origin (looped_at plan h) (local_of code h) (local_fits h (suits.before j h found)));
      nowhere = all-flat Nowhere (λ h. released calls (looped_at plan h) (local_of code h)) (before_at plan j)
          (λ h found. (refl, (refl, (refl, (refl, tt)))));
      inserted = flat_inserted (λ h. released calls (looped_at plan h) (local_of code h)) (before_at plan j) (λ h. refl);
    }

    behind_may : (j : ℕ) → MayBeInserted code.items (behind j)
    behind_may j = record {
      origin = all-flat Origin (λ h. taken calls (looped_at plan h) (local_of code h)) (after_at plan j)
          (λ h found. taken_origin (looped_at plan h) (local_of code h) (local_fits h (after-inside plan j h found)));
      nowhere = all-flat Nowhere (λ h. taken calls (looped_at plan h) (local_of code h)) (after_at plan j)
          (λ h found. taken_nowhere (looped_at plan h) (local_of code h));
      inserted = flat_inserted (λ h. taken calls (looped_at plan h) (local_of code h)) (after_at plan j)
          (λ h. taken_inserted (looped_at plan h) (local_of code h));
    }

    pub chained_are_new : AreOldItems code.items → length (chained calls code plan) < MAX_NEW_ITEMS → AreNewItems code.items (chained calls code plan)
    chained_are_new old few =
        subst (λ items. AreNewItems code.items items) (sym chained_is)
        (replaced_is_laid_out code started ahead behind (count_at plan) counted old started_may ahead_may behind_may
        (subst (λ (items : List NewItem). length items < MAX_NEW_ITEMS) chained_is few))

pub chained_anchors_are_anchors : ChainedAnchorsAreAnchors
chained_anchors_are_anchors calls code plan = anchors_are_anchors calls code plan

pub chained_is_laid_out : ChainedIsLaidOut
chained_is_laid_out calls code plan old suits few = chained_are_new calls code plan suits old few
