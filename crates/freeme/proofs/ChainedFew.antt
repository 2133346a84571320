-- All that can be inserted into a method, with chains or without, makes fewer items than may be laid out.
use Rattle.std.proofs.Common.{◌≡◌, ℕ, suc, ◌+◌, ◌*◌, ◌<◌, ◌≤◌, Bool, true, false, cond, List, [], ◌∷◌, length, map, refl, sym, ap, ◌∙◌, arith, length-append}
use Rattle.std.specs.Prelude.{◌==◌}
use Rattle.std.specs.List.{flat_map, range_with_len}
use Rattle.std.proofs.lemmas.List.{length-map}
use Rattle.std.proofs.lemmas.List.FromFn.{length-range_with_len}
use Rattle.fm_base.specs.declared.limits.TheConstants.{MAX_LOCAL_WORDS}
use Rattle.fm_chain.specs.Chained.{anchors_of, chained, chained_item, chained_items, looped_at, released, taken}
use Rattle.fm_chain.specs.Loops.{is_looped}
use Rattle.fm_chain.specs.SafeChains.{with_loops}
use Rattle.fm_chain.specs.declared.calls.Calls.{Calls}
use Rattle.fm_code.specs.declared.code_array.Code.{Code}
use Rattle.fm_code.specs.declared.code_array.Item.{Item}
use Rattle.fm_conn.specs.Facts.{Facts}
use Rattle.fm_conn.specs.Nodes.{TypedMethod}
use Rattle.fm_layout.specs.declared.laying.TheConstants.{MAX_NEW_ITEMS}
use Rattle.fm_layout.specs.declared.new_items.NewItem.{NewItem}
use Rattle.fm_place.proofs.FullLemmas.{held-few}
use Rattle.fm_place.proofs.HolderLemmas.{holders_are, pairs_are}
use Rattle.fm_place.specs.Insertions.{after_at, all_holders, all_insertions, before_at, Holder, Insertions, numbers_of}
use Rattle.fm_place.specs.PlansBy.{paired}
use Rattle.fm_place.specs.Sites.{sites_of}
use Rattle.fm_place.specs.Woven.{kept, local_of, null_stored}
use Rattle.fm_rewrite.proofs.FullPlanLemmas.{before_few, holders_counted, pairs_counted, pairs_few}
use Rattle.fm_rewrite.specs.Plans.{inserted_for}

-- this many items for each holder of a list
each_size : (f : ℕ → List NewItem) (size : ℕ) → ((h : ℕ) → length (f h) ≡ size) → (hs : List ℕ) → length (flat_map f hs) ≡ size * length hs
each_size f size each [] = omega arith
each_size f size each (h ∷ hs) =
    let both = length-append (f h) (flat_map f hs) in
    let rest = each_size f size each hs in
    let here = each h in
    let more : size * suc (length hs) ≡ size + size * length hs = omega arith in
    both ∙ (λ k. here k + rest k) ∙ sym more

-- at most four
each_few : (f : ℕ → List NewItem) → ((h : ℕ) → length (f h) ≤ 4) → (hs : List ℕ) → length (flat_map f hs) ≤ 4 * length hs
each_few f each [] = omega arith
each_few f each (h ∷ hs) =
    let both = length-append (f h) (flat_map f hs) in
    let rest = each_few f each hs in
    let here = each h in
    omega (arith, both, rest, here)

module _ (calls : Calls) (code : Code) (plan : Insertions) where
  -- the pairs of these items
  abbrev pairs : (ℕ → List ℕ) → ℕ → ℕ → List (ℕ × ℕ)
  pairs f j n = flat_map (paired f) (range_with_len j n)

  pairs_next : (f : ℕ → List ℕ) (j n : ℕ) → length (pairs f j (suc n)) ≡ length (f j) + length (pairs f (j + 1) n)
  pairs_next f j n = length-append (paired f j) (pairs f (j + 1) n) ∙ ap (λ k. k + length (pairs f (j + 1) n)) (length-map (f j) (λ h. (j, h)))

  -- a holder takes an object by two or four items, and is freed by four
  abbrev taken_by : ℕ → List NewItem
  taken_by h = taken calls (looped_at plan h) (local_of code h)

  abbrev released_by : ℕ → List NewItem
  released_by h = released calls (looped_at plan h) (local_of code h)

  taken_few : (looped : Bool) (local : ℕ) → length (taken calls looped local) ≤ 4
  taken_few true local = omega arith
  taken_few false local = omega arith

  from_size : (anchors : List ℕ) (j : ℕ) (items : List Item) → length (chained_items calls code plan anchors j items)
      ≤ 4 * length (pairs (before_at plan) j (length items)) + length items + 4 * length (pairs (after_at plan) j (length items))
  from_size anchors j [] = omega arith
  from_size anchors j (item ∷ items) =
      let later = chained_items calls code plan anchors (j + 1) items in
      let rest = from_size anchors (j + 1) items in
      let all = length-append (chained_item calls code plan anchors j item.insn) later in
      let own = length-append (flat_map released_by (before_at plan j)) (kept anchors j item.insn ∷ flat_map taken_by (after_at plan j)) in
      let before = each_size released_by 4 (λ h. refl) (before_at plan j) in
      let after = each_few taken_by (λ h. taken_few (looped_at plan h) (local_of code h)) (after_at plan j) in
      let next_before = pairs_next (before_at plan) j (length items) in
      let next_after = pairs_next (after_at plan) j (length items) in
      omega (arith, rest, all, own, before, after, next_before, next_after)

  chained_size : length (chained calls code plan) ≤ 2 * length plan.holders
      + (4 * length (pairs (before_at plan) 0 (length code.items)) + length code.items + 4 * length (pairs (after_at plan) 0 (length code.items)))
  chained_size =
      let nulls_in = flat_map (λ h. null_stored (local_of code h)) (range_with_len 0 (length plan.holders)) in
      let both = length-append nulls_in (chained_items calls code plan (anchors_of plan code.items) 0 code.items) in
      let nulls = each_size (λ h. null_stored (local_of code h)) 2 (λ h. refl) (range_with_len 0 (length plan.holders)) in
      let count = length-range_with_len 0 (length plan.holders) in
      let items = from_size (anchors_of plan code.items) 0 code.items in
      omega (arith, both, nulls, count, items)

-- flags don't change which holders a site has
numbers_looped : (code : Code) (j n : ℕ) (holders : List Holder)
    → numbers_of (λ h. h.site == j) n (map (λ (h : Holder). record h { looped = is_looped code h.site }) holders) ≡ numbers_of (λ h. h.site == j) n holders
numbers_looped code j n [] = refl
numbers_looped code j n (h ∷ holders) = ap (λ ks. cond (h.site == j) (n ∷ ks) ks) (numbers_looped code j (n + 1) holders)

module _ (facts : Facts) (x : TypedMethod) where
  abbrev ins : Insertions
  ins = all_insertions facts x

  after_counted : length (flat_map (paired (after_at ins)) (range_with_len 0 (length x.code.items))) ≡ length (all_holders facts x)
  after_counted = ap length (sym (pairs_are facts x)) ∙ pairs_counted (sites_of facts x) ∙ ap length (holders_are facts x)

  before_counted : length (flat_map (paired (before_at ins)) (range_with_len 0 (length x.code.items))) ≤ MAX_LOCAL_WORDS * length x.code.items
  before_counted =
      let few = held-few facts x in
      let held = holders_counted facts x in
      pairs_few (before_at ins) 0 (length x.code.items) (λ j. let each = before_few facts x j in omega (arith, each, few, held))

  after_looped : length (flat_map (paired (after_at (with_loops x.code ins))) (range_with_len 0 (length x.code.items))) ≡ length (all_holders facts x)
  after_looped =
      (λ k. length (flat_map (paired (λ j. numbers_looped x.code j 0 ins.holders k)) (range_with_len 0 (length x.code.items)))) ∙ after_counted

  pub few_items : (chains : Bool) (calls : Calls) → length x.code.items ≤ 65535 → length (chained calls x.code (inserted_for chains x.code ins)) < MAX_NEW_ITEMS
  few_items false calls few =
      let size = chained_size calls x.code ins in
      let before = before_counted in
      let after = after_counted in
      let held = held-few facts x in
      let holders = holders_counted facts x in
      omega (arith, size, before, after, held, holders, few)
  few_items true calls few =
      let size = chained_size calls x.code (with_loops x.code ins) in
      let before = before_counted in
      let after = after_looped in
      let held = held-few facts x in
      let holders = holders_counted facts x in
      let same = length-map (all_holders facts x) (λ (h : Holder). record h { looped = is_looped x.code h.site }) in
      omega (arith, size, before, after, held, holders, same, few)
