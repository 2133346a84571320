-- What the plan of all that can be inserted into a method asks for: locals that there are, and fewer items than may be laid out.
use Rattle.std.proofs.Common.{◌≡◌, ℕ, zero, suc, ◌+◌, ◌-◌, ◌*◌, ◌<◌, ◌≤◌, ◌^◌, Bool, true, false, cond, List, [], ◌∷◌, length, map, replicate, take, Option, Some, None, Contains, refl, ap, sym, ◌∙◌, subst, ⊎_elim, arith, length-append, if◌then◌else◌}
use Rattle.std.specs.Prelude.{nat_lt, slice_get}
use Rattle.std.specs.List.{AllByRecursion, filter_map, flat_map, range_with_len}
use Rattle.std.proofs.lemmas.Bool.{cases_lt, ltb-false}
use Rattle.std.proofs.lemmas.List.{get_or_past, length-drop, length-map}
use Rattle.std.proofs.lemmas.List.FromFn.{length-map-range_with_len}
use Rattle.std.proofs.lemmas.Option.{none-some, same_Some, slice_get_within}
use Rattle.fm_rewrite.specs.Plans.{CallsFit, FullPlansMayBeWoven, inserted_for}
use Rattle.fm_base.proofs.ContainsFacts.{Contains-cons_cases, Contains-none}
use Rattle.fm_base.specs.declared.limits.TheConstants.{MAX_LOCAL_WORDS}
use Rattle.fm_base.specs.Rows.{has}
use Rattle.fm_chain.proofs.LaidChains.{chained_is_laid_out}
use Rattle.fm_chain.proofs.PlanLaws.{chain_plans_are_looped, paired_found}
use Rattle.fm_chain.proofs.Replaced.{sum_cons}
use Rattle.fm_chain.specs.Chained.{chained, taken_items}
use Rattle.fm_chain.specs.Laws.{CallsSuit}
use Rattle.fm_chain.specs.Loops.{is_looped}
use Rattle.fm_chain.specs.Planned.{chain_flags, IsSiteIn}
use Rattle.fm_chain.specs.declared.calls.Calls.{Calls}
use Rattle.fm_chain.specs.declared.plans.ChainPlan.{ChainPlan}
use Rattle.fm_code.proofs.EdgesLemmas.{Contains-first, Contains-from_filter, Contains-later}
use Rattle.fm_code.specs.Edges.{MeetsCodeRules}
use Rattle.fm_code.specs.declared.code_array.Item.{Item}
use Rattle.fm_conn.specs.Facts.{Facts}
use Rattle.fm_conn.specs.Nodes.{TypedMethod}
use Rattle.fm_conn.proofs.ListLemmas.{Contains-from_range}
use Rattle.fm_flow.proofs.CodeFacts.{items_counted}
use Rattle.fm_flow.proofs.SourcesLemmas.{Contains-from_flat_map}
use Rattle.fm_layout.proofs.LayoutLemmas.{narrow_fits}
use Rattle.fm_layout.specs.Conditions.{AreOldItems}
use Rattle.fm_layout.specs.Laid.{narrow_length}
use Rattle.fm_layout.specs.declared.laying.TheConstants.{MAX_NEW_ITEMS}
use Rattle.fm_place.proofs.FullLemmas.{before-is, held-few, numbers-found}
use Rattle.fm_place.proofs.HolderLemmas.{holders_are, pairs_are}
use Rattle.fm_place.proofs.WovenLemmas.{after-inside}
use Rattle.fm_place.specs.Insertions.{after_at, all_holders, all_insertions, before_at, Holder, Insertions, numbers_of}
use Rattle.fm_place.specs.Places.{is_place}
use Rattle.fm_place.specs.PlansBy.{holders_in, IsPlanOf, paired}
use Rattle.fm_place.specs.Sites.{captured_sites, held_sites, is_captured_site, site_class, sites_of}
use Rattle.fm_place.specs.Woven.{null_stored_items}
use Rattle.fm_place.specs.declared.found_sites.Site.{Site}
use Rattle.fm_place.specs.declared.limits.TheConstants.{MAX_HOLDING_STACK_WORDS}
use Rattle.fm_place.specs.declared.plans.Plan.{Plan}
use Rattle.fm_place.specs.inner.PlanRows.{pair_of}
use Rattle.fm_place_weave.proofs.LengthLemmas.{length-part, number_by-is}
use Rattle.fm_place_weave.proofs.NarrowLemmas.{narrow-is}
use Rattle.fm_place_weave.proofs.PairLemmas.{leading_within}
use Rattle.fm_place_weave.proofs.PlanLemmas.{items-is, may-be-woven, words_few}
use Rattle.fm_place_weave.specs.ByPlan.{count_here, here, later, leading, narrow_by, no_calls, number_after, number_by, taken_count}
use Rattle.fm_place_weave.specs.Conditions.{AreFlagged, AreLocals, HasRoom, MayBeWoven}
use Rattle.fm_place_weave.specs.Laws.{IsWholePlan}

-- ---- lists

numbers_few : (test : Holder → Bool) (n : ℕ) (holders : List Holder) → length (numbers_of test n holders) ≤ length holders
numbers_few test n [] = omega arith
numbers_few test n (h ∷ holders) = by_test (test h) (numbers_few test (n + 1) holders) where
  by_test : (b : Bool) → length (numbers_of test (n + 1) holders) ≤ length holders
      → length (cond b (n ∷ numbers_of test (n + 1) holders) (numbers_of test (n + 1) holders)) ≤ length (h ∷ holders)
  by_test true rest = omega (arith, rest)
  by_test false rest = omega (arith, rest)

-- this many items with a few numbers each
pub pairs_few : (f : ℕ → List ℕ) (a n : ℕ) → ((j : ℕ) → length (f j) ≤ MAX_LOCAL_WORDS)
    → length (flat_map (paired f) (range_with_len a n)) ≤ MAX_LOCAL_WORDS * n
pairs_few f a zero each = omega arith
pairs_few f a (suc n) each =
    let both = length-append (paired f a) (flat_map (paired f) (range_with_len (a + 1) n)) in
    let here : length (paired f a) ≡ length (f a) = length-map (f a) (λ h. (a, h)) in
    let one = each a in
    let rest = pairs_few f (a + 1) n each in
    omega (arith, both, here, one, rest)

pairs_none : (f : ℕ → List ℕ) (a n : ℕ) → ((j : ℕ) → length (f j) ≤ 0) → length (flat_map (paired f) (range_with_len a n)) ≤ 0
pairs_none f a zero each = omega arith
pairs_none f a (suc n) each =
    let both = length-append (paired f a) (flat_map (paired f) (range_with_len (a + 1) n)) in
    let here : length (paired f a) ≡ length (f a) = length-map (f a) (λ h. (a, h)) in
    let one = each a in
    let rest = pairs_none f (a + 1) n each in
    omega (arith, both, here, one, rest)

-- a pair for each holder
pub pairs_counted : (sites : List Site) → length (filter_map pair_of sites) ≡ length (holders_in sites)
pairs_counted [] = refl
pairs_counted (s ∷ sites) = by_holder s.holder (pairs_counted sites) where
  by_holder : (o : Option ℕ) → length (filter_map pair_of sites) ≡ length (holders_in sites)
      → length (filter_map pair_of (record s { holder = o } ∷ sites)) ≡ length (holders_in (record s { holder = o } ∷ sites))
  by_holder None so_far = so_far
  by_holder (Some h) so_far = ap suc so_far

no_locals : (first : ℕ) (pairs : List (ℕ × ℕ)) → length pairs ≤ 0 → AreLocals first pairs
no_locals first [] none = tt
no_locals first (p ∷ pairs) none = absurd (omega arith)

no_flags : (looped : List Bool) (pairs : List (ℕ × ℕ)) → length pairs ≤ 0 → AreFlagged looped pairs
no_flags looped [] none = tt
no_flags looped (p ∷ pairs) none = absurd (omega arith)

-- a holder takes an object by no more than four items
few_items : (looped : Bool) → taken_items looped ≤ 4
few_items true = omega arith
few_items false = omega arith

taken_few : (looped : List Bool) (pairs : List (ℕ × ℕ)) → taken_count looped pairs ≤ 4 * length pairs
taken_few looped [] = omega arith
taken_few looped (p ∷ pairs) =
    let sum = sum_cons (λ (q : ℕ × ℕ). taken_items (has looped q.1)) p pairs in
    let one = few_items (has looped p.1) in
    let rest = taken_few looped pairs in
    omega (arith, sum, one, rest)

-- the number of all new items, by how many pairs there are
pub number_few : (looped : List Bool) (number j : ℕ) (before after : List (ℕ × ℕ)) (items : List Item)
    → number_after looped number j before after items ≤ number + 4 * length before + length items + 4 * length after
number_few looped number j before after [] = omega arith
number_few looped number j before after (item ∷ items) =
    let rest = number_few looped (number + count_here looped j before after) (j + 1) (later j before) (later j after) items in
    let freed = length-drop (leading j before) before in
    let stored = length-drop (leading j after) after in
    let some = leading_within j before in
    let more = leading_within j after in
    let taken = taken_few looped (here j after) in
    let size = length-part (leading j after) after more in
    omega (arith, rest, freed, stored, some, more, taken, size)

taken_among : (k : ℕ) (xs : List ℕ) (x : ℕ) → Contains (take k xs) x → Contains xs x
taken_among zero xs x found = absurd (Contains-none x found)
taken_among (suc k) [] x found = found
taken_among (suc k) (y ∷ xs) x found =
    ⊎_elim (λ (same : x ≡ y). Contains-first y xs x same) (λ later. Contains-later y xs x (taken_among k xs x later)) (Contains-cons_cases y (take k xs) x found)

-- ---- all that can be inserted

module _ (facts : Facts) (x : TypedMethod) where
  pub one_each : length (all_insertions facts x).before ≡ length x.code.items
  one_each = length-map-range_with_len (λ j. numbers_of (λ h. is_place facts x h.site h.class j) 0 (all_holders facts x)) 0 (length x.code.items)

  abbrev made : ℕ → Holder
  made j = record { site = j; class = site_class facts x j; looped = false }

  pub holders_counted : length (all_holders facts x) ≡ length (held_sites facts x)
  holders_counted = length-map (held_sites facts x) made

  none_past : (j : ℕ) → length x.code.items ≤ j → before_at (all_insertions facts x) j ≡ []
  none_past j past = get_or_past (all_insertions facts x).before j [] (omega (arith, past, one_each))

  pub before_few : (j : ℕ) → length (before_at (all_insertions facts x) j) ≤ length (all_holders facts x)
  before_few j = ⊎_elim
      (λ (inside : j < length x.code.items).
      subst (λ (numbers : List ℕ). length numbers ≤ length (all_holders facts x)) (sym (before-is facts x j inside))
      (numbers_few (λ h. is_place facts x h.site h.class j) 0 (all_holders facts x)))
      (λ (past : length x.code.items ≤ j).
      subst (λ (numbers : List ℕ). length numbers ≤ length (all_holders facts x)) (sym (none_past j past)) (omega arith))
      (cases_lt j (length x.code.items))

  freed_inside : (j number : ℕ) → Contains (before_at (all_insertions facts x) j) number → number < length (all_holders facts x)
  freed_inside j number found = ⊎_elim
      (λ (inside : j < length x.code.items).
      let was = numbers-found (λ h. is_place facts x h.site h.class j) 0 (all_holders facts x) number
      (subst (λ numbers. Contains numbers number) (before-is facts x j inside) found) in
      let there = slice_get_within (all_holders facts x) was.place was.holder was.there in
      omega (arith, there, was.number))
      (λ (past : length x.code.items ≤ j).
      absurd (Contains-none number (subst (λ numbers. Contains numbers number) (none_past j past) found)))
      (cases_lt j (length x.code.items))

  -- ---- with chains or without

  abbrev made_for : Bool → Insertions
  made_for chains = inserted_for chains x.code (all_insertions facts x)

  holders_for : (chains : Bool) → length (made_for chains).holders ≡ length (all_holders facts x)
  holders_for false = refl
  holders_for true = length-map (all_holders facts x) (λ (h : Holder). record h { looped = is_looped x.code h.site })

  pub all_suits : (chains : Bool) (calls : Calls) → CallsFit calls → x.code.max_locals ≤ MAX_LOCAL_WORDS → CallsSuit calls x.code (made_for chains)
  all_suits false calls fit narrow = record {
    free = fit.free;
    link = fit.link;
    free_chain = fit.free_chain;
    room = let few = held-few facts x in let count = holders_counted in omega (arith, few, count, narrow);
    before = freed_inside;
  }
  all_suits true calls fit narrow = record {
    free = fit.free;
    link = fit.link;
    free_chain = fit.free_chain;
    room = let few = held-few facts x in let count = holders_counted in let same = holders_for true in omega (arith, few, count, same, narrow);
    before = λ j number found. let inside = freed_inside j number found in let same = holders_for true in omega (arith, inside, same);
  }

  -- the site of a holder is an item
  site_inside : (js : List ℕ) (number : ℕ) (h : Holder) → ((j : ℕ) → Contains js j → j < length x.code.items) → slice_get (map made js) number ≡ Some h
      → h.site < length x.code.items
  site_inside [] number h each there = absurd (none-some h there)
  site_inside (j ∷ js) zero h each there =
      subst (λ (g : Holder). g.site < length x.code.items) (same_Some (made j) h there) (each j (Contains-first j js j refl))
  site_inside (j ∷ js) (suc number) h each there = site_inside js number h (λ k found. each k (Contains-later j js k found)) there

  held_inside : (j : ℕ) → Contains (held_sites facts x) j → j < length x.code.items
  held_inside j found = by_stack (nat_lt MAX_HOLDING_STACK_WORDS x.code.max_stack) found where
    by_stack : (b : Bool) → Contains (cond b [] (take (MAX_LOCAL_WORDS - x.code.max_locals) (captured_sites facts x))) j → j < length x.code.items
    by_stack true none = absurd (Contains-none j none)
    by_stack false among =
        let captured = taken_among (MAX_LOCAL_WORDS - x.code.max_locals) (captured_sites facts x) j among in
        let listed = (Contains-from_filter (is_captured_site facts x) (range_with_len 0 (length x.code.items)) j captured).0 in
        let inside = (Contains-from_range 0 (length x.code.items) j listed).1 in
        omega (arith, inside)

  unflagged : (js : List ℕ) → replicate (length (map made js)) false ≡ map (λ (h : Holder). h.looped) (map made js)
  unflagged [] = refl
  unflagged (j ∷ js) = ap (λ rest. false ∷ rest) (unflagged js)

  module _ (plan : Plan) (is : IsPlanOf (all_insertions facts x) plan) where
    -- the plan with its flags
    abbrev pub held_for : Bool → ChainPlan
    held_for chains = record { plan = plan; looped = if chains then chain_flags x.code plan else replicate plan.holders false }

    pub whole : (chains : Bool) → IsWholePlan x.code (made_for chains) (held_for chains)
    whole false = record {
      plan_is = record { plan_is = is; flags = ap (λ n. replicate n false) is.holders ∙ unflagged (held_sites facts x) };
      whole = one_each;
    }
    whole true = record {
      plan_is = chain_plans_are_looped x.code (all_insertions facts x) plan is
          (λ number h there. let inside = site_inside (held_sites facts x) number h held_inside there in omega (arith, inside, one_each));
      whole = one_each;
    }

    -- a flag for each holder
    flags_counted : (chains : Bool) → length (held_for chains).looped ≡ plan.holders
    flags_counted chains =
        ap (λ (row : List Bool). length row) (whole chains).plan_is.flags ∙ length-map (made_for chains).holders (λ (h : Holder). h.looped)
        ∙ holders_for chains ∙ sym is.holders

    before_counted : length plan.before.items ≤ MAX_LOCAL_WORDS * length x.code.items
    before_counted =
        let same : length plan.before.items ≡ length (flat_map (paired (before_at (all_insertions facts x))) (range_with_len 0 (length x.code.items))) =
        ap length is.before ∙ ap (λ n. length (flat_map (paired (before_at (all_insertions facts x))) (range_with_len 0 n))) one_each in
        let few = pairs_few (before_at (all_insertions facts x)) 0 (length x.code.items)
        (λ j. let each = before_few j in let few = held-few facts x in omega (arith, each, few, holders_counted)) in
        omega (arith, same, few)

    after_counted : length plan.after.items ≡ length (all_holders facts x)
    after_counted =
        ap length is.after ∙ ap (λ n. length (flat_map (paired (after_at (all_insertions facts x))) (range_with_len 0 n))) one_each
        ∙ ap length (sym (pairs_are facts x)) ∙ pairs_counted (sites_of facts x) ∙ ap length (holders_are facts x)

    -- there are fewer new items than may be laid out
    pub items_few : (chains : Bool) (calls : Calls) → length x.code.items ≤ 65535 → length (chained calls x.code (made_for chains)) < MAX_NEW_ITEMS
    items_few chains calls few =
        let same : number_by x.code (held_for chains) ≡ length (chained calls x.code (made_for chains)) =
        number_by-is calls x.code (held_for chains) ∙ ap length (items-is calls x.code (made_for chains) (held_for chains) (whole chains)) in
        let all = number_few (held_for chains).looped (null_stored_items * plan.holders) 0 plan.before.items plan.after.items x.code.items in
        let held = held-few facts x in
        let holders : plan.holders ≡ length (all_holders facts x) = is.holders in
        omega (arith, same, all, held, holders, holders_counted, before_counted, after_counted, few)

    -- nothing is held where the stack is high
    none_held : nat_lt MAX_HOLDING_STACK_WORDS x.code.max_stack ≡ true → length (all_holders facts x) ≡ 0
    none_held high =
        holders_counted ∙ ap (λ (b : Bool). length (cond b [] (take (MAX_LOCAL_WORDS - x.code.max_locals) (captured_sites facts x)))) high

    room_of_none : (chains : Bool) → x.code.max_locals ≤ MAX_LOCAL_WORDS → length (all_holders facts x) ≡ 0 → HasRoom x.code (held_for chains)
    room_of_none chains narrow none =
        let none_freed : length plan.before.items ≤ 0 =
        (let same : length plan.before.items ≡ length (flat_map (paired (before_at (all_insertions facts x))) (range_with_len 0 (length x.code.items))) =
        ap length is.before ∙ ap (λ n. length (flat_map (paired (before_at (all_insertions facts x))) (range_with_len 0 n))) one_each in
        let few = pairs_none (before_at (all_insertions facts x)) 0 (length x.code.items) (λ j. let each = before_few j in omega (arith, each, none)) in
        omega (arith, same, few)) in
        record {
          holders = let holders : plan.holders ≡ length (all_holders facts x) = is.holders in omega (arith, holders, none, narrow);
          flags = let size = flags_counted chains in omega (arith, size);
          before = no_locals x.code.max_locals plan.before.items none_freed;
          after = no_locals x.code.max_locals plan.after.items (omega (arith, after_counted, none));
          freed = no_flags (held_for chains).looped plan.before.items none_freed;
          taken = no_flags (held_for chains).looped plan.after.items (omega (arith, after_counted, none));
        }

    no_calls_fit : CallsFit no_calls
    no_calls_fit = record { free = omega arith; link = omega arith; free_chain = omega arith }

    -- the plan's holders have locals and flags
    pub has_room : (chains : Bool) → AreOldItems x.code.items → MeetsCodeRules x.code → x.code.max_locals ≤ MAX_LOCAL_WORDS → HasRoom x.code (held_for chains)
    has_room chains old rules narrow = by_stack (nat_lt MAX_HOLDING_STACK_WORDS x.code.max_stack) refl where
      by_stack : (b : Bool) → nat_lt MAX_HOLDING_STACK_WORDS x.code.max_stack ≡ b → HasRoom x.code (held_for chains)
      by_stack true high = room_of_none chains narrow (none_held high)
      by_stack false low =
          (may-be-woven no_calls x.code (made_for chains) (held_for chains) (whole chains) old rules
          (let short = ltb-false MAX_HOLDING_STACK_WORDS x.code.max_stack low in let words = words_few (held_for chains) in omega (arith, short, words))
          (all_suits chains no_calls no_calls_fit narrow) (items_few chains no_calls (items_counted x.code rules).1)).room

    -- their bytes fit 32 bits
    pub bytes_fit : (chains : Bool) → AreOldItems x.code.items → MeetsCodeRules x.code → x.code.max_locals ≤ MAX_LOCAL_WORDS
        → narrow_by x.code (held_for chains) < 2 ^ 32
    unfolding narrow_length
    bytes_fit chains old rules narrow =
        let few = items_few chains no_calls (items_counted x.code rules).1 in
        let new = chained_is_laid_out no_calls x.code (made_for chains) old (all_suits chains no_calls no_calls_fit narrow) few in
        let fits = narrow_fits x.code.items (chained no_calls x.code (made_for chains)) old new in
        let same : narrow_by x.code (held_for chains) ≡ narrow_length x.code.items (chained no_calls x.code (made_for chains)) =
        narrow-is no_calls x.code (held_for chains)
        ∙ ap (narrow_length x.code.items) (items-is no_calls x.code (made_for chains) (held_for chains) (whole chains)) in
        omega (arith, same, fits)

    -- a word of stack is left where a site is held
    pub held_stack : 0 < plan.holders → x.code.max_stack ≤ MAX_HOLDING_STACK_WORDS
    held_stack some = by_stack (nat_lt MAX_HOLDING_STACK_WORDS x.code.max_stack) refl where
      by_stack : (b : Bool) → nat_lt MAX_HOLDING_STACK_WORDS x.code.max_stack ≡ b → x.code.max_stack ≤ MAX_HOLDING_STACK_WORDS
      by_stack true high =
          let holders : plan.holders ≡ length (all_holders facts x) = is.holders in absurd (omega (arith, some, holders, none_held high))
      by_stack false low = omega (arith, ltb-false MAX_HOLDING_STACK_WORDS x.code.max_stack low)

    -- the pairs are of items and holders
    pub sites_in : AllByRecursion (IsSiteIn x.code plan.holders) plan.after.items
    sites_in =
        subst (AllByRecursion (IsSiteIn x.code plan.holders)) (sym (is.after ∙ ap (λ n. flat_map (paired (after_at (all_insertions facts x))) (range_with_len 0 n)) one_each))
        (all_from (flat_map (paired (after_at (all_insertions facts x))) (range_with_len 0 (length x.code.items))) (λ p found. found)) where
          one : (p : ℕ × ℕ) → Contains (flat_map (paired (after_at (all_insertions facts x))) (range_with_len 0 (length x.code.items))) p
              → IsSiteIn x.code plan.holders p
          one p found =
              let from = Contains-from_flat_map (paired (after_at (all_insertions facts x))) (range_with_len 0 (length x.code.items)) p found in
              let parts = paired_found from.0 (after_at (all_insertions facts x) from.0) p from.2 in
              let item = (Contains-from_range 0 (length x.code.items) from.0 from.1).1 in
              let holder = after-inside (all_insertions facts x) from.0 p.1 parts.1 in
              record { site = omega (arith, item, parts.0); holder = omega (arith, holder, is.holders) }

          all_from : (pairs : List (ℕ × ℕ))
              → ((p : ℕ × ℕ) → Contains pairs p → Contains (flat_map (paired (after_at (all_insertions facts x))) (range_with_len 0 (length x.code.items))) p)
              → AllByRecursion (IsSiteIn x.code plan.holders) pairs
          all_from [] among = tt
          all_from (p ∷ pairs) among =
              (one p (among p (Contains-first p pairs p refl)), all_from pairs (λ q found. among q (Contains-later p pairs q found)))

pub full_may_be_woven : FullPlansMayBeWoven
full_may_be_woven calls facts x plan chains held fit old rules narrow is held_is some =
    subst (MayBeWoven calls x.code) (sym held_is)
    (may-be-woven calls x.code (made_for facts x chains) (held_for facts x plan is chains) (whole facts x plan is chains) old rules
    (let short = held_stack facts x plan is some in let words = words_few (held_for facts x plan is chains) in omega (arith, short, words))
    (all_suits facts x chains calls fit narrow.locals) (items_few facts x plan is chains calls (items_counted x.code rules).1))
