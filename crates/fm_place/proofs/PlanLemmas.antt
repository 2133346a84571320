-- The plan that is made of pairs is that of the definitions, by all facts that agree on the method
-- with its classes and its live locals.
use Rattle.std.proofs.Common.{◌≡◌, ℕ, zero, suc, ◌+◌, ◌<◌, ◌≤◌, ◌++◌, ◌&&◌, not, IfOk, Result, Bool, true, false, cond, List, [], ◌∷◌, length, map, get_or, Option, Some, None, Contains, refl, ap, sym, ◌∙◌, subst, ⊎_elim, append_assoc, arith, length-append}
use Rattle.std.specs.Prelude.{filter, nat_eq, slice_get}
use Rattle.std.specs.List.{filter_map, flat_map, range_with_len, sum}
use Rattle.std.proofs.lemmas.Bool.{cases_lt, not-true}
use Rattle.std.proofs.lemmas.List.{get_or_past, length-map}
use Rattle.std.proofs.lemmas.List.FromFn.{length-map-range_with_len}
use Rattle.std.proofs.lemmas.List.Sums.{sum_by-cons}
use Rattle.std.proofs.lemmas.Option.{slice_get-get_or, slice_get_within}
use Rattle.std.proofs.lemmas.Result.{IfOk-weaker}
use Rattle.std.proofs.Math.Seq.{get_or-append_seam}
use Rattle.fm_base.proofs.ContainsFacts.{Contains-none}
use Rattle.fm_base.proofs.TestFacts.{and_left, and_right, apart-nat_eq}
use Rattle.fm_base.specs.Rows.{has}
use Rattle.fm_conn.specs.Classes.{class_of}
use Rattle.fm_conn.specs.Facts.{Facts}
use Rattle.fm_conn.specs.Nodes.{Node, TypedMethod}
use Rattle.fm_conn.specs.Summaries.{is_linked}
use Rattle.fm_conn.specs.declared.class_numbers.Classes.{Classes}
use Rattle.fm_conn.specs.declared.ends.End2.{End2}
use Rattle.fm_conn.specs.declared.summaries.Summaries.{Summaries}
use Rattle.fm_base.proofs.RowFacts.{has_inside}
use Rattle.fm_flow.specs.inner.LiveWalks.{row_of}
use Rattle.fm_place.proofs.FullLemmas.{before-is, full-safe}
use Rattle.fm_place.proofs.GroupLemmas.{holder_row, slice_get-mapped}
use Rattle.fm_place.proofs.RowLemmas.{filter_range_same}
use Rattle.fm_place.proofs.HolderLemmas.{flat_range_same, holders_are, numbers_by_range, pair_held, pairs_are, pairs_held}
use Rattle.fm_place.specs.FactsBy.{facts_by}
use Rattle.fm_place.specs.Insertions.{after_at, all_holders, all_insertions, before_at, Holder, Insertions, numbers_of}
use Rattle.fm_place.specs.Laws.{FreesAreCounted, FullSuits, HoldersTellFull}
use Rattle.fm_place.specs.Places.{is_place}
use Rattle.fm_place.specs.PlansBy.{holders_in, IsPlanOf, IsToldBy, paired}
use Rattle.fm_place.specs.Sites.{held_sites, site_class, sites_of}
use Rattle.fm_place.specs.declared.busy_rows.Seen.{Seen}
use Rattle.fm_place.specs.declared.found_sites.Site.{Site}
use Rattle.fm_place.specs.declared.groups.Groups.{Groups}
use Rattle.fm_place.specs.declared.holding_rows.Holding.{Holding}
use Rattle.fm_place.specs.declared.plans.Plan.{Plan}
use Rattle.fm_place.specs.inner.PlanRows.{AreFreedRows, AreGroups, AreHolding, AreRowsIn, count_of, facts_seen, freed_by_rows, freed_of, held_of, is_busy_at, is_freed, is_place_at, IsPlanBy, pair_of, typed_seen}

abbrev pub full_of : Facts → TypedMethod → List ℕ → Option Insertions
full_of facts x [] = None
full_of facts x (site ∷ sites) = Some (all_insertions facts x)

-- a place by one kind of facts is one by the other
pub place_told : (s : Seen) (facts : Facts) (site class j : ℕ) → IsToldBy facts s.method.number.0 s.classes.now s.live.now
    → is_place (facts_seen s) (typed_seen s) site class j ≡ is_place facts (typed_seen s) site class j
place_told s facts site class j told =
    sym (λ k. is_place (record {
      typing = λ method. [];
      linked = λ method a b. false;
      live = λ method local item. told.lives local item k;
      class = λ method node. told.class node k;
    }) (typed_seen s) site class j)

-- what is freed before an item
freed_told : (s : Seen) (facts : Facts) (sites : List Site) (j : ℕ) → IsToldBy facts s.method.number.0 s.classes.now s.live.now
    → sites ≡ sites_of facts (typed_seen s) → j < length s.method.code.now.items
    → freed_of s (filter_map held_of sites) j ≡ before_at (all_insertions facts (typed_seen s)) j
freed_told s facts sites j told are inside =
    ap (λ held. freed_of s held j) (pairs_held sites)
    ∙ ap (λ n. filter (λ h. is_place_at s j (slice_get (map pair_held holders) h)) (range_with_len 0 n)) (length-map holders pair_held)
    ∙ numbers_by_range (λ h. is_place_at s j (slice_get (map pair_held holders) h)) (λ (h : Holder). is_place facts (typed_seen s) h.site h.class j) 0 holders
    (λ k h there.
    let same : 0 + k ≡ k = omega arith in
    ap (λ n. is_place_at s j (slice_get (map pair_held holders) n)) same
    ∙ ap (is_place_at s j) (slice_get-mapped pair_held holders k h there) ∙ place_told s facts h.site h.class j told)
    ∙ ap (numbers_of (λ (h : Holder). is_place facts (typed_seen s) h.site h.class j) 0) (ap holders_in are ∙ holders_are facts (typed_seen s))
    ∙ sym (before-is facts (typed_seen s) j inside) where
      holders : List Holder
      holders = holders_in sites

pub plan_told : (s : Seen) (facts : Facts) (sites : List Site) (plan : Plan) → IsToldBy facts s.method.number.0 s.classes.now s.live.now
    → sites ≡ sites_of facts (typed_seen s) → IsPlanBy s sites plan → IsPlanOf (all_insertions facts (typed_seen s)) plan
plan_told s facts sites plan told are is = record {
  holders =
      is.holders ∙ ap length (pairs_held sites) ∙ length-map (holders_in sites) pair_held
      ∙ ap length (ap holders_in are ∙ holders_are facts x);
  after = is.after ∙ ap (filter_map pair_of) are ∙ pairs_are facts x ∙ ap (λ n. flat_map (paired (after_at plan_is)) (range_with_len 0 n)) (sym all);
  before =
      is.before
      ∙ flat_range_same (paired (freed_of s (filter_map held_of sites))) (paired (before_at plan_is)) 0 (length x.code.items)
      (λ j low high. ap (map (λ h. (j, h))) (freed_told s facts sites j told are (omega arith)))
      ∙ ap (λ n. flat_map (paired (before_at plan_is)) (range_with_len 0 n)) (sym all);
} where
  x : TypedMethod
  x = typed_seen s

  plan_is : Insertions
  plan_is = all_insertions facts x

  all : length plan_is.before ≡ length x.code.items
  all = length-map-range_with_len (λ j. numbers_of (λ h. is_place facts x h.site h.class j) 0 (all_holders facts x)) 0 (length x.code.items)

-- ---- the facts of one method and those of a program

pub sites_told : (facts : Facts) (x : TypedMethod) (classes : Classes) (summaries : Summaries)
    → ((node : Node) → facts.class x.number node ≡ class_of classes node)
    → ((method : ℕ) (a b : End2) → facts.linked method a b ≡ is_linked summaries method a b)
    → sites_of facts x ≡ sites_of (facts_by classes summaries) x
unfolding sites_of
sites_told facts x classes summaries class linked =
    λ k. sites_of (record {
      typing = λ method. [];
      linked = λ method a b. linked method a b k;
      live = λ method local item. false;
      class = λ method node. class node k;
    }) x

-- ---- what follows for layout and for counts

pub full_suits : FullSuits
full_suits free facts x plan fits full =
    let safe = full-safe facts x plan full in
    record {
      entry = fits;
      room = safe.room;
      before = λ j number found.
          ⊎_elim
          (λ (inside : j < length x.code.items).
          let may = (safe.items j inside).may number found in slice_get_within plan.holders number may.holder may.is)
          (λ (past : length x.code.items ≤ j).
          let none : before_at plan j ≡ [] = get_or_past plan.before j [] (omega (arith, safe.one_each)) in
          absurd (Contains-none number (subst (λ numbers. Contains numbers number) none found)))
          (cases_lt j (length x.code.items));
    }

pairs_counted : (done lists : List (List ℕ))
    → length (flat_map (paired (λ j. get_or (done ++ lists) j [])) (range_with_len (length done) (length lists))) ≡ sum (map (λ (l : List ℕ). length l) lists)
pairs_counted done [] = refl
pairs_counted done (l ∷ lists) =
    let whole = paired (λ j. get_or (done ++ l ∷ lists) j []) in
    let both = length-append (whole (length done)) (flat_map whole (range_with_len (length done + 1) (length lists))) in
    let here : length (whole (length done)) ≡ length l =
    length-map (get_or (done ++ l ∷ lists) (length done) []) (λ h. (length done, h)) ∙ ap length (get_or-append_seam done l lists []) in
    let next : length (done ++ l ∷ []) ≡ length done + 1 = length-append done (l ∷ []) in
    let rest : length (flat_map whole (range_with_len (length done + 1) (length lists))) ≡ sum (map (λ (l : List ℕ). length l) lists) =
    sym (ap (λ list. length (flat_map (paired (λ j. get_or list j [])) (range_with_len (length done + 1) (length lists)))) (append_assoc done (l ∷ []) lists))
    ∙ sym (ap (λ n. length (flat_map (paired (λ j. get_or ((done ++ l ∷ []) ++ lists) j [])) (range_with_len n (length lists)))) next)
    ∙ pairs_counted (done ++ l ∷ []) lists in
    let first : sum (map (λ (l : List ℕ). length l) (l ∷ lists)) ≡ length l + sum (map (λ (l : List ℕ). length l) lists) =
    sum_by-cons (λ (n : ℕ). n) (length l) (map (λ (l : List ℕ). length l) lists) in
    omega (arith, both, here, rest, first)

pub frees_counted : FreesAreCounted
frees_counted insertions plan is = ap length is.before ∙ pairs_counted [] insertions.before

pub holders_tell_full : HoldersTellFull
holders_tell_full facts x plan is = of_sites (held_sites facts x) (is.holders ∙ length-map (held_sites facts x) made) where
  made : ℕ → Holder
  made j = record { site = j; class = site_class facts x j; looped = false }

  of_sites : (sites : List ℕ) → plan.holders ≡ length sites
      → full_of facts x sites ≡ cond (nat_eq plan.holders 0) None (Some (all_insertions facts x))
  of_sites [] none = ap (λ n. cond (nat_eq n 0) None (Some (all_insertions facts x))) (sym none)
  of_sites (site ∷ sites) some =
      ap (λ b. cond b None (Some (all_insertions facts x))) (sym (apart-nat_eq plan.holders 0 (λ same. absurd (omega (arith, same, some)))))

-- ---- for the code

-- a plan of what is known of a method is that of the definitions
pub plans_told : {E : Type 0} (s : Seen) (facts : Facts) (sites : List Site) (answer : Result Plan E) → IfOk answer (IsPlanBy s sites)
    → IsToldBy facts s.method.number.0 s.classes.now s.live.now → sites ≡ sites_of facts (typed_seen s)
    → IfOk answer (IsPlanOf (all_insertions facts (typed_seen s)))
plans_told s facts sites answer is told are =
    IfOk-weaker answer (IsPlanBy s sites) (IsPlanOf (all_insertions facts (typed_seen s))) (λ plan by. plan_told s facts sites plan told are by) is

-- ---- what is freed by rows

module _ (s : Seen) (g : Groups) (busy : List (List Bool)) (holding : Holding) (groups : AreGroups g) (busy_are : AreRowsIn g (count_of s) (is_busy_at s) busy)
    (holding_are : AreHolding s g.held.now (length g.held.now) holding.freed holding.rows.items) where
  pub holders : length g.of_holders.items ≡ length g.held.now
  holders = groups.numbered.one_each ∙ length-map g.held.now (λ (p : ℕ × ℕ). p.1)

  -- whether a holder is freed by the rows
  freed_is : (h j : ℕ) (pair : ℕ × ℕ) → slice_get g.held.now h ≡ Some pair → j < count_of s
      → is_freed g.of_holders.items busy holding.rows.items j h ≡ is_place_at s j (Some pair)
  freed_is h j pair there inside =
      let own = holder_row g (count_of s) (is_busy_at s) busy groups busy_are h pair there in
      let follows = holding_are.each h pair (slice_get_within g.held.now h pair there) there in
      λ k. not (own.1.each j inside k) && follows.row_is.each j inside k

  there_is : (h : ℕ) → h < length g.held.now → slice_get g.held.now h ≡ Some (get_or g.held.now h (0, 0))
  there_is h inside = slice_get-get_or g.held.now h (0, 0) inside

  pub freed_rows : AreFreedRows g.of_holders.items busy holding
  freed_rows = record {
    few = omega (arith, groups.few, holders);
    one_each = holding_are.one_each ∙ sym holders;
    numbers = λ h inside.
        (holder_row g (count_of s) (is_busy_at s) busy groups busy_are h (get_or g.held.now h (0, 0)) (there_is h (omega (arith, inside, holders)))).0;
    busy_wide = λ n inside. busy_are.wide n inside ∙ sym holding_are.freed_bits;
    wide = λ h inside.
        let below : h < length g.held.now = omega (arith, inside, holding_are.one_each) in
        (holding_are.each h (get_or g.held.now h (0, 0)) below (there_is h below)).row_is.wide ∙ sym holding_are.freed_bits;
    marked = marked;
  } where
    marked : (item h : ℕ) → h < length g.of_holders.items → is_freed g.of_holders.items busy holding.rows.items item h ≡ true → has holding.freed item ≡ true
    marked item h inside freed =
        let below : h < length g.held.now = omega (arith, inside, holders) in
        let pair = get_or g.held.now h (0, 0) in
        let own = holder_row g (count_of s) (is_busy_at s) busy groups busy_are h pair (there_is h below) in
        let follows = holding_are.each h pair below (there_is h below) in
        let quiet = not (has (row_of busy (get_or g.of_holders.items h 0)) item) in
        let holds = has (row_of holding.rows.items h) item in
        let set_now : holds ≡ true = and_right quiet holds freed in
        let within : item < count_of s = let bit = has_inside (row_of holding.rows.items h) item set_now in omega (arith, bit, follows.row_is.wide) in
        follows.frees item set_now
        (sym (own.1.each item within) ∙ not-true (has (row_of busy (get_or g.of_holders.items h 0)) item) (and_left quiet holds freed))

  -- what is freed by rows is what is freed at places
  pub all_freed_same : flat_map (paired (freed_by_rows g.of_holders.items busy holding.rows.items)) (range_with_len 0 (length holding.freed))
      ≡ flat_map (paired (freed_of s g.held.now)) (range_with_len 0 (count_of s))
  all_freed_same =
      ap (λ n. flat_map (paired (freed_by_rows g.of_holders.items busy holding.rows.items)) (range_with_len 0 n)) holding_are.freed_bits
      ∙ flat_range_same (paired (freed_by_rows g.of_holders.items busy holding.rows.items)) (paired (freed_of s g.held.now)) 0 (count_of s)
      (λ j low high. ap (map (λ h. (j, h))) (freed_same j (omega arith))) where
        freed_same : (j : ℕ) → j < count_of s → freed_by_rows g.of_holders.items busy holding.rows.items j ≡ freed_of s g.held.now j
        freed_same j inside =
            ap (λ n. filter (is_freed g.of_holders.items busy holding.rows.items j) (range_with_len 0 n)) holders
            ∙ filter_range_same (is_freed g.of_holders.items busy holding.rows.items j) (λ h. is_place_at s j (slice_get g.held.now h)) 0 (length g.held.now)
            (λ h low high.
            let there = there_is h (omega arith) in
            freed_is h j (get_or g.held.now h (0, 0)) there inside ∙ ap (is_place_at s j) (sym there))

-- nothing is freed where nothing is held
pub nothing_freed : (s : Seen) (held : List (ℕ × ℕ)) (count : ℕ) → length held ≡ 0 → flat_map (paired (freed_of s held)) (range_with_len 0 count) ≡ []
nothing_freed s [] count none = none_over 0 count where
  none_over : (a n : ℕ) → flat_map (paired (freed_of s [])) (range_with_len a n) ≡ []
  none_over a zero = refl
  none_over a (suc n) = none_over (a + 1) n
nothing_freed s (pair ∷ held) count none = absurd (omega arith)
