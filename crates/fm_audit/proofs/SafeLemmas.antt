-- What is checked of a method's pairs is that the insertions which they list are safe.
use Rattle.std.proofs.Common.{◌≡◌, ℕ, ◌+◌, ◌<◌, not, true, false, List, [], length, map, Some, Contains, sym, ap, subst, ◌∙◌, arith}
use Rattle.std.specs.Prelude.{nat_eq, slice_get}
use Rattle.std.specs.List.{AllByRecursion, IsDistinct, range_with_len}
use Rattle.std.proofs.lemmas.List.{length-map}
use Rattle.std.proofs.lemmas.List.FromFn.{length-map-range_with_len}
use Rattle.fm_base.proofs.OptionFacts.{Some-from_some_and}
use Rattle.fm_base.proofs.TestFacts.{and_right}
use Rattle.fm_conn.specs.Facts.{Facts}
use Rattle.fm_conn.specs.Nodes.{TypedMethod}
use Rattle.fm_place.proofs.FullLemmas.{all-from}
use Rattle.fm_place.proofs.GroupLemmas.{slice_get-mapped}
use Rattle.fm_place.proofs.PathLemmas.{places_are_by_paths}
use Rattle.fm_place.specs.Insertions.{before_at, Holder, Insertions}
use Rattle.fm_place.specs.Places.{is_busy, may_hold, MayHold}
use Rattle.fm_place.specs.PlansBy.{IsToldBy}
use Rattle.fm_place.specs.Safe.{AreSafe, IsSafeAt, IsSafeHolder, MayFree}
use Rattle.fm_place.specs.Sites.{sites_of}
use Rattle.fm_place.specs.declared.busy_rows.Seen.{Seen}
use Rattle.fm_place.specs.declared.found_sites.Site.{Site}
use Rattle.fm_place.specs.inner.PlanRows.{count_of, facts_seen, is_busy_at, may_hold_at, typed_seen}
use Rattle.fm_audit.proofs.CapturedLemmas.{captured_at}
use Rattle.fm_audit.proofs.HeldLemmas.{held_each, held_parts}
use Rattle.fm_audit.proofs.WholeLemmas.{before-is, holder_at, holder_of_pair, insertions_by, own_sites}
use Rattle.fm_world.proofs.ElementLemmas.{place_of}
use Rattle.fm_audit.specs.Reading.{Pairs}
use Rattle.fm_audit.specs.inner.Checked.{IsChecked, IsSafeItem}
use Rattle.fm_audit.specs.inner.Holders.{class_at, held_by, held_by_all}
use Rattle.fm_audit.specs.inner.Listed.{AreListed}

-- ---- by facts that agree with what is known

module _ (s : Seen) (facts : Facts) (told : IsToldBy facts s.method.number.0 s.classes.now s.live.now) where
  pub busy_told : (class j : ℕ) → is_busy (facts_seen s) (typed_seen s) class j ≡ is_busy facts (typed_seen s) class j
  busy_told class j =
      sym (λ k. is_busy (record {
        typing = λ method. [];
        linked = λ method a b. false;
        live = λ method local item. told.lives local item k;
        class = λ method node. told.class node k;
      }) (typed_seen s) class j)

  pub hold_told : (site class j : ℕ) → may_hold (facts_seen s) (typed_seen s) site class j ≡ may_hold facts (typed_seen s) site class j
  hold_told site class j =
      sym (λ k. may_hold (record {
        typing = λ method. [];
        linked = λ method a b. false;
        live = λ method local item. told.lives local item k;
        class = λ method node. told.class node k;
      }) (typed_seen s) site class j)

-- ---- the insertions

-- all of them have a site
pub held_all : (s : Seen) (sites : List Site) (pairs : Pairs) (holders : ℕ) (checked : IsChecked s sites pairs holders)
    → held_by_all sites pairs.after (range_with_len 0 (length checked.held)) ≡ Some checked.held
held_all s sites pairs holders checked = ap (λ n. held_by_all sites pairs.after (range_with_len 0 n)) checked.count ∙ checked.held_is

module _ (s : Seen) (facts : Facts) (sites : List Site) (pairs : Pairs) (holders : ℕ) (told : IsToldBy facts s.method.number.0 s.classes.now s.live.now)
    (sites_are : sites ≡ sites_of facts (typed_seen s)) (listed : AreListed 0 (count_of s) pairs)
    (checked : IsChecked s sites pairs holders) where
  abbrev x : TypedMethod
  x = typed_seen s

  abbrev held : List (ℕ × ℕ)
  held = checked.held

  abbrev ins : Insertions
  ins = insertions_by held listed.before (count_of s)

  holder_safe : (k : ℕ) (p : ℕ × ℕ) → slice_get held k ≡ Some p → IsSafeHolder facts x (holder_at p)
  holder_safe k p there =
      let same : 0 + k ≡ k = omega arith in
      let by = (held_each sites pairs.after 0 holders held checked.held_is).each k p there in
      let parts = held_parts sites pairs.after k p (sym (ap (held_by sites pairs.after) same) ∙ by) in
      let site = captured_at facts x p.0 p.1 (subst (λ (found : List Site). class_at found p.0 ≡ Some p.1) sites_are parts.class_is) in
      record { captured = site.captured; class = site.class_is }

  all_safe : AllByRecursion (IsSafeHolder facts x) (map holder_at held)
  all_safe =
      all-from (IsSafeHolder facts x) (map holder_at held)
      (λ h found.
      let place = place_of (map holder_at held) h found in
      let pair = holder_of_pair held place.0 h place.1 in
      subst (IsSafeHolder facts x) pair.2 (holder_safe place.0 pair.0 pair.1))

  item_safe : (j : ℕ) → j < count_of s → IsSafeAt facts x ins j
  item_safe j inside = record { once = subst (IsDistinct nat_eq) (sym same) own.once; may = may; must = must } where
    same : before_at ins j ≡ listed.before j
    same = before-is held listed.before (count_of s) j inside

    own : IsSafeItem s held j (listed.before j)
    own = checked.frees listed.before listed.before_is j inside

    may : (number : ℕ) → Contains (before_at ins j) number → MayFree facts x ins j number
    may number found =
        let some = Some-from_some_and (slice_get held number) (λ (p : ℕ × ℕ). is_busy_at s j p.1 ≡ false)
        (own.may number (subst (λ (l : List ℕ). Contains l number) same found)) in
        record {
          holder = holder_at some.0;
          is = slice_get-mapped holder_at held number some.0 some.1;
          quiet = sym (busy_told s facts told some.0.1 j) ∙ some.2;
        }

    must : (number : ℕ) (h : Holder) → slice_get (map holder_at held) number ≡ Some h → is_busy facts x h.class j ≡ false
        → MayHold facts x h.site h.class j → Contains (before_at ins j) number
    must number h there idle holds =
        let pair = holder_of_pair held number h there in
        let class : h.class ≡ pair.0.1 = sym (ap (λ (g : Holder). g.class) pair.2) in
        let site : h.site ≡ pair.0.0 = sym (ap (λ (g : Holder). g.site) pair.2) in
        let place = (places_are_by_paths facts x h.site h.class j).1 (idle, holds) in
        let held_there = and_right (not (is_busy facts x h.class j)) (may_hold facts x h.site h.class j) place in
        let idle_seen : is_busy_at s j pair.0.1 ≡ false = busy_told s facts told pair.0.1 j ∙ sym (ap (λ c. is_busy facts x c j) class) ∙ idle in
        let held_seen : may_hold_at s j pair.0 ≡ true =
        hold_told s facts told pair.0.0 pair.0.1 j ∙ sym (λ k. may_hold facts x (site k) (class k) j) ∙ held_there in
        subst (λ (l : List ℕ). Contains l number) (sym same) (own.must number pair.0 pair.1 idle_seen held_seen)

  pub are_safe : AreSafe facts x ins
  are_safe = record {
    some = let some = checked.some in omega (arith, some, counted);
    room = let room = checked.room in omega (arith, room, counted);
    holders = all_safe;
    own_sites = own_sites sites (count_of s) pairs held listed (held_all s sites pairs holders checked) checked.own;
    one_each = length-map-range_with_len listed.before 0 (count_of s);
    items = item_safe;
  } where
    counted : length (map holder_at held) ≡ holders
    counted = length-map held holder_at ∙ checked.count
