-- What is checked of the pairs that a method's new items are read as, by what is known of the method.
use Rattle.std.specs.Prelude.{◌≡◌, ◌+◌, ◌<◌, ◌≤◌, ℕ, true, false, Bool, List, length, replicate, Some, Contains, IsSomeAnd, nat_eq, slice_get, if◌then◌else◌, ⊤}
use Rattle.std.specs.List.{flat_map, IsDistinct, range_with_len}
use Rattle.fm_code.specs.declared.code_array.Item.{Item}
use Rattle.fm_base.specs.declared.limits.TheConstants.{MAX_LOCAL_WORDS}
use Rattle.fm_chain.specs.declared.plans.ChainPlan.{ChainPlan}
use Rattle.fm_conn.specs.Facts.{Facts}
use Rattle.fm_place.specs.PlansBy.{IsToldBy, paired}
use Rattle.fm_place.specs.Sites.{sites_of}
use Rattle.fm_place.specs.declared.busy_rows.Seen.{Seen}
use Rattle.fm_place.specs.declared.found_sites.Site.{Site}
use Rattle.fm_place.specs.declared.plans.Plan.{Plan}
use Rattle.fm_place_weave.specs.declared.planned.Planned.{Planned}
use Rattle.fm_place_weave.specs.declared.planned.Planned.TheVariants as planned
use Rattle.fm_place.specs.inner.PlanRows.{count_of, is_busy_at, may_hold_at, typed_seen}
use Rattle.fm_audit.specs.Parts.{failed_in, planned_of}
use Rattle.fm_audit.specs.SafeParts.{FailsRead, freed_before, IsJudgedBy}
use Rattle.fm_audit.specs.declared.parts.Part.{Part}
use Rattle.fm_audit.specs.declared.parts.Part.TheVariants as part
use Rattle.fm_audit.specs.Reading.{Pairs, Read, read}
use Rattle.fm_audit.specs.declared.checking.Outcome.{Outcome}
use Rattle.fm_audit.specs.declared.checking.Outcome.TheVariants as outcome
use Rattle.fm_audit.specs.declared.checking.Freeing.{Freeing}
use Rattle.fm_audit.specs.declared.checking.Freeing.TheVariants as freeing
use Rattle.fm_audit.specs.declared.plans.Judged.{Judged}
use Rattle.fm_audit.specs.inner.Listed.{AreListed}
use Rattle.fm_audit.specs.inner.Holders.{are_own_items, held_by_all}

-- what is freed before an item is safe: no holder twice, none whose class is busy, and each that may hold something and whose class isn't busy
pub record IsSafeItem (s : Seen) (held : List (ℕ × ℕ)) (j : ℕ) (freed : List ℕ) : Type 0 where
  pub once : IsDistinct nat_eq freed
  pub may : (h : ℕ) → Contains freed h → IsSomeAnd (slice_get held h) (λ (p : ℕ × ℕ). is_busy_at s j p.1 ≡ false)
  pub must : (h : ℕ) (p : ℕ × ℕ) → slice_get held h ≡ Some p → is_busy_at s j p.1 ≡ false → may_hold_at s j p ≡ true → Contains freed h

-- where the pairs are listed item by item, what is freed before each is safe
abbrev pub AreSafeFrees : Seen → (held before : List (ℕ × ℕ)) → Type 0
AreSafeFrees s held before =
    (freed : ℕ → List ℕ) → before ≡ flat_map (paired freed) (range_with_len 0 (count_of s)) → (j : ℕ) → j < count_of s → IsSafeItem s held j (freed j)

-- as many holders as there are have sites of their own, and are freed where it is safe
pub record IsChecked (s : Seen) (sites : List Site) (pairs : Pairs) (holders : ℕ) : Type 0 where
  pub held : List (ℕ × ℕ)
  pub count : length held ≡ holders
  pub some : 0 < holders
  pub room : s.method.code.now.max_locals + holders ≤ MAX_LOCAL_WORDS
  pub held_is : held_by_all sites pairs.after (range_with_len 0 holders) ≡ Some held
  pub own : are_own_items held pairs.after ≡ true
  pub frees : AreSafeFrees s held pairs.before

-- As many holders as there are, that are null at the start by their numbers, have sites of their own, and what is freed before each item is safe. Where all
-- that holds, no part is failed.
pub record IsSafelyRead (s : Seen) (sites : List Site) (found : Read) (holders : ℕ) : Type 0 where
  pub held : List (ℕ × ℕ)
  pub freed : ℕ → List ℕ
  pub some : 0 < holders
  pub room : s.method.code.now.max_locals + holders ≤ MAX_LOCAL_WORDS
  pub starts : found.starts ≡ range_with_len 0 holders
  pub held_is : held_by_all sites found.pairs.after (range_with_len 0 holders) ≡ Some held
  pub own : are_own_items held found.pairs.after ≡ true
  pub listed : found.pairs.before ≡ flat_map (paired freed) (range_with_len 0 (count_of s))
  pub items : (j : ℕ) → j < count_of s → IsSafeItem s held j (freed j)

-- the same of what was read, at whose start these holders are null, by their numbers
pub record IsCheckedFor (s : Seen) (sites : List Site) (found : Read) (holders : ℕ) : Type 0 where
  pub checked : IsChecked s sites found.pairs holders
  pub starts : found.starts ≡ range_with_len 0 holders

-- the pairs of a plan
abbrev pub pairs_of : Plan → Pairs
pairs_of plan = record { before = plan.before.items; after = plan.after.items }

-- those of the plan are listed item by item, and checked
pub record IsCheckedPlan (s : Seen) (sites : List Site) (plan : Plan) : Type 0 where
  pub listed : AreListed 0 (count_of s) (pairs_of plan)
  pub checked : IsChecked s sites (pairs_of plan) plan.holders

-- the method stays as it is, or it is woven by such a plan, in which no holder holds a chain
abbrev pub IsCheckedDone : Seen → List Site → Planned → Type 0
IsCheckedDone s sites planned.Same = ⊤
IsCheckedDone s sites (planned.Woven plan) = IsCheckedPlan s sites plan.plan × (plan.looped ≡ replicate plan.plan.holders false)
IsCheckedDone s sites (planned.TooLong bytes chains) = ⊥

-- ---- as the code finds it

-- what is freed before an item isn't safe, for some item
abbrev pub AreUnsafeFrees : Seen → (held before : List (ℕ × ℕ)) → Type 0
AreUnsafeFrees s held before =
    (freed : ℕ → List ℕ) → before ≡ flat_map (paired freed) (range_with_len 0 (count_of s)) → ((j : ℕ) → j < count_of s → IsSafeItem s held j (freed j)) → ⊥

-- no holder is freed before an item whose class is busy
abbrev pub IsMayItem : Seen → (held : List (ℕ × ℕ)) → (j : ℕ) → (freed : List ℕ) → Type 0
IsMayItem s held j freed = (h : ℕ) → Contains freed h → IsSomeAnd (slice_get held h) (λ (p : ℕ × ℕ). is_busy_at s j p.1 ≡ false)

-- each is freed that may hold something and whose class isn't busy
abbrev pub IsMustItem : Seen → (held : List (ℕ × ℕ)) → (j : ℕ) → (freed : List ℕ) → Type 0
IsMustItem s held j freed =
    (h : ℕ) (p : ℕ × ℕ) → slice_get held h ≡ Some p → is_busy_at s j p.1 ≡ false → may_hold_at s j p ≡ true → Contains freed h

-- which part is failed where holders aren't freed safely: whether none is freed whose class is busy
abbrev pub unsafe_part : (quiet : Bool) → Part
unsafe_part quiet = if quiet then part.Frees else part.Uses

-- some holder is freed whose class is busy, or that isn't why it isn't safe what is freed
abbrev pub IsFreesPart : Seen → (held before : List (ℕ × ℕ)) → Part → Type 0
IsFreesPart s held before part.Uses =
    (freed : ℕ → List ℕ) → before ≡ flat_map (paired freed) (range_with_len 0 (count_of s)) → ((j : ℕ) → j < count_of s → IsMayItem s held j (freed j)) → ⊥
IsFreesPart s held before part.Frees =
    (freed : ℕ → List ℕ) → before ≡ flat_map (paired freed) (range_with_len 0 (count_of s)) → (j : ℕ) → j < count_of s → IsMayItem s held j (freed j)
IsFreesPart s held before other = ⊥

-- what is freed is safe, or a part is failed by it
abbrev pub AreFreesJudged : Seen → (held before : List (ℕ × ℕ)) → Freeing → Type 0
AreFreesJudged s held before freeing.Safe = AreSafeFrees s held before
AreFreesJudged s held before (freeing.Fails failed) = AreUnsafeFrees s held before × IsFreesPart s held before failed

-- what was read is checked for these holders, or fails a part
abbrev pub IsChecking : Seen → List Site → Read → Outcome → Type 0
IsChecking s sites found (outcome.Safe holders) = IsCheckedFor s sites found holders
IsChecking s sites found (outcome.Fails failed) = (holders : ℕ) → IsSafelyRead s sites found holders → ⊥

-- the pairs are listed item by item, there is room for the holders of the start, and none is freed twice before one item
pub record IsListedWell (s : Seen) (found : Read) : Type 0 where
  pub listed : AreListed 0 (count_of s) found.pairs
  pub starts : (h : ℕ) → Contains found.starts h → s.method.code.now.max_locals + h < MAX_LOCAL_WORDS
  pub once : (j : ℕ) → IsDistinct nat_eq (freed_before found.pairs.before j)

-- the part that is found to fail; part 6 is what is left
abbrev pub part_found : Outcome → Part
part_found (outcome.Safe holders) = part.Layout
part_found (outcome.Fails failed) = failed

-- by all facts that agree with what is known of the method, that is the least part that fails
abbrev pub IsPartFound : Seen → List Site → Read → Outcome → Type 0
IsPartFound s sites found o =
    IsListedWell s found → (facts : Facts) → IsToldBy facts s.method.number.0 s.classes.now s.live.now → sites ≡ sites_of facts (typed_seen s)
    → FailsRead facts (typed_seen s) found (part_found o)

-- by all such facts, the method is judged by its least part that fails
abbrev pub IsPartJudged : Seen → List Site → (free : ℕ) → (new : List Item) → Judged → Type 0
IsPartJudged s sites free new j =
    (facts : Facts) → IsToldBy facts s.method.number.0 s.classes.now s.live.now → sites ≡ sites_of facts (typed_seen s)
    → IsJudgedBy facts (typed_seen s) free s.method.code.now new (failed_in j) (planned_of j)

-- the plan is that of what was read, for these holders, and none holds a chain
pub record IsPlanRead (found : Read) (many : ℕ) (plan : ChainPlan) : Type 0 where
  pub holders : plan.plan.holders ≡ many
  pub before : plan.plan.before.items ≡ found.pairs.before
  pub after : plan.plan.after.items ≡ found.pairs.after
  pub flags : plan.looped ≡ replicate many false

-- the method is woven by such a plan
abbrev pub IsWovenBy : Read → (holders : ℕ) → Planned → Type 0
IsWovenBy found holders (planned.Woven plan) = IsPlanRead found holders plan
IsWovenBy found holders done = ⊥

-- where what new items are read as is safe, the method is woven by it
abbrev pub IsWhollyDone : Seen → List Site → (free : ℕ) → (new : List Item) → Judged → Type 0
IsWhollyDone s sites free new j =
    (found : Read) (holders : ℕ) → read free s.method.code.now.max_locals s.method.code.now.items new ≡ Some found → IsSafelyRead s sites found holders
    → IsWovenBy found holders (planned_of j)

-- what is to be done with the method is checked
abbrev pub IsJudgedDone : Seen → List Site → Judged → Type 0
IsJudgedDone s sites j = IsCheckedDone s sites (planned_of j)
