-- What is known of a method while its plan is made: rows of bits with a bit for each item.
use Rattle.std.specs.Prelude.{◌≡◌, ◌⊎◌, ◌↔◌, ◌+◌, ◌<◌, ◌≤◌, ◌||◌, ◌&&◌, ◌==◌, not, ℕ, Bool, true, false, List, [], ◌∷◌, length, map, filter, Option, Some, None, is_some, Contains, nat_lt, slice_get}
use Rattle.std.specs.BTreeMap as tree
use Rattle.std.specs.List.{filter_map, flat_map, list_any, range_with_len, slice_index}
use Rattle.std.specs.Option.{option_map}
use Rattle.std.specs.Ordering.{nat_cmp}
use Rattle.fm_base.specs.Rows.{has}
use Rattle.fm_base.specs.declared.limits.TheConstants.{MAX_LOCAL_WORDS}
use Rattle.fm_code.specs.Edges.{IsEdge}
use Rattle.fm_conn.specs.Classes.{class_of}
use Rattle.fm_conn.specs.Facts.{Facts}
use Rattle.fm_conn.specs.Nodes.{depth_at, TypedMethod}
use Rattle.fm_conn.specs.inner.PairLists.{IsTypedAs, method_in}
use Rattle.fm_flow.specs.Flow.{IsFlowOf}
use Rattle.fm_flow.specs.LiveRows.{is_live, IsLiveRowsOf}
use Rattle.fm_flow.specs.inner.LiveWalks.{HaveWidth, row_of}
use Rattle.fm_types.specs.Typed.{state_at}
use Rattle.fm_place.specs.Places.{is_busy, is_local_in, is_place, is_word_in, may_hold, MayHold}
use Rattle.fm_place.specs.PlansBy.{HasNodesOf, paired}
use Rattle.fm_place.specs.declared.busy_rows.Seen.{Seen}
use Rattle.fm_place.specs.declared.found_sites.Site.{Site}
use Rattle.fm_place.specs.declared.groups.Groups.{Groups}
use Rattle.fm_place.specs.declared.holding_rows.Holding.{Holding}
use Rattle.fm_place.specs.declared.plans.Plan.{Plan}

-- ---- what is known

-- the method, as definitions see it
abbrev pub typed_seen : Seen → TypedMethod
typed_seen s = method_in s.method

-- the facts of the method, without states and links
abbrev pub facts_seen : Seen → Facts
facts_seen s = record {
  typing = λ method. [];
  linked = λ method a b. false;
  live = λ method. is_live s.live.now;
  class = λ method. class_of s.classes.now;
}

-- the states, the flow, the live locals and the classes are those of the method
pub record IsSeen (s : Seen) : Type 0 where
  pub typed : IsTypedAs s.method
  pub flow_is : IsFlowOf s.method.code.now s.flow.now
  pub live_is : IsLiveRowsOf s.method.code.now s.live.now
  pub nodes : HasNodesOf (typed_seen s) s.classes.now

-- ---- rows

-- how many items the method has
abbrev pub count_of : Seen → ℕ
count_of s = length s.method.code.now.items

-- the row has a bit for each of this number of items, set exactly where the item passes the test
pub record IsRowOf (count : ℕ) (test : ℕ → Bool) (row : List Bool) : Type 0 where
  pub wide : length row ≡ count
  pub each : (j : ℕ) → j < count → has row j ≡ test j

-- the bit of the row of this item is set too, if there is such a row
pub record SetsBit (item bit : ℕ) (old new : List (List Bool)) : Type 0 where
  pub same_count : length new ≡ length old
  pub same_width : (j : ℕ) → length (row_of new j) ≡ length (row_of old j)
  pub members : (j k : ℕ) → j < length old → has (row_of new j) k ≡ (has (row_of old j) k || ((item == j) && (bit == k)))

-- ---- groups

-- the number of a class in a map
abbrev pub number_in : tree.BTreeMap ℕ ℕ → ℕ → Option ℕ
number_in numbers class = tree.get nat_cmp numbers class

-- the number of a class is the place of a holder that has it, and each holder has that of its class
pub record IsGroupsOf (held : List ℕ) (numbers : ℕ → Option ℕ) (of_holders : List ℕ) : Type 0 where
  pub one_each : length of_holders ≡ length held
  pub known : (class group : ℕ) → numbers class ≡ Some group → slice_get held group ≡ Some class
  pub each : (holder class : ℕ) → slice_get held holder ≡ Some class → numbers class ≡ Some (slice_index of_holders holder)

-- the class of each holder
abbrev pub classes_of : List (ℕ × ℕ) → List ℕ
classes_of held = map (λ (pair : ℕ × ℕ). pair.1) held

-- the class is this one
abbrev pub is_class : Option ℕ → ℕ → Bool
is_class None class = false
is_class (Some c) class = c == class

-- the classes that have a number are those of the holders
pub record AreGroups (g : Groups) : Type 0 where
  pub few : length g.held.now ≤ MAX_LOCAL_WORDS
  pub numbered : IsGroupsOf (classes_of g.held.now) (number_in g.numbers) g.of_holders.items

-- a row for each holder; that with the number of a class has the items at which the class passes the test
pub record AreRowsIn (g : Groups) (count : ℕ) (test : ℕ → ℕ → Bool) (rows : List (List Bool)) : Type 0 where
  pub one_each : length rows ≡ length g.held.now
  pub wide : (n : ℕ) → n < length rows → length (row_of rows n) ≡ count
  pub each : (class n : ℕ) → number_in g.numbers class ≡ Some n → (j : ℕ) → j < count → has (row_of rows n) j ≡ test j class

-- whether some word below this depth is in the class
abbrev pub is_in_words : Seen → (item depth : ℕ) → ℕ → Bool
is_in_words s item depth class = list_any (is_word_in (facts_seen s) (typed_seen s) class item) (range_with_len 0 depth)

-- whether an item can be reached
abbrev pub is_reached : Seen → ℕ → Bool
is_reached s j = is_some (state_at (typed_seen s).states j)

-- whether an item before this one can be reached
abbrev pub reached_before : Seen → (item : ℕ) → ℕ → Bool
reached_before s item j = nat_lt j item && is_reached s j

-- whether a class is busy at an item
abbrev pub is_busy_at : Seen → ℕ → ℕ → Bool
is_busy_at s item class = is_busy (facts_seen s) (typed_seen s) class item

-- whether an item can be reached, and some word there is in the class
abbrev pub has_word_at : Seen → ℕ → ℕ → Bool
has_word_at s j class = is_reached s j && is_in_words s j (depth_at (typed_seen s) j) class

-- the same, at an item before this one
abbrev pub words_before : Seen → (item : ℕ) → ℕ → ℕ → Bool
words_before s item j class = nat_lt j item && has_word_at s j class

-- the same, or at this item some word below this depth is in the class
abbrev pub busy_by_words : Seen → (item depth : ℕ) → ℕ → ℕ → Bool
busy_by_words s item depth j class = words_before s item j class || (is_in_words s item depth class && (item == j))

-- whether some live local below this one is in the class
abbrev pub is_in_locals : Seen → (item local : ℕ) → ℕ → Bool
is_in_locals s item local class = list_any (is_local_in (facts_seen s) (typed_seen s) class item) (range_with_len 0 local)

-- whether an item can be reached, and some word is in the class, or some live local below this one
abbrev pub busy_with : Seen → (local : ℕ) → ℕ → ℕ → Bool
busy_with s local j class = is_reached s j && (is_in_words s j (depth_at (typed_seen s) j) class || is_in_locals s j local class)

-- whether an item can be reached, and this local is live there and in the class
abbrev pub has_local_at : Seen → (local : ℕ) → ℕ → ℕ → Bool
has_local_at s local j class = is_reached s j && is_local_in (facts_seen s) (typed_seen s) class j local

-- busy with the locals below this one, or with it at an item before this one
abbrev pub busy_by_local : Seen → (local item : ℕ) → ℕ → ℕ → Bool
busy_by_local s local item j class = busy_with s local j class || (nat_lt j item && has_local_at s local j class)

-- whether a holder may hold something at an item
abbrev pub may_hold_at : Seen → ℕ → ℕ × ℕ → Bool
may_hold_at s item pair = may_hold (facts_seen s) (typed_seen s) pair.0 pair.1 item

-- ---- the walk along the edges

-- the item after the site, if there is one
abbrev pub IsAfter : (site count : ℕ) → List ℕ → Type 0
IsAfter site count list = (j : ℕ) → Contains list j ↔ ((j ≡ site + 1) × (j < count))

-- so far: an item of the row waits, or the ends of its edges are in the row if the class is busy there, and else it is one where something is freed
pub record Following (s : Seen) (pair : ℕ × ℕ) (busy old row freed : List Bool) (waiting : List ℕ) : Type 0 where
  pub bits : length row ≡ count_of s
  pub freed_bits : length freed ≡ count_of s
  pub first : pair.0 + 1 < count_of s → has row (pair.0 + 1) ≡ true
  pub sound : (j : ℕ) → has row j ≡ true → MayHold (facts_seen s) (typed_seen s) pair.0 pair.1 j
  pub waiting_marked : (j : ℕ) → Contains waiting j → has row j ≡ true
  pub closed : (j : ℕ) → has row j ≡ true
      → Contains waiting j ⊎ ((next : ℕ) → has busy j ≡ true → IsEdge s.method.code.now j next → has row next ≡ true)
  pub frees : (j : ℕ) → has row j ≡ true → has busy j ≡ false → Contains waiting j ⊎ (has freed j ≡ true)
  pub kept : (j : ℕ) → has old j ≡ true → has freed j ≡ true

-- the row has the items where the holder may hold something, and the places of the holder are set beside those that were
pub record Follows (s : Seen) (pair : ℕ × ℕ) (old freed row : List Bool) : Type 0 where
  pub row_is : IsRowOf (count_of s) (λ j. may_hold_at s j pair) row
  pub freed_bits : length freed ≡ count_of s
  pub frees : (j : ℕ) → has row j ≡ true → is_busy_at s j pair.1 ≡ false → has freed j ≡ true
  pub kept : (j : ℕ) → has old j ≡ true → has freed j ≡ true

-- such a row for each of the first holders
pub record AreHolding (s : Seen) (held : List (ℕ × ℕ)) (upto : ℕ) (freed : List Bool) (rows : List (List Bool)) : Type 0 where
  pub one_each : length rows ≡ upto
  pub freed_bits : length freed ≡ count_of s
  pub each : (h : ℕ) (pair : ℕ × ℕ) → h < upto → slice_get held h ≡ Some pair → Follows s pair freed freed (row_of rows h)

-- ---- what is freed

-- whether the item isn't set in the row of the holder's class, and is in that of the holder
abbrev pub is_freed : (classes : List ℕ) → (busy rows : List (List Bool)) → (item holder : ℕ) → Bool
is_freed classes busy rows item holder = not (has (row_of busy (slice_index classes holder)) item) && has (row_of rows holder) item

-- the holders that are freed before an item by these rows, rising
abbrev pub freed_by_rows : (classes : List ℕ) → (busy rows : List (List Bool)) → ℕ → List ℕ
freed_by_rows classes busy rows item = filter (is_freed classes busy rows item) (range_with_len 0 (length classes))

-- the rows have a bit for each item, and where a holder is freed the item is set
pub record AreFreedRows (classes : List ℕ) (busy : List (List Bool)) (holding : Holding) : Type 0 where
  pub few : length classes ≤ MAX_LOCAL_WORDS
  pub one_each : length holding.rows.items ≡ length classes
  pub numbers : (h : ℕ) → h < length classes → slice_index classes h < length busy
  pub busy_wide : HaveWidth (length holding.freed) busy
  pub wide : HaveWidth (length holding.freed) holding.rows.items
  pub marked : (item h : ℕ) → h < length classes → is_freed classes busy holding.rows.items item h ≡ true → has holding.freed item ≡ true

-- whether an item is a place of a holder, if there is one
abbrev pub is_place_at : Seen → ℕ → Option (ℕ × ℕ) → Bool
is_place_at s j None = false
is_place_at s j (Some pair) = is_place (facts_seen s) (typed_seen s) pair.0 pair.1 j

-- the holders that are freed before an item
abbrev pub freed_of : Seen → List (ℕ × ℕ) → ℕ → List ℕ
freed_of s held j = filter (λ h. is_place_at s j (slice_get held h)) (range_with_len 0 (length held))

-- ---- the plan

-- the item and the number of a holder
abbrev pub pair_of : Site → Option (ℕ × ℕ)
pair_of site = option_map (λ (h : ℕ). (site.item, h)) site.holder

-- the item and the class of a site that has a holder
abbrev pub held_of : Site → Option (ℕ × ℕ)
held_of site = option_map (λ (h : ℕ). (site.item, site.class)) site.holder

-- one element or none
abbrev pub listed : {X : Type 0} → Option X → List X
listed None = []
listed (Some x) = x ∷ []

-- the plan of these sites
pub record IsPlanBy (s : Seen) (sites : List Site) (plan : Plan) : Type 0 where
  pub holders : plan.holders ≡ length (filter_map held_of sites)
  pub after : plan.after.items ≡ filter_map pair_of sites
  pub before : plan.before.items ≡ flat_map (paired (freed_of s (filter_map held_of sites))) (range_with_len 0 (length s.method.code.now.items))
