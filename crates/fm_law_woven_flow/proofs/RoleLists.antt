-- The roles of new items: which follows which, and where those of an old item are.
use Rattle.std.proofs.Common.{◌≡◌, ℕ, zero, suc, ◌+◌, ◌-◌, ◌*◌, ◌<◌, ◌≤◌, ◌⊎◌, inl, inr, ⊎_elim, Bool, true, false, List, [], ◌∷◌, ◌++◌, length, map, Option, Some, None, refl, sym, ap, subst, ◌∙◌, arith, append_assoc, length-append}
use Rattle.std.specs.Prelude.{slice_get, slice_index}
use Rattle.std.specs.List.{AllByRecursion, flat_map, range_with_len, sum}
use Rattle.std.proofs.lemmas.Bool.{cases_lt}
use Rattle.std.proofs.lemmas.Option.{none-some, same_Some, slice_get_cases, slice_get_within}
use Rattle.fm_base.proofs.ListFacts.{AllByRecursion-append, AllByRecursion-at, slice_get-append_left, slice_get-append_right}
use Rattle.fm_code.specs.declared.code_array.Code.{Code}
use Rattle.fm_code.specs.declared.code_array.Item.{Item}
use Rattle.fm_place.specs.Insertions.{after_at, before_at, Insertions}
use Rattle.fm_chain.proofs.Replaced.{sum_cons}
use Rattle.fm_chain.specs.Chained.{anchors_from, anchors_of, count_at, looped_at, taken_items}
use Rattle.fm_place.specs.Woven.{freed_items, null_stored_items}
use Rattle.fm_law_woven_flow.specs.Roles.{behind_dup, DupAfter, FreeBefore, GoesOn, IsEntry, JumpOf, Keep, LinkAfter, LoadAfter, LoadBefore, NullBefore, owner, Role, StartNull, StartStore, StoreAfter, StoreBefore}
use Rattle.fm_law_woven_flow.specs.inner.RolesOf.{after_roles, before_roles, item_roles, kept_new, new_roles, roles_behind, roles_from, start_roles}

-- ---- elements

-- there is an element at each index inside
pub element_at : {X : Type 0} (xs : List X) (k : ℕ) → k < length xs → (x : X) × (slice_get xs k ≡ Some x)
element_at xs k inside = ⊎_elim (λ found. (found.0, found.2)) (λ past. absurd (let out = past.0 in omega arith)) (slice_get_cases xs k).1

-- a number between the first and the last of a list is between two that are next to each other
pub between : (xs : List ℕ) (last k : ℕ) → slice_index xs 0 ≤ k → k < slice_index xs last
    → (t : ℕ) × (t < last) × (slice_index xs t ≤ k) × (k < slice_index xs (suc t))
between xs zero k low high = absurd (omega arith)
between xs (suc last) k low high = go (cases_lt k (slice_index xs last)) (between xs last k low) where
  go : (k < slice_index xs last) ⊎ (slice_index xs last ≤ k)
      → (k < slice_index xs last → (t : ℕ) × (t < last) × (slice_index xs t ≤ k) × (k < slice_index xs (suc t)))
      → (t : ℕ) × (t < suc last) × (slice_index xs t ≤ k) × (k < slice_index xs (suc t))
  go (inl less) before = let found = before less in (found.0, (let inside = found.1 in omega arith), found.2, found.3)
  go (inr more) before = (last, omega arith, more, high)

-- ---- what follows

-- what follows a role in the list
abbrev pub Next : Code → Insertions → Role → Role → Type 0
Next old plan (StartNull h) = λ r. r ≡ StartStore h
Next old plan (StartStore h) = λ r. (r ≡ StartNull (h + 1)) ⊎ ((h + 1 ≡ length plan.holders) × IsEntry old 0 r)
Next old plan (LoadBefore j h) = λ r. r ≡ FreeBefore j h
Next old plan (FreeBefore j h) = λ r. r ≡ NullBefore j h
Next old plan (NullBefore j h) = λ r. r ≡ StoreBefore j h
Next old plan (StoreBefore j h) = λ r. IsEntry old j r
Next old plan (Keep j) = λ r. GoesOn old j r
Next old plan (JumpOf j) = λ r. GoesOn old j r
Next old plan (DupAfter j h) = λ r. r ≡ behind_dup (looped_at plan h) j h
Next old plan (LoadAfter j h) = λ r. r ≡ LinkAfter j h
Next old plan (LinkAfter j h) = λ r. r ≡ StoreAfter j h
Next old plan (StoreAfter j h) = λ r. GoesOn old j r

-- the first one, if there is one
abbrev HeadIs : (Role → Type 0) → List Role → Type 0
HeadIs P [] = Unit {0}
HeadIs P (r ∷ roles) = P r

head-weaker : (P Q : Role → Type 0) → ((r : Role) → P r → Q r) → (roles : List Role) → HeadIs P roles → HeadIs Q roles
head-weaker P Q each [] head = tt
head-weaker P Q each (r ∷ roles) head = each r head

-- each is followed by what follows it
abbrev Chain : Code → Insertions → List Role → Type 0
Chain old plan [] = Unit {0}
Chain old plan (r ∷ roles) = HeadIs (Next old plan r) roles × Chain old plan roles

chain-at : (old : Code) (plan : Insertions) (roles : List Role) (k : ℕ) (r next : Role) → Chain old plan roles → slice_get roles k ≡ Some r
    → slice_get roles (suc k) ≡ Some next → Next old plan r next
chain-at old plan [] k r next chain here there = absurd (none-some r here)
chain-at old plan (x ∷ []) zero r next chain here there = absurd (none-some next there)
chain-at old plan (x ∷ y ∷ roles) zero r next chain here there =
    subst (λ a. Next old plan a next) (same_Some _ _ here) (subst (λ b. Next old plan x b) (same_Some _ _ there) chain.0)
chain-at old plan (x ∷ roles) (suc k) r next chain here there = chain-at old plan roles k r next chain.1 here there

chain-before : (old : Code) (plan : Insertions) (j : ℕ) (hs : List ℕ) (rest : List Role) → j < length old.items → HeadIs (λ r. IsEntry old j r) rest
    → Chain old plan rest → HeadIs (λ r. IsEntry old j r) (flat_map (before_roles j) hs ++ rest) × Chain old plan (flat_map (before_roles j) hs ++ rest)
chain-before old plan j [] rest inside head chain = (head, chain)
chain-before old plan j (h ∷ hs) rest inside head chain =
    let later = chain-before old plan j hs rest inside head chain in
    ((inside, inl (h, refl)), (refl, (refl, (refl, (later.0, later.1)))))

chain-after : (old : Code) (plan : Insertions) (j : ℕ) (hs : List ℕ) (rest : List Role) → HeadIs (λ r. IsEntry old (j + 1) r) rest → Chain old plan rest
    → HeadIs (λ r. GoesOn old j r) (flat_map (after_roles plan j) hs ++ rest) × Chain old plan (flat_map (after_roles plan j) hs ++ rest)
chain-after old plan j [] rest head chain = (head-weaker (λ r. IsEntry old (j + 1) r) (λ r. GoesOn old j r) (λ r entry. inr entry) rest head, chain)
chain-after old plan j (h ∷ hs) rest head chain =
    by_flag (looped_at plan h) refl (chain-after old plan j hs rest head chain) where
      left : List Role
      left = flat_map (after_roles plan j) hs

      by_flag : (b : Bool) → looped_at plan h ≡ b → HeadIs (λ r. GoesOn old j r) (left ++ rest) × Chain old plan (left ++ rest)
          → HeadIs (λ r. GoesOn old j r) ((roles_behind b j h ++ left) ++ rest) × Chain old plan ((roles_behind b j h ++ left) ++ rest)
      by_flag true is later = (inl (h, refl), (sym (ap (λ b. behind_dup b j h) is), (refl, (refl, (later.0, later.1)))))
      by_flag false is later = (inl (h, refl), (sym (ap (λ b. behind_dup b j h) is), (later.0, later.1)))

chain-items : (old : Code) (plan : Insertions) (j : ℕ) (items : List Item) → j + length items ≡ length old.items
    → HeadIs (λ r. IsEntry old j r) (roles_from plan j items) × Chain old plan (roles_from plan j items)
chain-items old plan j [] count = (tt, tt)
chain-items old plan j (item ∷ items) count =
    let rest = roles_from plan (j + 1) items in
    let before = flat_map (before_roles j) (before_at plan j) in
    let after = flat_map (after_roles plan j) (after_at plan j) in
    let later = chain-items old plan (j + 1) items (omega arith) in
    let behind = chain-after old plan j (after_at plan j) rest later.0 later.1 in
    let inside : j < length old.items = omega arith in
    let all = chain-before old plan j (before_at plan j) (Keep j ∷ (after ++ rest)) inside (inside, inr refl) (behind.0, behind.1) in
    subst (λ xs. HeadIs (λ r. IsEntry old j r) xs × Chain old plan xs) (sym (append_assoc before (Keep j ∷ after) rest)) all

-- from the holder h on, or past the last one
abbrev StartsAt : Code → Insertions → ℕ → Role → Type 0
StartsAt old plan h r = (r ≡ StartNull h) ⊎ ((h ≡ length plan.holders) × IsEntry old 0 r)

chain-start : (old : Code) (plan : Insertions) (h n : ℕ) (rest : List Role) → h + n ≡ length plan.holders → HeadIs (λ r. IsEntry old 0 r) rest → Chain old plan rest
    → HeadIs (λ r. StartsAt old plan h r) (flat_map start_roles (range_with_len h n) ++ rest)
    × Chain old plan (flat_map start_roles (range_with_len h n) ++ rest)
chain-start old plan h zero rest count head chain =
    let all : h ≡ length plan.holders = omega arith in
    (head-weaker (λ r. IsEntry old 0 r) (λ r. StartsAt old plan h r) (λ r entry. inr (all, entry)) rest head, chain)
chain-start old plan h (suc n) rest count head chain =
    let later = chain-start old plan (h + 1) n rest (omega arith) head chain in
    (inl refl, (refl, (later.0, later.1)))

-- what follows in the list of all new items
pub next_role : (old : Code) (plan : Insertions) (k : ℕ) (r next : Role) → slice_get (new_roles old plan) k ≡ Some r
    → slice_get (new_roles old plan) (suc k) ≡ Some next → Next old plan r next
next_role old plan k r next here there =
    let items = chain-items old plan 0 old.items (omega arith) in
    let all = chain-start old plan 0 (length plan.holders) (roles_from plan 0 old.items) (omega arith) items.0 items.1 in
    chain-at old plan (new_roles old plan) k r next all.1 here there

-- ---- the roles of one old item

pub length-before : (j : ℕ) (hs : List ℕ) → length (flat_map (before_roles j) hs) ≡ freed_items * length hs
length-before j [] = refl
length-before j (h ∷ hs) = let rest = length-before j hs in omega (arith, rest)

length-behind : (looped : Bool) (j h : ℕ) → length (roles_behind looped j h) ≡ taken_items looped
length-behind true j h = refl
length-behind false j h = refl

-- by how many items the holders of an old item keep its object
abbrev pub kept_items : Insertions → List ℕ → ℕ
kept_items plan hs = sum (map (λ h. taken_items (looped_at plan h)) hs)

pub length-after : (plan : Insertions) (j : ℕ) (hs : List ℕ) → length (flat_map (after_roles plan j) hs) ≡ kept_items plan hs
length-after plan j [] = refl
length-after plan j (h ∷ hs) =
    length-append (after_roles plan j h) (flat_map (after_roles plan j) hs)
    ∙ (λ k. length-behind (looped_at plan h) j h k + length-after plan j hs k)
    ∙ sym (sum_cons (λ h. taken_items (looped_at plan h)) h hs)

pub length-start : (h n : ℕ) → length (flat_map start_roles (range_with_len h n)) ≡ null_stored_items * n
length-start h zero = refl
length-start h (suc n) = let rest = length-start (h + 1) n in omega (arith, rest)

length-item : (plan : Insertions) (j : ℕ) → length (item_roles plan j) ≡ count_at plan j
length-item plan j =
    let before = length-before j (before_at plan j) in
    let after = length-after plan j (after_at plan j) in
    let both = length-append (flat_map (before_roles j) (before_at plan j)) (Keep j ∷ flat_map (after_roles plan j) (after_at plan j)) in
    omega (arith, before, after, both)

-- the first anchor is the number that they begin with
anchor-first : (plan : Insertions) (n j : ℕ) (items : List Item) → slice_index (anchors_from plan n j items) 0 ≡ n
anchor-first plan n j [] = refl
anchor-first plan n j (item ∷ items) = refl

-- the roles of item j are in the list from the anchor at an index on
pub record Part (plan : Insertions) (whole : List Role) (anchors : List ℕ) (t j : ℕ) : Type 0 where
  pub front : List Role
  pub back : List Role
  pub is : whole ≡ front ++ (flat_map (before_roles j) (before_at plan j) ++ (Keep j ∷ (flat_map (after_roles plan j) (after_at plan j) ++ back)))
  pub at : length front ≡ slice_index anchors t
  pub next : slice_index anchors (suc t) ≡ slice_index anchors t + count_at plan j

part_here : (plan : Insertions) (n j : ℕ) (item : Item) (items : List Item) (front whole : List Role)
    → whole ≡ front ++ roles_from plan j (item ∷ items) → length front ≡ n → Part plan whole (anchors_from plan n j (item ∷ items)) 0 j
part_here plan n j item items front whole is at = record {
  front = front;
  back = roles_from plan (j + 1) items;
  is =
      is
      ∙ ap (λ xs. front ++ xs)
      (append_assoc (flat_map (before_roles j) (before_at plan j)) (Keep j ∷ flat_map (after_roles plan j) (after_at plan j)) (roles_from plan (j + 1) items));
  at = at;
  next = anchor-first plan (n + count_at plan j) (j + 1) items;
}

part_from : (plan : Insertions) (n j : ℕ) (items : List Item) (front whole : List Role) (t k : ℕ) → whole ≡ front ++ roles_from plan j items → length front ≡ n
    → t < length items → k ≡ j + t → Part plan whole (anchors_from plan n j items) t k
part_from plan n j [] front whole t k is at inside same = absurd (omega arith)
part_from plan n j (item ∷ items) front whole zero k is at inside same =
    let here : j ≡ k = omega arith in
    subst (λ i. Part plan whole (anchors_from plan n j (item ∷ items)) 0 i) here (part_here plan n j item items front whole is at)
part_from plan n j (item ∷ items) front whole (suc t) k is at inside same =
    let size = length-append front (item_roles plan j) in
    let item_size = length-item plan j in
    let later = part_from plan (n + count_at plan j) (j + 1) items (front ++ item_roles plan j) whole t k
    (is ∙ sym (append_assoc front (item_roles plan j) (roles_from plan (j + 1) items))) (omega (arith, size, item_size, at)) (omega arith) (omega arith) in
    record { front = later.front; back = later.back; is = later.is; at = later.at; next = later.next }

pub part_of : (old : Code) (plan : Insertions) (j : ℕ) → j < length old.items → Part plan (new_roles old plan) (anchors_of plan old.items) j j
part_of old plan j inside =
    part_from plan (null_stored_items * length plan.holders) 0 old.items (flat_map start_roles (range_with_len 0 (length plan.holders))) (new_roles old plan) j j
    refl (length-start 0 (length plan.holders)) inside (omega arith)

-- the anchor of the first item is past those of the start
pub first_anchor : (old : Code) (plan : Insertions) → slice_index (anchors_of plan old.items) 0 ≡ null_stored_items * length plan.holders
first_anchor old plan = anchor-first plan (null_stored_items * length plan.holders) 0 old.items

last_from : (plan : Insertions) (n j : ℕ) (items : List Item) → slice_index (anchors_from plan n j items) (length items) ≡ n + length (roles_from plan j items)
last_from plan n j [] = omega arith
last_from plan n j (item ∷ items) =
    let later = last_from plan (n + count_at plan j) (j + 1) items in
    let both = length-append (item_roles plan j) (roles_from plan (j + 1) items) in
    let size = length-item plan j in
    omega (arith, later, both, size)

-- the last anchor is the number of all new items
pub last_anchor : (old : Code) (plan : Insertions) → slice_index (anchors_of plan old.items) (length old.items) ≡ length (new_roles old plan)
last_anchor old plan =
    let last = last_from plan (null_stored_items * length plan.holders) 0 old.items in
    let start = length-start 0 (length plan.holders) in
    let both = length-append (flat_map start_roles (range_with_len 0 (length plan.holders))) (roles_from plan 0 old.items) in
    omega (arith, last, start, both)

-- from an anchor to the next one
pub next_anchor : (old : Code) (plan : Insertions) (j : ℕ) → j < length old.items
    → slice_index (anchors_of plan old.items) (suc j) ≡ slice_index (anchors_of plan old.items) j + count_at plan j
next_anchor old plan j inside = (part_of old plan j inside).next

in_part : (plan : Insertions) (whole : List Role) (anchors : List ℕ) (t j : ℕ) (part : Part plan whole anchors t j) (k m : ℕ) → k ≡ slice_index anchors t + m
    → slice_get whole k ≡ slice_get (flat_map (before_roles j) (before_at plan j) ++ (Keep j ∷ (flat_map (after_roles plan j) (after_at plan j) ++ part.back))) m
in_part plan whole anchors t j part k m same =
    let at = part.at in
    let place : k ≡ length part.front + m = omega arith in
    (λ i. slice_get (part.is i) (place i))
    ∙ slice_get-append_right part.front (flat_map (before_roles j) (before_at plan j) ++ (Keep j ∷ (flat_map (after_roles plan j) (after_at plan j) ++ part.back))) m

-- ---- the four kinds of places

-- at the start, before an old item, the item, and after it
pub data Phase : Type 0 where
  AtStart : Phase
  Before : Phase
  Here : Phase
  Behind : Phase
  After : Phase

abbrev pub phase : Role → Phase
phase (StartNull h) = AtStart
phase (StartStore h) = AtStart
phase (LoadBefore j h) = Before
phase (FreeBefore j h) = Before
phase (NullBefore j h) = Before
phase (StoreBefore j h) = Before
phase (Keep j) = Here
phase (JumpOf j) = Behind
phase (DupAfter j h) = After
phase (LoadAfter j h) = After
phase (LinkAfter j h) = After
phase (StoreAfter j h) = After

abbrev pub is_here : Phase → Bool
is_here Here = true
is_here p = false

abbrev pub is_after : Phase → Bool
is_after After = true
is_after p = false

-- a role of this phase and this owner
pub record IsOf (p : Phase) (o : Option ℕ) (r : Role) : Type 0 where
  pub phase_is : phase r ≡ p
  pub owner_is : owner r ≡ o

of-same : (p : Phase) (o : Option ℕ) (x r : Role) → Some x ≡ Some r → IsOf p o x → IsOf p o r
of-same p o x r same is = subst (λ y. IsOf p o y) (same_Some _ _ same) is

start-role : (h n : ℕ) (rest : List Role) (k : ℕ) (r : Role) → k < null_stored_items * n
    → slice_get (flat_map start_roles (range_with_len h n) ++ rest) k ≡ Some r → IsOf AtStart None r
start-role h zero rest k r inside found = absurd (omega arith)
start-role h (suc n) rest zero r inside found = of-same AtStart None (StartNull h) r found (record { phase_is = refl; owner_is = refl })
start-role h (suc n) rest (suc zero) r inside found = of-same AtStart None (StartStore h) r found (record { phase_is = refl; owner_is = refl })
start-role h (suc n) rest (suc (suc k)) r inside found = start-role (h + 1) n rest k r (omega arith) found

before-role : (j : ℕ) (hs : List ℕ) (rest : List Role) (k : ℕ) (r : Role) → k < freed_items * length hs
    → slice_get (flat_map (before_roles j) hs ++ rest) k ≡ Some r → IsOf Before (Some j) r
before-role j [] rest k r inside found = absurd (omega arith)
before-role j (h ∷ hs) rest zero r inside found = of-same Before (Some j) (LoadBefore j h) r found (record { phase_is = refl; owner_is = refl })
before-role j (h ∷ hs) rest (suc zero) r inside found = of-same Before (Some j) (FreeBefore j h) r found (record { phase_is = refl; owner_is = refl })
before-role j (h ∷ hs) rest (suc (suc zero)) r inside found = of-same Before (Some j) (NullBefore j h) r found (record { phase_is = refl; owner_is = refl })
before-role j (h ∷ hs) rest (suc (suc (suc zero))) r inside found =
    of-same Before (Some j) (StoreBefore j h) r found (record { phase_is = refl; owner_is = refl })
before-role j (h ∷ hs) rest (suc (suc (suc (suc k)))) r inside found = before-role j hs rest k r (omega arith) found

all-behind : (looped : Bool) (j h : ℕ) → AllByRecursion (IsOf After (Some j)) (roles_behind looped j h)
all-behind true j h = (
  record { phase_is = refl; owner_is = refl },
  (record { phase_is = refl; owner_is = refl }, (record { phase_is = refl; owner_is = refl }, (record { phase_is = refl; owner_is = refl }, tt))),
)
all-behind false j h = (record { phase_is = refl; owner_is = refl }, (record { phase_is = refl; owner_is = refl }, tt))

all-after : (plan : Insertions) (j : ℕ) (hs : List ℕ) → AllByRecursion (IsOf After (Some j)) (flat_map (after_roles plan j) hs)
all-after plan j [] = tt
all-after plan j (h ∷ hs) =
    AllByRecursion-append (IsOf After (Some j)) (after_roles plan j h) (flat_map (after_roles plan j) hs) (all-behind (looped_at plan h) j h) (all-after plan j hs)

after-role : (plan : Insertions) (j : ℕ) (hs : List ℕ) (rest : List Role) (k : ℕ) (r : Role) → k < kept_items plan hs
    → slice_get (flat_map (after_roles plan j) hs ++ rest) k ≡ Some r → IsOf After (Some j) r
after-role plan j hs rest k r inside found =
    let size = length-after plan j hs in
    let own = element_at (flat_map (after_roles plan j) hs) k (omega (arith, size, inside)) in
    of-same After (Some j) own.0 r (sym (slice_get-append_left (flat_map (after_roles plan j) hs) rest k own.0 own.1) ∙ found)
    (AllByRecursion-at (IsOf After (Some j)) (flat_map (after_roles plan j) hs) k own.0 (all-after plan j hs) own.1)

-- where a new item is among those of its old item
pub data StandsAt (old : Code) (plan : Insertions) (k : ℕ) (r : Role) : Type 0 where
  InStart : k < slice_index (anchors_of plan old.items) 0 → IsOf AtStart None r → StandsAt old plan k r
  InBefore : (j : ℕ) → j < length old.items → slice_index (anchors_of plan old.items) j ≤ k → k < kept_new old plan j → IsOf Before (Some j) r
      → StandsAt old plan k r
  IsKept : (j : ℕ) → j < length old.items → k ≡ kept_new old plan j → r ≡ Keep j → StandsAt old plan k r
  InAfter : (j : ℕ) → j < length old.items → kept_new old plan j < k → k < slice_index (anchors_of plan old.items) (suc j) → IsOf After (Some j) r
      → StandsAt old plan k r

-- the item that is kept
pub kept_role : (old : Code) (plan : Insertions) (j : ℕ) → j < length old.items → slice_get (new_roles old plan) (kept_new old plan j) ≡ Some (Keep j)
kept_role old plan j inside =
    let part = part_of old plan j inside in
    let before = flat_map (before_roles j) (before_at plan j) in
    let rest = Keep j ∷ (flat_map (after_roles plan j) (after_at plan j) ++ part.back) in
    let size = length-before j (before_at plan j) in
    let place : freed_items * length (before_at plan j) ≡ length before + 0 = omega (arith, size) in
    in_part plan (new_roles old plan) (anchors_of plan old.items) j j part (kept_new old plan j) (freed_items * length (before_at plan j)) refl
    ∙ ap (λ n. slice_get (before ++ rest) n) place ∙ slice_get-append_right before rest 0

-- what comes before an old item, from its anchor on
pub role_before : (old : Code) (plan : Insertions) (j k : ℕ) (r : Role) → j < length old.items → slice_index (anchors_of plan old.items) j ≤ k
    → k < kept_new old plan j → slice_get (new_roles old plan) k ≡ Some r → IsOf Before (Some j) r
role_before old plan j k r inside low high found =
    let part = part_of old plan j inside in
    let m = k - slice_index (anchors_of plan old.items) j in
    let there = sym (in_part plan (new_roles old plan) (anchors_of plan old.items) j j part k m (omega arith)) ∙ found in
    before-role j (before_at plan j) (Keep j ∷ (flat_map (after_roles plan j) (after_at plan j) ++ part.back)) m r (omega arith) there

-- and after it, up to the next anchor
pub role_after : (old : Code) (plan : Insertions) (j k : ℕ) (r : Role) → j < length old.items → kept_new old plan j < k
    → k < slice_index (anchors_of plan old.items) (suc j) → slice_get (new_roles old plan) k ≡ Some r → IsOf After (Some j) r
role_after old plan j k r inside low high found =
    let part = part_of old plan j inside in
    let before = flat_map (before_roles j) (before_at plan j) in
    let after = flat_map (after_roles plan j) (after_at plan j) ++ part.back in
    let size = length-before j (before_at plan j) in
    let next = part.next in
    let m = k - slice_index (anchors_of plan old.items) j in
    let rest = m - suc (freed_items * length (before_at plan j)) in
    let place : m ≡ length before + suc rest = omega (arith, size) in
    let there : slice_get after rest ≡ Some r =
    sym (in_part plan (new_roles old plan) (anchors_of plan old.items) j j part k m (omega arith)
    ∙ ap (λ n. slice_get (before ++ (Keep j ∷ after)) n) place ∙ slice_get-append_right before (Keep j ∷ after) (suc rest)) ∙ found in
    after-role plan j (after_at plan j) part.back rest r (omega (arith, next)) there

-- what is at the start
pub role_start : (old : Code) (plan : Insertions) (k : ℕ) (r : Role) → k < slice_index (anchors_of plan old.items) 0 → slice_get (new_roles old plan) k ≡ Some r
    → IsOf AtStart None r
role_start old plan k r inside found =
    let first = first_anchor old plan in
    start-role 0 (length plan.holders) (roles_from plan 0 old.items) k r (omega arith) found

-- of those of item j
stands_in : (old : Code) (plan : Insertions) (j k : ℕ) (r : Role) → j < length old.items → slice_index (anchors_of plan old.items) j ≤ k
    → k < slice_index (anchors_of plan old.items) (suc j) → slice_get (new_roles old plan) k ≡ Some r → StandsAt old plan k r
stands_in old plan j k r inside low high found = go (cases_lt k (kept_new old plan j)) (cases_lt (kept_new old plan j) k) where
  go : (k < kept_new old plan j) ⊎ (kept_new old plan j ≤ k) → (kept_new old plan j < k) ⊎ (k ≤ kept_new old plan j) → StandsAt old plan k r
  go (inl less) side = InBefore j inside low less (role_before old plan j k r inside low less found)
  go (inr le) (inl more) = InAfter j inside more high (role_after old plan j k r inside more high found)
  go (inr le) (inr ge) =
      let same : k ≡ kept_new old plan j = omega arith in
      let kept = kept_role old plan j inside in
      IsKept j inside same (same_Some _ _ (sym found ∙ ap (λ n. slice_get (new_roles old plan) n) same ∙ kept))

-- of all
pub stands_at : (old : Code) (plan : Insertions) (k : ℕ) (r : Role) → slice_get (new_roles old plan) k ≡ Some r → StandsAt old plan k r
stands_at old plan k r found = go (cases_lt k (slice_index (anchors_of plan old.items) 0)) where
  go : (k < slice_index (anchors_of plan old.items) 0) ⊎ (slice_index (anchors_of plan old.items) 0 ≤ k) → StandsAt old plan k r
  go (inl less) = InStart less (role_start old plan k r less found)
  go (inr more) =
      let last = last_anchor old plan in
      let within = slice_get_within (new_roles old plan) k r found in
      let place = between (anchors_of plan old.items) (length old.items) k more (omega arith) in
      stands_in old plan place.0 k r place.1 place.2 place.3 found

-- ---- anchors

-- an anchor is that of an entry
pub entry_at : (old : Code) (plan : Insertions) (j : ℕ) → j < length old.items
    → (r : Role) × (slice_get (new_roles old plan) (slice_index (anchors_of plan old.items) j) ≡ Some r) × IsEntry old j r
entry_at old plan j inside =
    let part = part_of old plan j inside in
    let there = in_part plan (new_roles old plan) (anchors_of plan old.items) j j part (slice_index (anchors_of plan old.items) j) 0 (omega arith) in
    entered (before_at plan j) (flat_map (after_roles plan j) (after_at plan j) ++ part.back) there where
      entered : (hs : List ℕ) (rest : List Role)
          → slice_get (new_roles old plan) (slice_index (anchors_of plan old.items) j) ≡ slice_get (flat_map (before_roles j) hs ++ (Keep j ∷ rest)) 0
          → (r : Role) × (slice_get (new_roles old plan) (slice_index (anchors_of plan old.items) j) ≡ Some r) × IsEntry old j r
      entered [] rest there = (Keep j, there, (inside, inr refl))
      entered (h ∷ hs) rest there = (LoadBefore j h, there, (inside, inl (h, refl)))

-- the first new item is at the start
pub first_role : (old : Code) (plan : Insertions) → 0 < length plan.holders → slice_get (new_roles old plan) 0 ≡ Some (StartNull 0)
first_role old plan some = from (length plan.holders) some where
  from : (n : ℕ) → 0 < n → slice_get (flat_map start_roles (range_with_len 0 n) ++ roles_from plan 0 old.items) 0 ≡ Some (StartNull 0)
  from zero none = absurd (omega arith)
  from (suc n) more = refl
