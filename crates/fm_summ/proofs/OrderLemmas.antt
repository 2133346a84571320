-- Lists of methods that have each method once.
use Rattle.std.proofs.Common.{◌≡◌, ◌≢◌, ◌∙◌, ℕ, ◌+◌, ◌<◌, ◌≤◌, Bool, true, false, List, [], ◌∷◌, ◌++◌, length, set, slice_get, replicate, nat_eq, if◌then◌else◌, cond, Some, is_some, count_by, ◌⊎◌, inl, inr, ap, refl, sym, ⊎_elim, arith}
use Rattle.std.proofs.lemmas.Bool.{cases_eq, cases_lt, eq-eqb, false≢true, le-ltb, lt-ltb, ne_eqb}
use Rattle.std.proofs.lemmas.List.{get_or-replicate, get_or-set_other, get_or-set_same, get_or_past, length-replicate, set-get_or, set_past}
use Rattle.std.proofs.lemmas.List.Sums.{sum_by-append}
use Rattle.std.proofs.lemmas.Option.{get_or_from_slice_get, slice_get-get_or, slice_get_past}
use Rattle.fm_base.specs.Rows.{has}
use Rattle.fm_summ.specs.inner.Orders.{AreListed, ListsEachOnce}

-- none is listed at first
pub listed_none : (count : ℕ) (listed : List Bool) → listed ≡ replicate count false → AreListed listed []
listed_none count listed are m =
    ap (λ b. if b then 1 else 0) (sym (⊎_elim
    (λ (inside : m < count). ap (λ list. has list m) are ∙ get_or-replicate count m false false inside)
    (λ (past : count ≤ m). get_or_past listed m false (let long = ap length are ∙ length-replicate count false in omega (arith, long, past)))
    (cases_lt m count)))

count_more : (order : List ℕ) (method m : ℕ) → count_by (nat_eq m) (order ++ method ∷ []) ≡ count_by (nat_eq m) order + (if nat_eq m method then 1 else 0)
count_more order method m = let sum = sum_by-append (λ x. if nat_eq m x then 1 else 0) order (method ∷ []) in omega (arith, sum)

-- one is listed that wasn't
pub listed_more : (listed : List Bool) (order : List ℕ) (method : ℕ) → method < length listed → has listed method ≡ false → AreListed listed order
    → AreListed (set listed method true) (order ++ method ∷ [])
listed_more listed order method inside fresh are m =
    let more = count_more order method m in
    ⊎_elim
    (λ (same : m ≡ method).
    let before : count_by (nat_eq m) order ≡ 0 = are m ∙ ap (λ b. if b then 1 else 0) (ap (has listed) same ∙ fresh) in
    let one : cond {A = ℕ} (nat_eq m method) 1 0 ≡ 1 = ap (λ b. if b then 1 else 0) (eq-eqb m method same) in
    let now : cond {A = ℕ} (has (set listed method true) m) 1 0 ≡ 1 =
    ap (λ b. if b then 1 else 0) (ap (has (set listed method true)) same ∙ get_or-set_same listed method true false inside) in
    omega (arith, more, before, one, now))
    (λ (apart : m ≢ method).
    let none : cond {A = ℕ} (nat_eq m method) 1 0 ≡ 0 = ap (λ b. if b then 1 else 0) (ne_eqb m method apart) in
    let same : cond {A = ℕ} (has (set listed method true) m) 1 0 ≡ cond (has listed m) 1 0 =
    ap (λ b. if b then 1 else 0) (get_or-set_other listed method m true false apart) in
    omega (arith, more, are m, none, same))
    (cases_eq m method)

-- where there is no mark that isn't set, none more is set
pub set_already : (listed : List Bool) (method : ℕ) → (slice_get listed method ≡ Some false → false ≡ true) → listed ≡ set listed method true
set_already listed method none = by_place (cases_lt method (length listed)) where
  by_mark : (b : Bool) → has listed method ≡ b → method < length listed → listed ≡ set listed method true
  by_mark true is inside = sym (ap (set listed method) (sym is) ∙ set-get_or listed method false)
  by_mark false is inside = absurd (false≢true (none (slice_get-get_or listed method false inside ∙ ap Some is)))

  by_place : (method < length listed) ⊎ (length listed ≤ method) → listed ≡ set listed method true
  by_place (inl inside) = by_mark (has listed method) refl inside
  by_place (inr past) = sym (set_past listed method true past)

-- there is a mark that isn't set
pub unlisted : (listed : List Bool) (method : ℕ) → slice_get listed method ≡ Some false → (method < length listed) × (has listed method ≡ false)
unlisted listed method is = by_place (cases_lt method (length listed)) where
  by_place : (method < length listed) ⊎ (length listed ≤ method) → (method < length listed) × (has listed method ≡ false)
  by_place (inl inside) = (inside, get_or_from_slice_get listed method false false is)
  by_place (inr past) = absurd (false≢true (ap is_some (sym (slice_get_past listed method past) ∙ is)))

-- those below a number are listed, and then one more
pub below_listed : (listed : List Bool) (method : ℕ) → method < length listed → ((m : ℕ) → m < method → has listed m ≡ true)
    → (m : ℕ) → m < method + 1 → has (set listed method true) m ≡ true
below_listed listed method inside before m below =
    ⊎_elim (λ (same : m ≡ method). ap (has (set listed method true)) same ∙ get_or-set_same listed method true false inside)
    (λ (apart : m ≢ method). get_or-set_other listed method m true false apart ∙ before m (omega (arith, below, apart)))
    (cases_eq m method)

-- all are listed at the end
pub all_listed : (listed : List Bool) (order : List ℕ) (count : ℕ) → length listed ≡ count → ((m : ℕ) → m < count → has listed m ≡ true) → AreListed listed order
    → ListsEachOnce count order
all_listed listed order count long all are m =
    are m
    ∙ ap (λ b. if b then 1 else 0)
    (⊎_elim (λ (inside : m < count). all m inside ∙ sym (lt-ltb m count inside))
    (λ (past : count ≤ m). get_or_past listed m false (omega (arith, long, past)) ∙ sym (le-ltb m count past))
    (cases_lt m count))
