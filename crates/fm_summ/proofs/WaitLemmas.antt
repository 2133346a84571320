-- The queue of methods and its marks.
use Rattle.std.proofs.Common.{◌≡◌, ◌≢◌, ℕ, ◌+◌, ◌<◌, ◌≤◌, Bool, true, false, List, [], ◌∷◌, ◌++◌, length, take, get_or, set, replicate, Contains, ap, sym, ◌∙◌, subst, ⊎_elim, arith}
use Rattle.std.proofs.lemmas.Bool.{cases_eq, cases_lt, false≢true}
use Rattle.std.proofs.lemmas.List.{get_or_past, get_or-replicate, get_or-set_other, get_or-set_same, length-replicate, take_all, take_more}
use Rattle.std.proofs.lemmas.List.Elements.{Contains-append_left, Contains-push, Contains-push_cases}
use Rattle.fm_base.proofs.ContainsFacts.{Contains-cons_cases}

pub none_count : (count : ℕ) (waits : List Bool) → waits ≡ replicate count false → length waits ≡ count
none_count count waits are = ap length are ∙ length-replicate count false

-- none waits at first
pub none_marked : (count : ℕ) (waits : List Bool) → waits ≡ replicate count false → (queue : List ℕ) (m : ℕ) → get_or waits m false ≡ true → Contains queue m
none_marked count waits are queue m is =
    absurd (false≢true (sym (⊎_elim
    (λ (inside : m < count). ap (λ list. get_or list m false) are ∙ get_or-replicate count m false false inside)
    (λ (past : count ≤ m). get_or_past waits m false (let size = none_count count waits are in omega (arith, size, past)))
    (cases_lt m count)) ∙ is))

-- the first one waits no more
pub next_marked : (method : ℕ) (rest : List ℕ) (waits : List Bool) → method < length waits →
    ((m : ℕ) → get_or waits m false ≡ true → Contains (method ∷ rest) m) → (m : ℕ) → get_or (set waits method false) m false ≡ true → Contains rest m
next_marked method rest waits inside marked m is =
    ⊎_elim
    (λ (same : m ≡ method).
    absurd (false≢true (sym (ap (λ k. get_or (set waits method false) k false) same ∙ get_or-set_same waits method false false inside) ∙ is)))
    (λ (apart : m ≢ method).
    ⊎_elim (λ same. absurd (apart same)) (λ later. later)
    (Contains-cons_cases method rest m (marked m (sym (get_or-set_other waits method m false false apart) ∙ is))))
    (cases_eq m method)

-- one waits more
pub push_inside : (queue : List ℕ) (method count : ℕ) → ((m : ℕ) → Contains queue m → m < count) → method < count →
    (m : ℕ) → Contains (queue ++ method ∷ []) m → m < count
push_inside queue method count inside here m found =
    ⊎_elim (λ was. inside m was) (λ (same : method ≡ m). omega arith) (Contains-push_cases queue method m found)

pub push_marked : (queue : List ℕ) (method : ℕ) (waits : List Bool) → ((m : ℕ) → get_or waits m false ≡ true → Contains queue m) →
    (m : ℕ) → get_or (set waits method true) m false ≡ true → Contains (queue ++ method ∷ []) m
push_marked queue method waits marked m is =
    ⊎_elim
    (λ (same : m ≡ method). subst (λ k. Contains (queue ++ method ∷ []) k) (sym same) (Contains-push queue method))
    (λ (apart : m ≢ method).
    Contains-append_left queue (method ∷ []) m (marked m (sym (get_or-set_other waits method m true false apart) ∙ is)))
    (cases_eq m method)

-- those that were gone over
pub taken_more : (methods : List ℕ) (i : ℕ) → i < length methods → (P : ℕ → Type 0) → ((m : ℕ) → Contains (take i methods) m → P m) → P (get_or methods i 0) →
    (m : ℕ) → Contains (take (i + 1) methods) m → P m
taken_more methods i inside P was now m found =
    ⊎_elim (λ before. was m before) (λ (same : get_or methods i 0 ≡ m). subst P same now)
    (Contains-push_cases (take i methods) (get_or methods i 0) m (subst (λ list. Contains list m) (take_more methods i 0 inside) found))

pub all_taken : (methods : List ℕ) (i : ℕ) → length methods ≤ i → (m : ℕ) → Contains methods m → Contains (take i methods) m
all_taken methods i past m found = subst (λ list. Contains list m) (sym (take_all i methods past)) found
