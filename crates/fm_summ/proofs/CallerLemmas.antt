-- Which methods are listed as callers.
use Rattle.std.proofs.Common.{◌≡◌, ◌≢◌, ℕ, zero, suc, ◌+◌, ◌-◌, ◌<◌, ◌≤◌, ◌⊎◌, true, false, cond, List, [], ◌∷◌, ◌++◌, length, get_or, replicate, Some, Contains, refl, ap, sym, ◌∙◌, subst, inl, ⊎_elim, arith, length-set}
use Rattle.std.proofs.lemmas.Bool.{cases_eq, cases_lt}
use Rattle.std.proofs.lemmas.List.{get_or-set_same, get_or-set_other, get_or_past, map-append}
use Rattle.std.proofs.lemmas.Option.{get_or_from_slice_get, slice_get_within}
use Rattle.std.specs.Global.{Vec}
use Rattle.std.specs.List.{slice_get}
use Rattle.std.proofs.lemmas.List.Elements.{Contains-append_left, Contains-push, Contains-push_cases}
use Rattle.fm_base.proofs.ContainsFacts.{Contains-cons_cases, Contains-none}
use Rattle.fm_conn.proofs.ListedEndLemmas.{same_number-is}
use Rattle.fm_summ.specs.inner.Callers.{ended_by, ends_with, lists_of, with_all, with_caller, with_callers, HasListed}

-- what a step keeps: the lists stay, all that is listed stays listed, and what is new lies below a bound
record Grows (before after : List (List ℕ)) (bound : ℕ) : Type 0 where
  pub one_each : length after ≡ length before
  pub kept : (target caller : ℕ) → Contains (get_or before target []) caller → Contains (get_or after target []) caller
  pub inside : ((target caller : ℕ) → Contains (get_or before target []) caller → caller < bound) →
      (target caller : ℕ) → Contains (get_or after target []) caller → caller < bound

grows_same : (callers : List (List ℕ)) (bound : ℕ) → Grows callers callers bound
grows_same callers bound = record { one_each = refl; kept = λ target caller found. found; inside = λ below. below }

grows_then : (a b c : List (List ℕ)) (bound : ℕ) → Grows a b bound → Grows b c bound → Grows a c bound
grows_then a b c bound first second = record {
  one_each = second.one_each ∙ first.one_each;
  kept = λ target caller found. second.kept target caller (first.kept target caller found);
  inside = λ below. second.inside (first.inside below);
}

-- ---- one caller more

ended_kept : (xs : List ℕ) (n k : ℕ) → Contains xs k → Contains (ended_by xs n) k
ended_kept xs n k found =
    elim (ends_with xs n) as (λ b. Contains (cond b xs (xs ++ n ∷ [])) k) [
      | true ↦ found
      | false ↦ Contains-append_left xs (n ∷ []) k found
    ]

ended_cases : (xs : List ℕ) (n k : ℕ) → Contains (ended_by xs n) k → Contains xs k ⊎ (n ≡ k)
ended_cases xs n k found =
    (elim (ends_with xs n) as (λ b. Contains (cond b xs (xs ++ n ∷ [])) k → Contains xs k ⊎ (n ≡ k)) [
      | true ↦ (λ there. inl there)
      | false ↦ (λ there. Contains-push_cases xs n k there)
    ]) found

ended_has : (xs : List ℕ) (n : ℕ) → Contains (ended_by xs n) n
ended_has xs n =
    (elim (ends_with xs n) as (λ b. ends_with xs n ≡ b → Contains (cond b xs (xs ++ n ∷ [])) n) [
      | true ↦ (λ is.
          let same = same_number-is (slice_get xs (length xs - 1)) (Some n) is in
          let last : slice_get xs (length xs - 1) ≡ Some n = same.1 ∙ sym same.2 in
          (length xs - 1, slice_get_within xs (length xs - 1) n last, get_or_from_slice_get xs (length xs - 1) n n last))
      | false ↦ (λ is. Contains-push xs n)
    ]) refl

at_target : (callers : List (List ℕ)) (target caller : ℕ) → target < length callers →
    get_or (with_caller callers target caller) target [] ≡ ended_by (get_or callers target []) caller
at_target callers target caller inside = get_or-set_same callers target (ended_by (get_or callers target []) caller) [] inside

elsewhere : (callers : List (List ℕ)) (target caller other : ℕ) → other ≢ target →
    get_or (with_caller callers target caller) other [] ≡ get_or callers other []
elsewhere callers target caller other apart = get_or-set_other callers target other (ended_by (get_or callers target []) caller) [] apart

past_target : (callers : List (List ℕ)) (target caller other : ℕ) → length callers ≤ other → get_or (with_caller callers target caller) other [] ≡ []
past_target callers target caller other past =
    get_or_past (with_caller callers target caller) other []
    (let size = length-set callers target (ended_by (get_or callers target []) caller) in omega arith)

grows_one : (callers : List (List ℕ)) (target caller bound : ℕ) → caller < bound → Grows callers (with_caller callers target caller) bound
grows_one callers target caller bound below = record {
  one_each = length-set callers target (ended_by (get_or callers target []) caller);
  kept = λ other k found.
      ⊎_elim
      (λ (same : other ≡ target).
      ⊎_elim
      (λ (inside : target < length callers).
      subst (λ t. Contains (get_or (with_caller callers target caller) t []) k) (sym same)
      (subst (λ list. Contains list k) (sym (at_target callers target caller inside))
      (ended_kept (get_or callers target []) caller k (subst (λ t. Contains (get_or callers t []) k) same found))))
      (λ (past : length callers ≤ target).
      absurd (Contains-none k (subst (λ list. Contains list k) (get_or_past callers target [] past) (subst (λ t. Contains (get_or callers t []) k) same found))))
      (cases_lt target (length callers)))
      (λ (apart : other ≢ target). subst (λ list. Contains list k) (sym (elsewhere callers target caller other apart)) found)
      (cases_eq other target);
  inside = λ all other k found.
      ⊎_elim
      (λ (same : other ≡ target).
      ⊎_elim
      (λ (inside : target < length callers).
      ⊎_elim (λ before. all target k before) (λ (now : caller ≡ k). omega arith)
      (ended_cases (get_or callers target []) caller k
      (subst (λ list. Contains list k) (at_target callers target caller inside)
      (subst (λ t. Contains (get_or (with_caller callers target caller) t []) k) same found))))
      (λ (past : length callers ≤ target).
      absurd (Contains-none k (subst (λ list. Contains list k) (past_target callers target caller other (omega arith)) found)))
      (cases_lt target (length callers)))
      (λ (apart : other ≢ target). all other k (subst (λ list. Contains list k) (elsewhere callers target caller other apart) found))
      (cases_eq other target);
}

listed_one : (callers : List (List ℕ)) (target caller : ℕ) → target < length callers → Contains (get_or (with_caller callers target caller) target []) caller
listed_one callers target caller inside =
    subst (λ list. Contains list caller) (sym (at_target callers target caller inside)) (ended_has (get_or callers target []) caller)

-- ---- at each of a list, of all lists

grows_callers : (callers : List (List ℕ)) (called : List ℕ) (caller bound : ℕ) → caller < bound → Grows callers (with_callers callers called caller) bound
grows_callers callers [] caller bound below = grows_same callers bound
grows_callers callers (target ∷ rest) caller bound below =
    grows_then callers (with_caller callers target caller) (with_callers (with_caller callers target caller) rest caller) bound
    (grows_one callers target caller bound below) (grows_callers (with_caller callers target caller) rest caller bound below)

listed_callers : (callers : List (List ℕ)) (called : List ℕ) (caller bound target : ℕ) → caller < bound → target < length callers → Contains called target →
    Contains (get_or (with_callers callers called caller) target []) caller
listed_callers callers [] caller bound target below inside found = absurd (Contains-none target found)
listed_callers callers (first ∷ rest) caller bound target below inside found =
    let one = grows_one callers first caller bound below in
    ⊎_elim
    (λ (same : target ≡ first).
    (grows_callers (with_caller callers first caller) rest caller bound below).kept target caller
    (subst (λ t. Contains (get_or (with_caller callers first caller) t []) caller) (sym same) (listed_one callers first caller (omega arith))))
    (λ later. listed_callers (with_caller callers first caller) rest caller bound target below (let size = one.one_each in omega arith) later)
    (Contains-cons_cases first rest target found)

grows_all : (callers : List (List ℕ)) (lists : List (List ℕ)) (from bound : ℕ) → from + length lists ≤ bound →
    Grows callers (with_all callers lists from) bound
grows_all callers [] from bound below = grows_same callers bound
grows_all callers (called ∷ rest) from bound below =
    grows_then callers (with_callers callers called from) (with_all (with_callers callers called from) rest (from + 1)) bound
    (grows_callers callers called from bound (omega arith)) (grows_all (with_callers callers called from) rest (from + 1) bound (omega arith))

listed_all : (callers : List (List ℕ)) (lists : List (List ℕ)) (from bound target index : ℕ) → from + length lists ≤ bound →
    target < length callers → index < length lists → Contains (get_or lists index []) target →
    Contains (get_or (with_all callers lists from) target []) (from + index)
listed_all callers [] from bound target index below inside within found = absurd (omega arith)
listed_all callers (called ∷ rest) from bound target zero below inside within found =
    let here : from + 0 ≡ from = omega arith in
    subst (λ k. Contains (get_or (with_all (with_callers callers called from) rest (from + 1)) target []) k) (sym here)
    ((grows_all (with_callers callers called from) rest (from + 1) bound (omega arith)).kept target from
    (listed_callers callers called from bound target (omega arith) inside found))
listed_all callers (called ∷ rest) from bound target (suc index) below inside within found =
    let one = grows_callers callers called from bound (omega arith) in
    let next : from + 1 + index ≡ from + suc index = omega arith in
    subst (λ k. Contains (get_or (with_all (with_callers callers called from) rest (from + 1)) target []) k) next
    (listed_all (with_callers callers called from) rest (from + 1) bound target index (omega arith) (let size = one.one_each in omega arith) (omega arith)
    found)

-- empty lists
nothing_listed : (n target caller : ℕ) → Contains (get_or (replicate n []) target []) caller → ⊥
nothing_listed zero target caller found = Contains-none caller found
nothing_listed (suc n) zero caller found = Contains-none caller found
nothing_listed (suc n) (suc target) caller found = nothing_listed n target caller found

length_of-replicate : (n : ℕ) → length (replicate n (let none : List ℕ = [] in none)) ≡ n
length_of-replicate zero = refl
length_of-replicate (suc n) = let rest = length_of-replicate n in omega arith

has_listed : (count : ℕ) (lists found : List (List ℕ)) → found ≡ with_all (replicate count []) lists 0 → HasListed count lists found
has_listed count lists found are =
    let empty : List (List ℕ) = replicate count [] in
    let grown = grows_all empty lists 0 (length lists) (omega arith) in
    let size : length empty ≡ count = length_of-replicate count in
    subst (HasListed count lists) (sym are) record {
      one_each = grown.one_each ∙ size;
      inside = grown.inside (λ n place there. absurd (nothing_listed count n place there));
      each = λ n place inside within has.
          let from_zero : 0 + place ≡ place = omega arith in
          subst (λ k. Contains (get_or (with_all empty lists 0) n []) k) from_zero
          (listed_all empty lists 0 (length lists) n place (omega arith) (omega arith) within has);
    }

-- ---- the code's lists

-- an empty list more
replicate_more : (n : ℕ) → replicate n (let none : List ℕ = [] in none) ++ [] ∷ [] ≡ replicate (n + 1) []
replicate_more zero = refl
replicate_more (suc n) =
    let e : suc (n + 1) ≡ suc n + 1 = omega arith in ap (λ list. [] ∷ list) (replicate_more n) ∙ ap (λ k. replicate k []) e

pub one_more_list : (before after : List (Vec ℕ)) (new : Vec ℕ) (n : ℕ) → lists_of before ≡ replicate n [] → after ≡ before ++ new ∷ [] → new.items ≡ [] →
    lists_of after ≡ replicate (n + 1) []
one_more_list before after new n so_far more empty =
    ap lists_of more ∙ map-append (λ (x : Vec ℕ). x.items) before (new ∷ []) ∙ (λ k. so_far k ++ empty k ∷ []) ∙ replicate_more n

pub lists_made : (count : ℕ) (lists before after : List (Vec ℕ)) (n : ℕ) → lists_of before ≡ replicate n [] → n ≡ count →
    lists_of after ≡ with_all (lists_of before) (lists_of lists) 0 → HasListed count (lists_of lists) (lists_of after)
lists_made count lists before after n empty size are =
    has_listed count (lists_of lists) (lists_of after) (are ∙ ap (λ list. with_all list (lists_of lists) 0) (empty ∙ ap (λ k. replicate k []) size))
