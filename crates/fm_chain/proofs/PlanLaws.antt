-- The flags of a plan's holders are those of the holders whose sites lie in loops.
use Rattle.std.proofs.Common.{◌≡◌, ◌⊎◌, ℕ, zero, suc, ◌+◌, ◌<◌, ◌==◌, ◌||◌, Bool, true, false, List, [], ◌∷◌, length, length-set, map, set, replicate, Some, Contains, refl, inl, inr, ⊎_elim, sym, subst, ap, ◌∙◌, arith, if◌then◌else◌}
use Rattle.std.specs.Prelude.{slice_get}
use Rattle.std.specs.List.{flat_map, list_any, range_with_len}
use Rattle.std.proofs.lemmas.Bool.{eq-eqb, eqb-true, false≢true}
use Rattle.std.proofs.lemmas.List.{length-map, length-replicate}
use Rattle.std.proofs.lemmas.Option.{same_Some, slice_get_within}
use Rattle.fm_base.proofs.ContainsFacts.{Contains-cons_cases, Contains-flat_map}
use Rattle.fm_base.specs.Rows.{has}
use Rattle.fm_code.proofs.EdgesLemmas.{Contains-first, Contains-later, Contains-map}
use Rattle.fm_code.specs.declared.code_array.Code.{Code}
use Rattle.fm_flow.proofs.SourcesLemmas.{Contains-from_flat_map}
use Rattle.fm_conn.proofs.ListLemmas.{Contains-range}
use Rattle.fm_base.proofs.RowFacts.{has-replicate, has-set_kept, has-set_only, has-set_same}
use Rattle.fm_place.proofs.FullLemmas.{Numbered, numbers-found, numbers-from}
use Rattle.fm_place.specs.Insertions.{after_at, Holder, Insertions, numbers_of}
use Rattle.fm_place.specs.PlansBy.{IsPlanOf, paired}
use Rattle.fm_place.specs.declared.plans.Plan.{Plan}
use Rattle.fm_chain.specs.Laws.{ChainPlansAreLooped, PlansHaveTheChains}
use Rattle.fm_chain.specs.Loops.{is_looped}
use Rattle.fm_chain.specs.Planned.{chain_flags, flags_with, IsChainPlanOf}
use Rattle.fm_chain.specs.SafeChains.{with_loops}

-- ---- flags by pairs in turn

-- the flags after one pair
abbrev one_flag : Code → List Bool → ℕ × ℕ → List Bool
one_flag code row p = if is_looped code p.0 then set row p.1 true else row

one_size : (row : List Bool) (holder : ℕ) (b : Bool) → length (if b then set row holder true else row) ≡ length row
one_size row holder true = length-set row holder true
one_size row holder false = refl

one_kept : (row : List Bool) (holder n : ℕ) (b : Bool) → has row n ≡ true → has (if b then set row holder true else row) n ≡ true
one_kept row holder n true is = has-set_kept row holder n is
one_kept row holder n false is = is

flags_size : (code : Code) (pairs : List (ℕ × ℕ)) (row : List Bool) → length (flags_with code row pairs) ≡ length row
flags_size code [] row = refl
flags_size code (p ∷ pairs) row = flags_size code pairs (one_flag code row p) ∙ one_size row p.1 (is_looped code p.0)

flags_kept : (code : Code) (pairs : List (ℕ × ℕ)) (row : List Bool) (n : ℕ) → has row n ≡ true → has (flags_with code row pairs) n ≡ true
flags_kept code [] row n is = is
flags_kept code (p ∷ pairs) row n is = flags_kept code pairs (one_flag code row p) n (one_kept row p.1 n (is_looped code p.0) is)

flags_set : (code : Code) (pairs : List (ℕ × ℕ)) (row : List Bool) (j n : ℕ) → Contains pairs (j, n) → n < length row → is_looped code j ≡ true
    → has (flags_with code row pairs) n ≡ true
flags_set code [] row j n (i, inside, there) within looped = absurd (omega arith)
flags_set code (p ∷ pairs) row j n found within looped =
    ⊎_elim
    (λ (same : (j, n) ≡ p). flags_kept code pairs (one_flag code row p) n
    (subst (λ (q : ℕ × ℕ). has (one_flag code row q) n ≡ true) same
    (ap (λ (b : Bool). has (if b then set row n true else row) n) looped ∙ has-set_same row n within)))
    (λ later. flags_set code pairs (one_flag code row p) j n later
    (let size = one_size row p.1 (is_looped code p.0) in omega (arith, size, within)) looped)
    (Contains-cons_cases p pairs (j, n) found)

-- a flag was there, or a pair set it
abbrev IsSetBy : Code → List (ℕ × ℕ) → ℕ → Type 0
IsSetBy code pairs n = (j : ℕ) × (Contains pairs (j, n)) × (is_looped code j ≡ true)

flags_found : (code : Code) (pairs : List (ℕ × ℕ)) (row : List Bool) (n : ℕ) → has (flags_with code row pairs) n ≡ true
    → (has row n ≡ true) ⊎ IsSetBy code pairs n
flags_found code [] row n is = inl is
flags_found code (p ∷ pairs) row n is = ⊎_elim (one_found (is_looped code p.0) refl) later (flags_found code pairs (one_flag code row p) n is) where
  later : IsSetBy code pairs n → (has row n ≡ true) ⊎ IsSetBy code (p ∷ pairs) n
  later (j, found, looped) = inr (j, Contains-later p pairs (j, n) found, looped)

  one_found : (b : Bool) → is_looped code p.0 ≡ b → has (if b then set row p.1 true else row) n ≡ true → (has row n ≡ true) ⊎ IsSetBy code (p ∷ pairs) n
  one_found false looped was = inl was
  one_found true looped was =
      ⊎_elim (λ (same : n ≡ p.1). inr (p.0, Contains-first p pairs (p.0, n) (ap (λ (k : ℕ). (p.0, k)) same), looped)) (λ old. inl old)
      (has-set_only row p.1 n was)

-- ---- pairs by holders

pub paired_found : (x : ℕ) (hs : List ℕ) (p : ℕ × ℕ) → Contains (map (λ h. (x, h)) hs) p → (p.0 ≡ x) × Contains hs p.1
paired_found x [] p (i, inside, there) = absurd (omega arith)
paired_found x (h ∷ hs) p found =
    ⊎_elim (λ (same : p ≡ (x, h)). (ap (λ (q : ℕ × ℕ). q.0) same, Contains-first h hs p.1 (ap (λ (q : ℕ × ℕ). q.1) same)))
    (λ later. let rest = paired_found x hs p later in (rest.0, Contains-later h hs p.1 rest.1)) (Contains-cons_cases (x, h) (map (λ h. (x, h)) hs) p found)

row_is : (row : List Bool) (holders : List Holder) (f : Holder → Bool) → length row ≡ length holders
    → ((n : ℕ) (h : Holder) → slice_get holders n ≡ Some h → has row n ≡ f h) → row ≡ map f holders
row_is [] [] f size same = refl
row_is [] (h ∷ holders) f size same = absurd (omega (arith, size))
row_is (b ∷ row) [] f size same = absurd (omega (arith, size))
row_is (b ∷ row) (h ∷ holders) f size same = λ k. same 0 h refl k ∷ row_is row holders f (omega (arith, size)) (λ n g at. same (suc n) g at) k

-- ---- the holders with flags

module _ (code : Code) (ins : Insertions) where
  flagged : (holders : List Holder)
      → map (λ (h : Holder). h.looped) (map (λ (h : Holder). record h { looped = is_looped code h.site }) holders) ≡ map (λ (h : Holder). is_looped code h.site) holders
  flagged [] = refl
  flagged (h ∷ holders) = ap (λ rest. is_looped code h.site ∷ rest) (flagged holders)

  same_numbers : (j n : ℕ) (holders : List Holder)
      → numbers_of (λ h. h.site == j) n (map (λ (h : Holder). record h { looped = is_looped code h.site }) holders) ≡ numbers_of (λ h. h.site == j) n holders
  same_numbers j n [] = refl
  same_numbers j n (h ∷ holders) = λ k. let rest = same_numbers j (n + 1) holders k in if h.site == j then n ∷ rest else rest

  module _ (plan : Plan) (is : IsPlanOf ins plan)
      (inside : (number : ℕ) (h : Holder) → slice_get ins.holders number ≡ Some h → h.site < length ins.before) where
    abbrev items : ℕ
    items = length ins.before

    abbrev pairs : List (ℕ × ℕ)
    pairs = flat_map (paired (after_at ins)) (range_with_len 0 items)

    abbrev flags : List Bool
    flags = flags_with code (replicate (length ins.holders) false) pairs

    looped_flag : (n : ℕ) (h : Holder) → slice_get ins.holders n ≡ Some h → is_looped code h.site ≡ true → has flags n ≡ true
    looped_flag n h at looped =
        let within = slice_get_within ins.holders n h at in
        flags_set code pairs (replicate (length ins.holders) false) h.site n
        (Contains-flat_map (paired (after_at ins)) (range_with_len 0 items) h.site (h.site, n)
        (Contains-range 0 items h.site (omega arith) (let few = inside n h at in omega (arith, few)))
        (Contains-map (λ (k : ℕ). (h.site, k)) (after_at ins h.site) n
        (subst (Contains (after_at ins h.site)) (omega arith)
        (numbers-from (λ (g : Holder). g.site == h.site) 0 ins.holders n h at (eq-eqb h.site h.site refl)))))
        (omega (arith, within, length-replicate (length ins.holders) false)) looped

    found_flag : (n : ℕ) (h : Holder) → slice_get ins.holders n ≡ Some h → has flags n ≡ true → is_looped code h.site ≡ true
    found_flag n h at on =
        ⊎_elim (λ (was : has (replicate (length ins.holders) false) n ≡ true). absurd (false≢true (sym (has-replicate (length ins.holders) n) ∙ was)))
        (λ (by : IsSetBy code pairs n). by_pair by.0 by.1 by.2) (flags_found code pairs (replicate (length ins.holders) false) n on) where
          by_holder : (j : ℕ) → Numbered (λ (g : Holder). g.site == j) 0 ins.holders n → is_looped code j ≡ true → is_looped code h.site ≡ true
          by_holder j was looped =
              let number : n ≡ was.place = omega (arith, was.number) in
              let same : was.holder ≡ h = same_Some was.holder h (sym was.there ∙ ap (slice_get ins.holders) (sym number) ∙ at) in
              ap (is_looped code) (ap (λ (g : Holder). g.site) (sym same) ∙ eqb-true was.holder.site j was.passes) ∙ looped

          by_pair : (j : ℕ) → Contains pairs (j, n) → is_looped code j ≡ true → is_looped code h.site ≡ true
          by_pair j found looped =
              let from = Contains-from_flat_map (paired (after_at ins)) (range_with_len 0 items) (j, n) found in
              let parts = paired_found from.0 (after_at ins from.0) (j, n) from.2 in
              by_holder j (numbers-found (λ (g : Holder). g.site == j) 0 ins.holders n
              (subst (λ (x : ℕ). Contains (after_at ins x) n) (sym parts.0) parts.1)) looped

    flag_is : (n : ℕ) (h : Holder) → slice_get ins.holders n ≡ Some h → has flags n ≡ is_looped code h.site
    flag_is n h at = by_both (is_looped code h.site) (has flags n) refl refl where
      by_both : (b c : Bool) → is_looped code h.site ≡ b → has flags n ≡ c → c ≡ b
      by_both true true looped on = refl
      by_both false false looped on = refl
      by_both true false looped on = absurd (false≢true (sym on ∙ looped_flag n h at looped))
      by_both false true looped on = absurd (false≢true (sym looped ∙ found_flag n h at on))

    flags_are : flags ≡ map (λ (h : Holder). is_looped code h.site) ins.holders
    flags_are =
        row_is flags ins.holders (λ (h : Holder). is_looped code h.site)
        (flags_size code pairs (replicate (length ins.holders) false) ∙ length-replicate (length ins.holders) false) flag_is

    pub plan_is_looped : IsChainPlanOf (with_loops code ins) (record { plan = plan; looped = chain_flags code plan })
    plan_is_looped = record {
      plan_is = record {
        holders = is.holders ∙ sym (length-map ins.holders (λ (h : Holder). record h { looped = is_looped code h.site }));
        after = is.after ∙ (λ k. flat_map (paired (λ j. sym (same_numbers j 0 ins.holders) k)) (range_with_len 0 items));
        before = is.before;
      };
      flags = (λ k. flags_with code (replicate (is.holders k) false) (is.after k)) ∙ flags_are ∙ sym (flagged ins.holders);
    }

pub chain_plans_are_looped : ChainPlansAreLooped
chain_plans_are_looped code ins plan is inside = plan_is_looped code ins plan is inside

-- ---- a flag among them

any_shift : (f : ℕ → Bool) (i n : ℕ) → list_any f (range_with_len (i + 1) n) ≡ list_any (λ x. f (suc x)) (range_with_len i n)
any_shift f i zero = refl
any_shift f i (suc n) = let next : i + 1 ≡ suc i = omega arith in λ k. f (next k) || any_shift f (i + 1) n k

any_flag : (holders : List Holder)
    → list_any (has (map (λ (h : Holder). h.looped) holders)) (range_with_len 0 (length holders)) ≡ list_any (λ (h : Holder). h.looped) holders
any_flag [] = refl
any_flag (h ∷ holders) =
    let row = map (λ (g : Holder). g.looped) holders in
    ap (λ (b : Bool). h.looped || b) (any_shift (has (h.looped ∷ row)) 0 (length holders) ∙ any_flag holders)

pub plans_have_the_chains : PlansHaveTheChains
plans_have_the_chains ins p is = (λ k. list_any (has (is.flags k)) (range_with_len 0 (is.plan_is.holders k))) ∙ any_flag ins.holders
