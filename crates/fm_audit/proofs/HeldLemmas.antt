-- At which sites the holders of a method take their objects.
use Rattle.std.proofs.Common.{◌≡◌, ℕ, zero, suc, ◌+◌, ◌-◌, ◌<◌, ◌≤◌, ◌++◌, ◌==◌, cond, true, false, List, [], ◌∷◌, length, Option, Some, None, Contains, refl, sym, ap, subst, ◌∙◌, append_assoc, append-nil, arith, eqb-true}
use Rattle.std.specs.Prelude.{slice_get}
use Rattle.std.specs.List.{range_with_len}
use Rattle.std.specs.Option.{option_map}
use Rattle.std.proofs.lemmas.Option.{none-some, same_Some}
use Rattle.fm_code.proofs.EdgesLemmas.{Contains-first, Contains-later}
use Rattle.fm_place.specs.declared.found_sites.Site.{Site}
use Rattle.fm_audit.specs.inner.Holders.{and_those, class_at, held_by, held_by_all, item_of, site_with_class, with_class}

-- ---- one holder after the other

-- the numbers from one below n on are this one and those after it
pub range_from : (h n : ℕ) → h < n → range_with_len h (n - h) ≡ h ∷ range_with_len (h + 1) (n - (h + 1))
range_from h n below = let left : n - h ≡ suc (n - (h + 1)) = omega (arith, below) in ap (range_with_len h) left

-- there are none from n on
pub range_past : (h n : ℕ) → n ≤ h → range_with_len h (n - h) ≡ []
range_past h n past = let left : n - h ≡ 0 = omega (arith, past) in ap (range_with_len h) left

joined : (before : List (ℕ × ℕ)) (p : ℕ × ℕ) (found : Option (List (ℕ × ℕ)))
    → option_map (λ (more : List (ℕ × ℕ)). (before ++ p ∷ []) ++ more) found
    ≡ option_map (λ (more : List (ℕ × ℕ)). before ++ more) (option_map (λ (more : List (ℕ × ℕ)). p ∷ more) found)
joined before p None = refl
joined before p (Some more) = λ k. Some (append_assoc before (p ∷ []) more k)

module _ (sites : List Site) (after : List (ℕ × ℕ)) (h n : ℕ) (whole : Option (List (ℕ × ℕ))) where
  -- a holder more
  pub held_more : (p : ℕ × ℕ) (before more : List (ℕ × ℕ)) → h < n → held_by sites after h ≡ Some p → more ≡ before ++ p ∷ []
      → option_map (λ (l : List (ℕ × ℕ)). before ++ l) (held_by_all sites after (range_with_len h (n - h))) ≡ whole
      → option_map (λ (l : List (ℕ × ℕ)). more ++ l) (held_by_all sites after (range_with_len (h + 1) (n - (h + 1)))) ≡ whole
  held_more p before more below found is so_far =
      let rest = held_by_all sites after (range_with_len (h + 1) (n - (h + 1))) in
      (λ k. option_map (λ (l : List (ℕ × ℕ)). is k ++ l) rest) ∙ joined before p rest
      ∙ sym (ap (λ o. option_map (λ (l : List (ℕ × ℕ)). before ++ l) (and_those o rest)) found)
      ∙ sym (ap (λ ns. option_map (λ (l : List (ℕ × ℕ)). before ++ l) (held_by_all sites after ns)) (range_from h n below)) ∙ so_far

  -- one that takes no object of a captured site
  pub held_stops : (before : List (ℕ × ℕ)) → h < n → held_by sites after h ≡ None
      → option_map (λ (l : List (ℕ × ℕ)). before ++ l) (held_by_all sites after (range_with_len h (n - h))) ≡ whole → whole ≡ None
  held_stops before below none so_far =
      let rest = held_by_all sites after (range_with_len (h + 1) (n - (h + 1))) in
      sym so_far ∙ ap (λ ns. option_map (λ (l : List (ℕ × ℕ)). before ++ l) (held_by_all sites after ns)) (range_from h n below)
      ∙ ap (λ o. option_map (λ (l : List (ℕ × ℕ)). before ++ l) (and_those o rest)) none

  -- the last one
  pub held_ends : (before : List (ℕ × ℕ)) → n ≤ h
      → option_map (λ (l : List (ℕ × ℕ)). before ++ l) (held_by_all sites after (range_with_len h (n - h))) ≡ whole → Some before ≡ whole
  held_ends before past so_far =
      sym (ap (λ (l : List (ℕ × ℕ)). Some l) (append-nil before))
      ∙ sym (ap (λ ns. option_map (λ (l : List (ℕ × ℕ)). before ++ l) (held_by_all sites after ns)) (range_past h n past)) ∙ so_far

-- ---- one holder

item_found : (after : List (ℕ × ℕ)) (h j : ℕ) → item_of after h ≡ Some j → Contains after (j, h)
item_found [] h j found = absurd (none-some j found)
item_found (p ∷ after) h j found =
    (elim (p.1 == h) as (λ b. (p.1 == h) ≡ b → cond b (Some p.0) (item_of after h) ≡ Some j → Contains (p ∷ after) (j, h)) [
      | true ↦ (λ same is.
          let item : p.0 ≡ j = same_Some _ _ is in
          let holder : p.1 ≡ h = eqb-true p.1 h same in
          Contains-first p after (j, h) (λ k. (sym item k, sym holder k)))
      | false ↦ (λ other is. Contains-later p after (j, h) (item_found after h j is))
    ]) refl found

class_parts : (sites : List Site) (j : ℕ) (p : ℕ × ℕ) (o : Option ℕ) → class_at sites j ≡ o → with_class o j ≡ Some p
    → (j ≡ p.0) × (class_at sites p.0 ≡ Some p.1)
class_parts sites j p None own none = absurd (none-some p none)
class_parts sites j p (Some class) own some =
    let same : ◌≡◌ {A = ℕ × ℕ} (j, class) p = same_Some _ _ some in
    (ap (λ (q : ℕ × ℕ). q.0) same, subst (λ (q : ℕ × ℕ). class_at sites q.0 ≡ Some q.1) same own)

-- the holder takes an object after an item, which is a captured site of objects of this class
pub record IsHeld (sites : List Site) (after : List (ℕ × ℕ)) (h : ℕ) (p : ℕ × ℕ) : Type 0 where
  pub pair : Contains after (p.0, h)
  pub class_is : class_at sites p.0 ≡ Some p.1

item_parts : (sites : List Site) (after : List (ℕ × ℕ)) (h : ℕ) (p : ℕ × ℕ) (o : Option ℕ) → item_of after h ≡ o → site_with_class sites o ≡ Some p
    → IsHeld sites after h p
item_parts sites after h p None own none = absurd (none-some p none)
item_parts sites after h p (Some j) own some =
    let parts = class_parts sites j p (class_at sites j) refl some in
    record { pair = subst (λ (i : ℕ). Contains after (i, h)) parts.0 (item_found after h j own); class_is = parts.1 }

pub held_parts : (sites : List Site) (after : List (ℕ × ℕ)) (h : ℕ) (p : ℕ × ℕ) → held_by sites after h ≡ Some p → IsHeld sites after h p
held_parts sites after h p is = item_parts sites after h p (item_of after h) refl is

-- ---- all holders

-- these are the items and classes of this many holders, from one on
pub record AreHeld (sites : List Site) (after : List (ℕ × ℕ)) (a n : ℕ) (held : List (ℕ × ℕ)) : Type 0 where
  pub count : length held ≡ n
  pub each : (k : ℕ) (p : ℕ × ℕ) → slice_get held k ≡ Some p → held_by sites after (a + k) ≡ Some p

first_and : (sites : List Site) (after : List (ℕ × ℕ)) (a n : ℕ) (p : ℕ × ℕ) (rest : List (ℕ × ℕ)) → held_by sites after a ≡ Some p
    → AreHeld sites after (a + 1) n rest → (k : ℕ) (q : ℕ × ℕ) → slice_get (p ∷ rest) k ≡ Some q → held_by sites after (a + k) ≡ Some q
first_and sites after a n p rest own later zero q there =
    let start : a + 0 ≡ a = omega arith in ap (held_by sites after) start ∙ own ∙ there
first_and sites after a n p rest own later (suc k) q there =
    let next : a + suc k ≡ a + 1 + k = omega arith in ap (held_by sites after) next ∙ later.each k q there

one_more : (sites : List Site) (after : List (ℕ × ℕ)) (a n : ℕ) (held : List (ℕ × ℕ)) (o : Option (ℕ × ℕ)) (m : Option (List (ℕ × ℕ)))
    → held_by sites after a ≡ o → ((rest : List (ℕ × ℕ)) → m ≡ Some rest → AreHeld sites after (a + 1) n rest) → and_those o m ≡ Some held
    → AreHeld sites after a (suc n) held
one_more sites after a n held None m own more none = absurd (none-some held none)
one_more sites after a n held (Some p) None own more none = absurd (none-some held none)
one_more sites after a n held (Some p) (Some rest) own more some =
    let later = more rest refl in
    subst (AreHeld sites after a (suc n)) (same_Some _ _ some)
    (record { count = ap suc later.count; each = first_and sites after a n p rest own later })

pub held_each : (sites : List Site) (after : List (ℕ × ℕ)) (a n : ℕ) (held : List (ℕ × ℕ)) → held_by_all sites after (range_with_len a n) ≡ Some held
    → AreHeld sites after a n held
held_each sites after a zero held is =
    subst (AreHeld sites after a 0) (same_Some _ _ is) (record { count = refl; each = λ k p there. absurd (none-some p there) })
held_each sites after a (suc n) held is =
    one_more sites after a n held (held_by sites after a) (held_by_all sites after (range_with_len (a + 1) n)) refl
    (λ rest found. held_each sites after (a + 1) n rest found) is
