-- What is done at kept items, and what it costs: so no two states of one run match one state of
-- another.
use Rattle.std.proofs.Common.{◌≡◌, ℕ, zero, suc, ◌+◌, ◌-◌, ◌<◌, ◌≤◌, ◌⊎◌, Bool, true, false, List, [], ◌∷◌, length, nat_lt, None, refl, sym, ◌∙◌, ap, subst, inl, inr, if◌then◌else◌, arith}
use Rattle.std.proofs.Math.Nat.{le-suc_iff}
use Rattle.std.proofs.lemmas.Bool.{false≢true, ltb-false, ltb-true}
use Rattle.fm_frames.proofs.StepCounts.{costs_some}
use Rattle.fm_frames.specs.Acts.{Choose}
use Rattle.fm_frames.specs.States.{Frame, Moved, State}
use Rattle.fm_law_same_runs.proofs.Costs.{adds, all_went_on, goes_before}
use Rattle.fm_law_same_runs.specs.Beside.{Beside, EndedBefore, is_at_kept, kept_cost, kept_steps, Marks, StandsFor}
use Rattle.fm_law_same_runs.specs.Laws.{EndedHasNoMatch, MatchesAreOne, SecondGoesOn}

-- ---- what is done later costs no less

pub later_costs : (marks : Marks) (ys : ℕ → Moved) (l m : ℕ) → l ≤ m → kept_cost marks ys l ≤ kept_cost marks ys m
later_costs marks ys l zero le = subst (λ n. kept_cost marks ys n ≤ kept_cost marks ys zero) zero_is (omega arith) where
  zero_is : zero ≡ l
  zero_is = omega (arith, le)
later_costs marks ys l (suc m) le = by_case (λ before. later_costs marks ys l m before) (le-suc_iff.0 le) where
  by_case : (l ≤ m → kept_cost marks ys l ≤ kept_cost marks ys m) → (l ≤ m) ⊎ (l ≡ suc m) → kept_cost marks ys l ≤ kept_cost marks ys (suc m)
  by_case rest (inl before) = let less = rest before in omega (arith, less)
  by_case rest (inr is) = subst (λ n. kept_cost marks ys n ≤ kept_cost marks ys (suc m)) (sym is) (omega arith)

pub later_steps : (marks : Marks) (ys : ℕ → Moved) (l m : ℕ) → l ≤ m → kept_steps marks ys l ≤ kept_steps marks ys m
later_steps marks ys l zero le = subst (λ n. kept_steps marks ys n ≤ kept_steps marks ys zero) zero_is (omega arith) where
  zero_is : zero ≡ l
  zero_is = omega (arith, le)
later_steps marks ys l (suc m) le = by_case (λ before. later_steps marks ys l m before) (le-suc_iff.0 le) where
  by_case : (l ≤ m → kept_steps marks ys l ≤ kept_steps marks ys m) → (l ≤ m) ⊎ (l ≡ suc m) → kept_steps marks ys l ≤ kept_steps marks ys (suc m)
  by_case rest (inl before) = let less = rest before in omega (arith, less)
  by_case rest (inr is) = subst (λ n. kept_steps marks ys n ≤ kept_steps marks ys (suc m)) (sym is) (omega arith)

-- ---- a step at a kept item costs something

pub some_frames : (marks : Marks) (x : State) → is_at_kept marks x ≡ true → 0 < length x.frames
some_frames marks x kept = by_frames x.frames refl where
  by_frames : (frames : List Frame) → x.frames ≡ frames → 0 < length x.frames
  by_frames (f ∷ callers) is = subst (λ (frames : List Frame). 0 < length frames) (sym is) (omega arith)
  by_frames [] is = absurd (false≢true (sym (at_none is) ∙ kept)) where
    at_none : x.frames ≡ [] → is_at_kept marks x ≡ false
    at_none is = ap (λ frames. is_at_kept marks (record x { frames = frames })) is

-- one step more, by whether it is at a kept item
pub kept_next : (marks : Marks) (ys : ℕ → Moved) (l : ℕ) (kept : Bool) → is_at_kept marks (ys l).state ≡ kept
    → kept_cost marks ys (suc l) ≡ kept_cost marks ys l + (if kept then (ys (suc l)).state.steps - (ys l).state.steps else 0)
kept_next marks ys l kept is =
    ap (λ (b : Bool). kept_cost marks ys l + (if b then (ys (suc l)).state.steps - (ys l).state.steps else 0)) is

pub number_next : (marks : Marks) (ys : ℕ → Moved) (l : ℕ) (kept : Bool) → is_at_kept marks (ys l).state ≡ kept
    → kept_steps marks ys (suc l) ≡ kept_steps marks ys l + (if kept then 1 else 0)
number_next marks ys l kept is = ap (λ (b : Bool). kept_steps marks ys l + (if b then 1 else 0)) is

-- ---- one state matches another

module _ (b : Beside) (choose : Choose) (goes : SecondGoesOn b choose) (k : ℕ) where
  kept_costs : (l : ℕ) → is_at_kept b.marks (b.ys l).state ≡ true → (b.ys (suc l)).state.ended ≡ None
      → kept_cost b.marks b.ys l < kept_cost b.marks b.ys (suc l)
  kept_costs l kept going =
      let added = adds b.other choose b.ys goes l going (some_frames b.marks (b.ys l).state kept) in
      let some = costs_some b.other (b.ys l).state in
      let next = kept_next b.marks b.ys l true kept in omega (arith, added, some, next)

  not_before : (l m : ℕ) → StandsFor b k l → StandsFor b k m → l < m → ⊥
  not_before l m one other less =
      let less_cost = kept_costs l one.kept (all_went_on b.other choose b.ys goes (suc l) m less other.goes_on) in
      let rest = later_costs b.marks b.ys (suc l) m less in
      let same = one.cost ∙ sym other.cost in
      omega (arith, less_cost, rest, same)

  one_stands : (l m : ℕ) → StandsFor b k l → StandsFor b k m → l ≡ m
  one_stands l m one other = by_tests (nat_lt l m) (nat_lt m l) refl refl where
    by_tests : (before after : Bool) → nat_lt l m ≡ before → nat_lt m l ≡ after → l ≡ m
    by_tests true after is other_is = absurd (not_before l m one other (ltb-true l m is))
    by_tests false true is other_is = absurd (not_before m l other one (ltb-true m l other_is))
    by_tests false false is other_is = let le = ltb-false m l other_is in let ge = ltb-false l m is in omega (arith, le, ge)

  none_stands : (l : ℕ) → EndedBefore b k → StandsFor b k l → ⊥
  none_stands l h stands = by_case h.before where
    less : l < h.l
    less = goes_before b.other choose b.ys goes l h.l h.end stands.goes_on h.ended

    by_case : (h.l ≡ 0) ⊎ (kept_cost b.marks b.ys h.l < (b.xs k).state.steps) → ⊥
    by_case (inl is) = omega (arith, is, less)
    by_case (inr fewer) =
        let costs = later_costs b.marks b.ys l h.l (omega (arith, less)) in
        let here = stands.cost in omega (arith, fewer, costs, here)

pub matches_are_one : MatchesAreOne
matches_are_one b choose goes k = one_stands b choose goes k

pub ended_no_match : EndedHasNoMatch
ended_no_match b choose goes k l before stands = none_stands b choose goes k l before stands
