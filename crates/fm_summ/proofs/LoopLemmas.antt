-- What a step of the loop over the methods that wait leaves, and that the loop ends.
use Rattle.std.proofs.Common.{◌≡◌, ◌≢◌, ℕ, ◌+◌, ◌*◌, ◌<◌, ◌≤◌, ◌⊎◌, Bool, true, false, not, eqb, List, [], ◌∷◌, length, map, get_or, set, sum_by, Contains, refl, ap, sym, ◌∙◌, subst, inl, inr, ⊎_elim, arith, eqb-true, eq-eqb, length-set}
use Rattle.std.proofs.lemmas.Bool.{cases_eq, false≢true, not-false, or_cases, or_parts}
use Rattle.std.proofs.lemmas.List.{get_or-map, get_or-set_same, length-map, set-get_or}
use Rattle.std.proofs.lemmas.List.Sums.{get_or-le-sum_by, sum_by-set, sum_by-cons}
use Rattle.std.proofs.Math.Nat.{mul-le-mul_right}
use Rattle.fm_base.proofs.ContainsFacts.{Contains-cons_cases, Contains-none}
use Rattle.fm_code.proofs.EdgesLemmas.{Contains-later, Contains-map}
use Rattle.fm_world.specs.Programs.{Program}
use Rattle.fm_world.specs.Programs.{targets as targets_in}
use Rattle.fm_conn.specs.declared.ends.End2.{End2}
use Rattle.fm_conn.specs.declared.shapes.CallShape.{CallShape}
use Rattle.fm_conn.specs.declared.shapes.Shape.{Shape}
use Rattle.fm_summ.proofs.KeptLemmas.{closed_after, ends_elsewhere, sound_after, targets_after}
use Rattle.fm_conn.proofs.ListLemmas.{Contains-first}
use Rattle.fm_summ.specs.Exact.{no_shape, shape_at}
use Rattle.fm_summ.specs.inner.Callers.{call_targets, HasCallers}
use Rattle.fm_summ.specs.inner.Numbers.{Merges}
use Rattle.fm_summ.specs.inner.Passed.{ends_at, is_changed, method_pairs, renumbered, renumbered_call, renumbered_ends, Passes}
use Rattle.fm_summ.specs.inner.State.{all_ends_sum, end_sum, Going, IsClosed}

-- ---- numbers that stay

ends_stay : (ends : List (End2 × ℕ)) → renumbered_ends (λ n. n) ends ≡ ends
ends_stay [] = refl
ends_stay (e ∷ ends) = ap (λ list. e ∷ list) (ends_stay ends)

calls_stay : (calls : List CallShape) → map (renumbered_call (λ n. n)) calls ≡ calls
calls_stay [] = refl
calls_stay (c ∷ calls) = λ k. (record { call = c.call; ends = ends_stay c.ends k }) ∷ calls_stay calls k

pub shape_stays : (s : Shape) → renumbered (λ n. n) s ≡ s
shape_stays s = λ k. record { ends = ends_stay s.ends k; calls = calls_stay s.calls k }

-- nothing is to be made one
pub passes_none : (targets : List (List ℕ)) (shapes : List Shape) (method : ℕ) → method_pairs shapes targets (shape_at shapes method).calls ≡ [] →
    Passes targets shapes shapes method false
passes_none targets shapes method none = record {
  f = λ n. n;
  merges = record {
    same = λ a b found. absurd (Contains-none (a, b) (subst (λ list. Contains list (a, b)) none found));
    only = λ a b same. ([], same);
    down = λ n. omega arith;
  };
  after_is = sym (ap (set shapes method) (shape_stays (shape_at shapes method)) ∙ set-get_or shapes method no_shape);
  none = λ _. refl;
  ends = λ _. refl;
  fewer = λ is. absurd (false≢true is);
}

-- ---- numbers that change

ends_unchanged : (f : ℕ → ℕ) (ends : List (End2 × ℕ)) → is_changed f ends ≡ false → renumbered_ends f ends ≡ ends
ends_unchanged f [] is = refl
ends_unchanged f (e ∷ ends) is =
    let both = or_parts (not (eqb (f e.1) e.1)) (is_changed f ends) is in
    let same : f e.1 ≡ e.1 = eqb-true (f e.1) e.1 (not-false (eqb (f e.1) e.1) both.0) in
    λ k. (e.0, same k) ∷ ends_unchanged f ends both.1 k

sum_down : (f : ℕ → ℕ) → ((n : ℕ) → f n ≤ n) → (ends : List (End2 × ℕ)) →
    sum_by (λ (e : End2 × ℕ). e.1) (renumbered_ends f ends) ≤ sum_by (λ (e : End2 × ℕ). e.1) ends
sum_down f down [] = omega arith
sum_down f down (e ∷ ends) =
    let rest = sum_down f down ends in
    let here = down e.1 in
    let one = sum_by-cons (λ (e : End2 × ℕ). e.1) (e.0, f e.1) (renumbered_ends f ends) in
    let other = sum_by-cons (λ (e : End2 × ℕ). e.1) e ends in
    omega arith

sum_falls : (f : ℕ → ℕ) → ((n : ℕ) → f n ≤ n) → (ends : List (End2 × ℕ)) → is_changed f ends ≡ true →
    sum_by (λ (e : End2 × ℕ). e.1) (renumbered_ends f ends) < sum_by (λ (e : End2 × ℕ). e.1) ends
sum_falls f down [] is = absurd (false≢true is)
sum_falls f down (e ∷ ends) is =
    let here = down e.1 in
    let one = sum_by-cons (λ (e : End2 × ℕ). e.1) (e.0, f e.1) (renumbered_ends f ends) in
    let other = sum_by-cons (λ (e : End2 × ℕ). e.1) e ends in
    ⊎_elim
    (λ (changed : not (eqb (f e.1) e.1) ≡ true).
    let rest = sum_down f down ends in
    ⊎_elim
    (λ (same : f e.1 ≡ e.1). absurd (false≢true (ap not (sym (eq-eqb (f e.1) e.1 same)) ∙ changed)))
    (λ (apart : f e.1 ≢ e.1). let falls : f e.1 < e.1 = omega arith in omega arith)
    (cases_eq (f e.1) e.1))
    (λ later. let rest = sum_falls f down ends later in omega arith)
    (or_cases (not (eqb (f e.1) e.1)) (is_changed f ends) is)

-- some numbers are made one
pub passes_some : (targets : List (List ℕ)) (shapes after : List Shape) (method : ℕ) (f : ℕ → ℕ) (changed : Bool) → method < length shapes →
    (method_pairs shapes targets (shape_at shapes method).calls ≡ [] → ⊥) → Merges (method_pairs shapes targets (shape_at shapes method).calls) f →
    after ≡ set shapes method (renumbered f (shape_at shapes method)) → changed ≡ is_changed f (shape_at shapes method).ends →
    Passes targets shapes after method changed
passes_some targets shapes after method f changed inside some merges is told = record {
  f = f;
  merges = merges;
  after_is = is;
  none = λ none. absurd (some none);
  ends = λ same.
      ap (λ list. (shape_at list method).ends) is ∙ ap (λ (s : Shape). s.ends) (get_or-set_same shapes method (renumbered f (shape_at shapes method)) no_shape inside)
      ∙ ends_unchanged f (shape_at shapes method).ends (sym told ∙ same);
  fewer = λ falls. sum_falls f merges.down (shape_at shapes method).ends (sym told ∙ falls);
}

-- ---- the loop

-- the methods that a call can lead to
abbrev targets_of : Program → CallShape → List ℕ
targets_of p c = targets_in p c.call

among_or_not : (xs : List ℕ) (x : ℕ) → Contains xs x ⊎ (Contains xs x → ⊥)
among_or_not [] x = inr (λ found. Contains-none x found)
among_or_not (y ∷ xs) x =
    ⊎_elim (λ (same : x ≡ y). inl (subst (λ v. Contains (y ∷ xs) v) (sym same) (Contains-first y xs)))
    (λ (apart : x ≢ y).
    ⊎_elim (λ found. inl (Contains-later y xs x found)) (λ none. inr (λ found. ⊎_elim (λ same. apart same) (λ later. none later) (Contains-cons_cases y xs x found)))
    (among_or_not xs x))
    (cases_eq x y)

-- the targets of a method's calls
pub targets_of_method : (p : Program) (given : List Shape) (targets : List (List (List ℕ))) (shapes : List Shape) (queue : List ℕ) →
    Going p given targets shapes queue → (method : ℕ) → method < length shapes → get_or targets method [] ≡ call_targets p (shape_at shapes method).calls
targets_of_method p given targets shapes queue going method inside =
    ap (λ list. get_or list method []) going.targets_are ∙ get_or-map (λ (s : Shape). call_targets p s.calls) shapes method no_shape [] inside

pub going_on : (p : Program) (given : List Shape) (targets : List (List (List ℕ))) (callers : List (List ℕ)) (shapes after : List Shape) (method : ℕ)
    (queue later : List ℕ) (changed : Bool) → Going p given targets shapes (method ∷ queue) → HasCallers targets callers → method < length shapes →
    Passes (get_or targets method []) shapes after method changed → ((m : ℕ) → Contains queue m → Contains later m) →
    (changed ≡ true → (m : ℕ) → Contains (get_or callers method []) m → Contains later m) → Going p given targets after later
going_on p given targets callers shapes after method queue later changed going listed inside passes kept pushed =
    let are = targets_of_method p given targets shapes (method ∷ queue) going method inside in
    let longer : length after ≡ length shapes = ap length passes.after_is ∙ length-set shapes method (renumbered passes.f (shape_at shapes method)) in
    let size : length targets ≡ length shapes = ap length going.targets_are ∙ length-map shapes (λ (s : Shape). call_targets p s.calls) in
    let other_ends = ends_elsewhere shapes after (get_or targets method []) method changed passes in
    record {
      sound = λ typings given_are. sound_after p typings shapes after (get_or targets method []) method changed inside are passes (going.sound typings given_are);
      one_each = longer ∙ going.one_each;
      targets_are = going.targets_are ∙ sym (targets_after p shapes after (get_or targets method []) method changed inside passes);
      closed = λ m there.
          let within : m < length shapes = omega arith in
          let done : Contains queue m ⊎ ((m ≡ method) ⊎ IsClosed p shapes m) =
          ⊎_elim
          (λ waits. ⊎_elim (λ (same : m ≡ method). inr (inl same)) (λ still. inl still) (Contains-cons_cases method queue m waits))
          (λ closed. inr (inr closed))
          (going.closed m within) in
          ⊎_elim (λ waits. inl (kept m waits))
          (λ done.
          let close : ((c : CallShape) (target : ℕ) → Contains (shape_at shapes m).calls c → Contains (targets_of p c) target → ends_at after target ≡ ends_at shapes target) → IsClosed p after m =
          closed_after p shapes after (get_or targets method []) method changed inside are passes m done in
          (elim changed as (λ b. changed ≡ b → Contains later m ⊎ IsClosed p after m) [
            | false ↦ (λ is.
                inr (close (λ c target among called.
                ⊎_elim (λ (same : target ≡ method). ap (ends_at after) same ∙ passes.ends is ∙ ap (ends_at shapes) (sym same))
                (λ (apart : target ≢ method). other_ends target apart)
                (cases_eq target method))))
            | true ↦ (λ is.
                ⊎_elim (λ calls. inl (pushed is m calls))
                (λ calls_not.
                inr (close (λ c target among called.
                other_ends target
                (λ same.
                let calls_of : get_or targets m [] ≡ call_targets p (shape_at shapes m).calls = targets_of_method p given targets shapes (method ∷ queue) going m within in
                let listed_call : Contains (get_or targets m []) (targets_of p c) =
                subst (λ list. Contains list (targets_of p c)) (sym calls_of) (Contains-map (targets_of p) (shape_at shapes m).calls c among) in
                calls_not
                (subst (λ t. Contains (get_or callers t []) m) same
                (listed.each target m (targets_of p c) (omega arith) (omega arith) listed_call called))))))
                (among_or_not (get_or callers method []) m))
          ]) refl)
          done;
    }

-- ---- the loop ends

sum_after : (shapes after : List Shape) (method : ℕ) (s : Shape) → method < length shapes → after ≡ set shapes method s →
    all_ends_sum after + end_sum (shape_at shapes method) ≡ all_ends_sum shapes + end_sum s
sum_after shapes after method s inside is =
    ap (λ list. sum_by end_sum list + end_sum (shape_at shapes method)) is ∙ sum_by-set end_sum shapes method s no_shape inside

-- where no end changes, the numbers are those that they were
pub sum_same : (targets : List (List ℕ)) (shapes after : List Shape) (method : ℕ) → method < length shapes → Passes targets shapes after method false →
    all_ends_sum after ≡ all_ends_sum shapes
sum_same targets shapes after method inside passes =
    let s = renumbered passes.f (shape_at shapes method) in
    let total = sum_after shapes after method s inside passes.after_is in
    let here : shape_at after method ≡ s = ap (λ list. shape_at list method) passes.after_is ∙ get_or-set_same shapes method s no_shape inside in
    let same : end_sum s ≡ end_sum (shape_at shapes method) =
    ap (sum_by (λ (e : End2 × ℕ). e.1)) (sym (ap (λ (v : Shape). v.ends) here) ∙ passes.ends refl) in
    omega arith

-- where one does, they fall
pub sum_less : (targets : List (List ℕ)) (shapes after : List Shape) (method : ℕ) → method < length shapes → Passes targets shapes after method true →
    all_ends_sum after < all_ends_sum shapes
sum_less targets shapes after method inside passes =
    let s = renumbered passes.f (shape_at shapes method) in
    let total = sum_after shapes after method s inside passes.after_is in
    let falls = passes.fewer refl in
    omega arith

-- so the work falls, though callers wait again
pub less_work : (before after all waits later callers : ℕ) → after < before → later ≤ waits + callers → callers ≤ all →
    after * all + later < before * all + (waits + 1)
less_work before after all waits later callers falls most within =
    let le : (after + 1) * all ≤ before * all = mul-le-mul_right all (let below : after + 1 ≤ before = omega arith in below) in
    omega arith

pub callers_within : (callers : List (List ℕ)) (method : ℕ) → method < length callers → length (get_or callers method []) ≤ sum_by length callers
callers_within callers method inside = get_or-le-sum_by length callers method [] inside

-- the work of the loop falls
pub work_falls : (targets : List (List ℕ)) (shapes after : List Shape) (method : ℕ) (changed : Bool) (callers : List (List ℕ)) (waits now : ℕ) →
    method < length shapes → method < length callers → Passes targets shapes after method changed → now ≤ waits + length (get_or callers method []) →
    (changed ≡ false → now ≤ waits) →
    all_ends_sum after * sum_by length callers + now < all_ends_sum shapes * sum_by length callers + (waits + 1)
work_falls targets shapes after method changed callers waits now inside listed passes more none =
    let all = sum_by length callers in
    (elim changed as (λ b. changed ≡ b → all_ends_sum after * all + now < all_ends_sum shapes * all + (waits + 1)) [
      | true ↦ (λ is.
          less_work (all_ends_sum shapes) (all_ends_sum after) all waits now (length (get_or callers method []))
          (sum_less targets shapes after method inside (subst (Passes targets shapes after method) is passes)) more (callers_within callers method listed))
      | false ↦ (λ is.
          let same = sum_same targets shapes after method inside (subst (Passes targets shapes after method) is passes) in
          let fewer = none is in
          omega (arith, ap (λ n. n * all) same))
    ]) refl
