use Rattle.std.proofs.Common.{◌≡◌, refl, sym, ◌∙◌, ap, subst, ◌+◌, ◌++◌, ◌∷◌, [], ◌<◌, length, not, Bool, true, false, nat_eq, take, get_or, set, List, ℕ}
use Rattle.std.specs.Global.{Vec}
use Rattle.std.proofs.lemmas.List.{length-set, take_more}
use Rattle.fm_base.proofs.TestFacts.{false_from_not}
use Rattle.fm_link_supers.proofs.Distinct.{distinct_added, distinct_kept, marked_more}
use Rattle.fm_world.specs.Chains.{distinct, is_among}
use Rattle.fm_link_supers.proofs.once.distinct.Goals as goal
use Rattle.fm_link_supers.proofs.once.distinct.Goals.{then-take_first+in_ok-push, else-take_first}

same : (a b : Bool) → a ≡ not b → a ≡ false → b ≡ true
same a true e h = refl
same a false e h = sym h ∙ e

-- a number that is new, and one that isn't
added : (xs : List ℕ) (i : ℕ) (old new : List ℕ) → i < length xs → old ≡ distinct nat_eq (take i xs) → new ≡ old ++ get_or xs i 0 ∷ []
    → is_among (get_or xs i 0) (take i xs) ≡ false → new ≡ distinct nat_eq (take (i + 1) xs)
added xs i old new within so_far more fresh =
    more ∙ ap (λ ys. ys ++ get_or xs i 0 ∷ []) so_far ∙ sym (distinct_added (take i xs) (get_or xs i 0) fresh) ∙ ap (distinct nat_eq) (sym (take_more xs i 0 within))

kept : (xs : List ℕ) (i : ℕ) (old new : List ℕ) → i < length xs → old ≡ distinct nat_eq (take i xs) → new ≡ old
    → is_among (get_or xs i 0) (take i xs) ≡ true → new ≡ distinct nat_eq (take (i + 1) xs)
kept xs i old new within so_far more seen =
    more ∙ so_far ∙ sym (distinct_kept (take i xs) (get_or xs i 0) seen) ∙ ap (distinct nat_eq) (sym (take_more xs i 0 within))

-- the marks with that of one number more
marked : (xs : List ℕ) (i : ℕ) (old new : List Bool) → i < length xs → ((q : ℕ) → get_or old q false ≡ is_among q (take i xs))
    → get_or xs i 0 < length old → new ≡ set old (get_or xs i 0) true → (q : ℕ) → get_or new q false ≡ is_among q (take (i + 1) xs)
marked xs i old new within so_far below more q =
    ap (λ marks. get_or marks q false) more ∙ marked_more old (take i xs) (get_or xs i 0) so_far below q
    ∙ ap (is_among q) (sym (take_more xs i 0 within))

still_within : (xs : List ℕ) (x : ℕ) (old new : List Bool) → new ≡ set old x true → ((k : ℕ) → k < length xs → get_or xs k 0 < length old)
    → (k : ℕ) → k < length xs → get_or xs k 0 < length new
still_within xs x old new more within k below =
    subst (λ n. get_or xs k 0 < n) (sym (ap (λ marks. length marks) more ∙ length-set old x true)) (within k below)

pub loop-number-preserved : goal.loop-number-preserved
loop-number-preserved c =
    let xs = c.args.numbers.now in
    let i = c.loop-number.number-index in
    let x = get_or xs i 0 in
    let here = c.loop-number-test.true in
    let old = c.loop-number.is_taken.items in
    let new = c.take_first.new.is_taken.items in
    record {
      marks = marked xs i old new here c.loop-number.invariant.marks (c.loop-number.invariant.within i here) c.take_first.ensures.marked;
      within = still_within xs x old new c.take_first.ensures.marked c.loop-number.invariant.within;
      kept =
          elim c.if-take_first.branch [
            | then-take_first+in_ok-push w ↦
                added xs i c.loop-number.kept.items c.if-take_first.kept.items here c.loop-number.invariant.kept
                (ap (λ (v : Vec ℕ). v.items) w.kept-is ∙ w.in_ok-push.ensures.items)
                (sym (c.loop-number.invariant.marks x) ∙ false_from_not c.take_first.result _ c.take_first.ensures.added w.if-take_first.true)
            | else-take_first w ↦
                kept xs i c.loop-number.kept.items c.if-take_first.kept.items here c.loop-number.invariant.kept
                (ap (λ (v : Vec ℕ). v.items) w.kept-is)
                (sym (c.loop-number.invariant.marks x) ∙ same c.take_first.result _ c.take_first.ensures.added w.if-take_first.false)
          ];
    }
