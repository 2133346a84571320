-- How many new items there are.
use Rattle.std.proofs.Common.{◌≡◌, ℕ, zero, suc, ◌+◌, ◌<◌, ◌≤◌, Bool, List, [], ◌∷◌, ◌++◌, length, get_or, drop, ap, subst, ◌∙◌, arith, append_assoc}
use Rattle.fm_base.proofs.ListFacts.{drop_here}
use Rattle.fm_base.specs.Rows.{has}
use Rattle.fm_chain.proofs.Replaced.{sum_cons}
use Rattle.fm_chain.specs.Chained.{taken_items}
use Rattle.fm_code.specs.declared.code_array.Item.{Item}
use Rattle.fm_place_weave.proofs.PairLemmas.{pair_at}
use Rattle.fm_place_weave.specs.ByPlan.{anchors_after, count_here, later, number_after, taken_count}

-- the number never falls
pub number_grows : (looped : List Bool) (number j : ℕ) (before after : List (ℕ × ℕ)) (items : List Item) → number ≤ number_after looped number j before after items
number_grows looped number j before after [] = omega arith
number_grows looped number j before after (item ∷ items) =
    let rest = number_grows looped (number + count_here looped j before after) (j + 1) (later j before) (later j after) items in
    omega arith

-- what the next item becomes is part of all
pub step_fits : (looped : List Bool) (items : List Item) (i number j total : ℕ) (before after : List (ℕ × ℕ)) → i < length items
    → number_after looped number j before after (drop i items) ≡ total → number + count_here looped j before after ≤ total
step_fits looped [] i number j total before after within is = absurd (omega arith)
step_fits looped (item ∷ items) zero number j total before after within is =
    let rest = number_grows looped (number + count_here looped j before after) (j + 1) (later j before) (later j after) items in
    omega (arith, is, rest)
step_fits looped (item ∷ items) (suc i) number j total before after within is = step_fits looped items i number j total before after (omega arith) is

one_more : (i : ℕ) → suc (i + 1) ≡ suc i + 1
one_more i = omega arith

-- the number after one item more
pub number_step : (looped : List Bool) (items : List Item) (i number j total next : ℕ) (before after before′ after′ : List (ℕ × ℕ)) → i < length items
    → next ≡ number + count_here looped j before after → before′ ≡ later j before → after′ ≡ later j after
    → number_after looped number j before after (drop i items) ≡ total → number_after looped next (j + 1) before′ after′ (drop (i + 1) items) ≡ total
number_step looped [] i number j total next before after before′ after′ within n b a is = absurd (omega arith)
number_step looped (item ∷ items) zero number j total next before after before′ after′ within n b a is = (λ k. number_after looped (n k) (j + 1) (b k) (a k) items) ∙ is
number_step looped (item ∷ items) (suc i) number j total next before after before′ after′ within n b a is =
    subst (λ m. number_after looped next (j + 1) before′ after′ (drop m (item ∷ items)) ≡ total) (one_more i)
    (number_step looped items i number j total next before after before′ after′ (omega arith) n b a is)

-- and the anchors
anchors_next : (looped : List Bool) (items : List Item) (i number j next : ℕ) (before after before′ after′ : List (ℕ × ℕ)) → i < length items
    → next ≡ number + count_here looped j before after → before′ ≡ later j before → after′ ≡ later j after
    → number ∷ anchors_after looped next (j + 1) before′ after′ (drop (i + 1) items) ≡ anchors_after looped number j before after (drop i items)
anchors_next looped [] i number j next before after before′ after′ within n b a = absurd (omega arith)
anchors_next looped (item ∷ items) zero number j next before after before′ after′ within n b a = λ k. number ∷ anchors_after looped (n k) (j + 1) (b k) (a k) items
anchors_next looped (item ∷ items) (suc i) number j next before after before′ after′ within n b a =
    subst (λ m. number ∷ anchors_after looped next (j + 1) before′ after′ (drop m (item ∷ items)) ≡ anchors_after looped number j before after (drop i items)) (one_more i)
    (anchors_next looped items i number j next before after before′ after′ (omega arith) n b a)

pub anchors_step : (looped : List Bool) (items : List Item) (i number j next : ℕ) (before after before′ after′ : List (ℕ × ℕ)) (front made whole : List ℕ) → i < length items
    → next ≡ number + count_here looped j before after → before′ ≡ later j before → after′ ≡ later j after → made ≡ front ++ number ∷ []
    → front ++ anchors_after looped number j before after (drop i items) ≡ whole
    → made ++ anchors_after looped next (j + 1) before′ after′ (drop (i + 1) items) ≡ whole
anchors_step looped items i number j next before after before′ after′ front made whole within n b a more so_far =
    ap (λ l. l ++ anchors_after looped next (j + 1) before′ after′ (drop (i + 1) items)) more
    ∙ append_assoc front (number ∷ []) (anchors_after looped next (j + 1) before′ after′ (drop (i + 1) items))
    ∙ ap (λ l. front ++ l) (anchors_next looped items i number j next before after before′ after′ within n b a) ∙ so_far

-- ---- items by which an object is taken

-- one pair more takes it
pub taken_here : (looped : List Bool) (pairs : List (ℕ × ℕ)) (i : ℕ) → i < length pairs
    → taken_count looped (drop i pairs) ≡ taken_items (has looped (get_or pairs i (0, 0)).1) + taken_count looped (drop (i + 1) pairs)
taken_here looped pairs i within =
    ap (taken_count looped) (drop_here pairs i (get_or pairs i (0, 0)) within (pair_at pairs i within))
    ∙ sum_cons (λ (p : ℕ × ℕ). taken_items (has looped p.1)) (get_or pairs i (0, 0)) (drop (i + 1) pairs)
