-- The pairs of a lookupswitch, one after the other.
use Rattle.std.proofs.Common.{◌≡◌, ℕ, ◌+◌, ◌<◌, ◌≤◌, ◌⊎◌, inl, inr, List, [], ◌∷◌, ◌++◌, length, get_or, drop, refl, sym, ap, ◌∙◌, append_assoc, pos}
use Rattle.std.specs.Prelude.{ℤ}
use Rattle.std.proofs.Math.ListN.{drop_of_length-le}
use Rattle.std.proofs.lemmas.Bool.{cases_lt}
use Rattle.std.proofs.lemmas.List.{append-nil, get_or_default}
use Rattle.fm_base.proofs.ListFacts.{drop_here}
use Rattle.fm_code.specs.Numbers.{signed_four}
use Rattle.fm_layout.specs.Spelling.{jump_bytes, pair_bytes}

pub pairs_more : (starts : List ℕ) (start : ℕ) (keys : List ℤ) (targets : List ℕ) (i : ℕ) (front middle back total : List ℕ) → i < length keys → i < length targets
    → middle ≡ front ++ signed_four (get_or keys i (pos 0)) → back ≡ middle ++ jump_bytes starts start (get_or targets i 0)
    → front ++ pair_bytes starts start (drop i keys) (drop i targets) ≡ total → back ++ pair_bytes starts start (drop (i + 1) keys) (drop (i + 1) targets) ≡ total
pairs_more starts start keys targets i front middle back total in_keys in_targets key jump so_far =
    let k = get_or keys i (pos 0) in
    let t = get_or targets i 0 in
    let keys_next = drop_here keys i k in_keys (get_or_default keys i (pos 0) k in_keys) in
    let targets_next = drop_here targets i t in_targets (get_or_default targets i 0 t in_targets) in
    let rest = pair_bytes starts start (drop (i + 1) keys) (drop (i + 1) targets) in
    let whole : pair_bytes starts start (drop i keys) (drop i targets) ≡ signed_four k ++ (jump_bytes starts start t ++ rest) =
    (λ j. pair_bytes starts start (keys_next j) (targets_next j)) in
    ap (λ l. l ++ rest) (jump ∙ ap (λ l. l ++ jump_bytes starts start t) key) ∙ append_assoc (front ++ signed_four k) (jump_bytes starts start t) rest
    ∙ append_assoc front (signed_four k) (jump_bytes starts start t ++ rest) ∙ ap (λ l. front ++ l) (sym whole) ∙ so_far

pairs_none : (starts : List ℕ) (start : ℕ) (keys : List ℤ) → pair_bytes starts start keys [] ≡ []
pairs_none starts start [] = refl
pairs_none starts start (key ∷ keys) = refl

pub pairs_end : (starts : List ℕ) (start : ℕ) (keys : List ℤ) (targets : List ℕ) (i : ℕ) (front total : List ℕ) → (length keys ≤ i) ⊎ (length targets ≤ i)
    → front ++ pair_bytes starts start (drop i keys) (drop i targets) ≡ total → front ≡ total
pairs_end starts start keys targets i front total (inl past) so_far =
    sym (append-nil front) ∙ ap (λ ks. front ++ pair_bytes starts start ks (drop i targets)) (sym (drop_of_length-le keys past)) ∙ so_far
pairs_end starts start keys targets i front total (inr past) so_far =
    sym (append-nil front) ∙ ap (λ l. front ++ l) (sym (pairs_none starts start (drop i keys)))
    ∙ ap (λ ts. front ++ pair_bytes starts start (drop i keys) ts) (sym (drop_of_length-le targets past)) ∙ so_far

pub past_one : (m n i : ℕ) → (i < m → i < n → ⊥) → (m ≤ i) ⊎ (n ≤ i)
past_one m n i neither = go (cases_lt i m) (cases_lt i n) where
  go : (i < m) ⊎ (m ≤ i) → (i < n) ⊎ (n ≤ i) → (m ≤ i) ⊎ (n ≤ i)
  go (inr past) second = inl past
  go (inl first) (inr past) = inr past
  go (inl first) (inl second) = absurd (neither first second)
