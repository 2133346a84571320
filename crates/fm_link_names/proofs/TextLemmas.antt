-- Texts by number, and one text more.
use Rattle.std.proofs.Common.{◌≡◌, refl, sym, ◌∙◌, ap, ℕ, zero, suc, ◌+◌, ◌^◌, ◌<◌, ◌≤◌, Bool, true, false, cond, List, [], ◌∷◌, ◌++◌, length, slice_get, Option, Some, None, arith}
use Rattle.std.specs.Borrow.{Bor}
use Rattle.std.specs.List.{list_any, AllByRecursion, IsDistinct}
use Rattle.std.specs.Option.{option_map}
use Rattle.std.specs.Str.{bytes_eq}
use Rattle.std.proofs.lemmas.Bool.{true≢false}
use Rattle.std.proofs.lemmas.List.{map_push}
use Rattle.std.proofs.lemmas.Option.{none-some, same_Some, slice_get-map}
use Rattle.std.proofs.lemmas.Slice.Eq.{bytes_eq-Decides}
use Rattle.indexmap.specs.IndexSet.{insert_key}
use Rattle.fm_base.proofs.ListFacts.{slice_get-append_left}
use Rattle.fm_link_names.specs.inner.Numbering.{lent, Extends, IsNumberOf}

-- ---- texts that differ

-- a text differs from all of these, so it stands nowhere among them
other_texts : (text : List ℕ) (keys : List (Bor (List ℕ))) → AllByRecursion (λ (k : Bor (List ℕ)). bytes_eq text k.now ≡ false) keys
    → (n : ℕ) → slice_get (lent keys) n ≡ Some text → ⊥
other_texts text [] others n at = none-some text at
other_texts text (k ∷ ks) others zero at =
    true≢false (sym ((bytes_eq-Decides text k.now).1 (sym (same_Some k.now text at))) ∙ others.0)
other_texts text (k ∷ ks) others (suc n) at = other_texts text ks others.1 n at

-- each text of a set stands at one place alone
pub once_in_set : (keys : List (Bor (List ℕ))) → IsDistinct (λ (a b : Bor (List ℕ)). bytes_eq a.now b.now) keys → (m n : ℕ) (text : List ℕ)
    → slice_get (lent keys) m ≡ Some text → slice_get (lent keys) n ≡ Some text → m ≡ n
unfolding IsDistinct
once_in_set [] distinct m n text at_m at_n = absurd (none-some text at_m)
once_in_set (k ∷ ks) distinct zero zero text at_m at_n = refl
once_in_set (k ∷ ks) distinct zero (suc n) text at_m at_n =
    absurd (other_texts k.now ks distinct.0 n (at_n ∙ sym at_m))
once_in_set (k ∷ ks) distinct (suc m) zero text at_m at_n =
    absurd (other_texts k.now ks distinct.0 m (at_m ∙ sym at_n))
once_in_set (k ∷ ks) distinct (suc m) (suc n) text at_m at_n = ap (λ i. suc i) (once_in_set ks distinct.1 m n text at_m at_n)

-- ---- one text more

-- texts keep their places when one is inserted
pub extends_inserted : (keys : List (Bor (List ℕ))) (text : Bor (List ℕ))
    → Extends (lent keys) (lent (insert_key (λ (a b : Bor (List ℕ)). bytes_eq a.now b.now) keys text))
extends_inserted keys text n t at = by_case (list_any (λ (k : Bor (List ℕ)). bytes_eq text.now k.now) keys) where
  by_case : (known : Bool) → slice_get (lent (cond known keys (keys ++ text ∷ []))) n ≡ Some t
  by_case true = at
  by_case false =
      ap (λ ts. slice_get ts n) (map_push (λ (b : Bor (List ℕ)). b.now) keys text)
      ∙ slice_get-append_left (lent keys) (text.now ∷ []) n t at

-- the set grows by one text at most
pub at_most_one_more : (old new : List (Bor (List ℕ))) (is_new : Bool) → length old < 2 ^ 32 → length new ≡ length old + cond is_new 1 0
    → length new ≤ 2 ^ 32
at_most_one_more old new true below long = omega (arith, below, long)
at_most_one_more old new false below long = omega (arith, below, long)

-- a key that is equal to the text stands where the text does
pub text_at_key : (keys : List (Bor (List ℕ))) (n : ℕ) (text : List ℕ) (k : Bor (List ℕ)) → slice_get keys n ≡ Some k → bytes_eq text k.now ≡ true
    → slice_get (lent keys) n ≡ Some text
text_at_key keys n text k at same =
    slice_get-map (λ (b : Bor (List ℕ)). b.now) keys n ∙ ap (option_map (λ (b : Bor (List ℕ)). b.now)) at
    ∙ ap (λ (t : List ℕ). Some t) (sym ((bytes_eq-Decides text k.now).0 same))

-- ---- numbers of texts

pub number_kept : (old new : List (List ℕ)) → Extends old new → (text : Option (List ℕ)) (number : Option ℕ) → IsNumberOf old text number
    → IsNumberOf new text number
number_kept old new extends None None is = is
number_kept old new extends None (Some n) is = is
number_kept old new extends (Some text) None is = is
number_kept old new extends (Some text) (Some n) is = extends n text is
