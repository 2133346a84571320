-- Texts by their units, one after the other.
use Rattle.std.proofs.Common.{◌≡◌, refl, sym, ◌∙◌, ap, subst, ℕ, ◌+◌, ◌<◌, ◌≤◌, ◌==◌, ◌⊎◌, inl, inr, Bool, false, cond, List, [], ◌∷◌, ◌++◌, length, map, drop, get_or, set, replicate, is_some, Option, Some, None, arith, length-set, get_or-set_same, get_or-set_other}
use Rattle.std.specs.Borrow.{Bor}
use Rattle.std.specs.List.{flat_map, list_any}
use Rattle.std.specs.Str.{bytes_eq}
use Rattle.std.proofs.lemmas.Bool.{cases_eq, eq-eqb, ne_eqb, false_from_ne_true}
use Rattle.std.proofs.Math.ListN.{get_or-map}
use Rattle.std.proofs.lemmas.List.{drop_all, get_or_default, get_or-replicate, length-replicate}
use Rattle.std.proofs.lemmas.Slice.Eq.{bytes_eq-Decides}
use Rattle.fm_base.proofs.ListFacts.{drop_here, is_some-position}
use Rattle.fm_base.specs.Texts.{unit_bytes}
use Rattle.fm_world.specs.Numbers.{text_number}
use Rattle.fm_link_records.specs.inner.InTurn.{with_all, Tells}
use Rattle.fm_link_records.specs.inner.TextNumbers.{literals_by, units_at, with_text, AreApart, AreNumbered, IsModified}
use Rattle.fm_link_records.proofs.OneByOne.{distinct-all, numbered_step}
use Rattle.fm_link_names.specs.inner.Numbering.{lent}

-- ---- texts are distinguished by their units

pub bytes_eq-tells : Tells (List ℕ) bytes_eq
bytes_eq-tells = record { exact = λ a b. (bytes_eq-Decides a b).0; itself = λ a. (bytes_eq-Decides a a).1 refl }

-- two texts of one list with the same units are one
pub one_text : (texts : List (List ℕ)) (m n : ℕ) → AreApart texts → IsModified texts m → IsModified texts n
    → bytes_eq (units_at texts m) (units_at texts n) ≡ (m == n)
one_text texts m n apart here there = by (cases_eq m n) where
  by : (m ≡ n) ⊎ (m ≡ n → ⊥) → bytes_eq (units_at texts m) (units_at texts n) ≡ (m == n)
  by (inl e) = ap (λ k. bytes_eq (units_at texts m) (units_at texts k)) (sym e) ∙ bytes_eq-tells.itself (units_at texts m) ∙ sym (eq-eqb m n e)
  by (inr other) = false_from_ne_true (bytes_eq (units_at texts m) (units_at texts n)) (λ e. other (apart m n here.within there.within
      (here.modified.shortest ∙ ap (flat_map unit_bytes) (bytes_eq-tells.exact (units_at texts m) (units_at texts n) e)
      ∙ sym there.modified.shortest)))
      ∙ sym (ne_eqb m n other)

-- ---- one text more

-- whether a text has its number, by the table and by the list
pub has_number : (texts found : List (List ℕ)) (by_text : List (Option ℕ)) (text : ℕ) (b : Bool) → AreNumbered texts found by_text
    → IsModified texts text
    → is_some (get_or by_text text None) ≡ b → list_any (bytes_eq (units_at texts text)) found ≡ b
has_number texts found by_text text b are within has =
    sym (is_some-position (bytes_eq (units_at texts text)) found) ∙ ap is_some (sym (are.numbers text within)) ∙ has

pub numbered_more : (texts found : List (List ℕ)) (by_text : List (Option ℕ)) (text number : ℕ) → AreNumbered texts found by_text
    → AreApart texts → IsModified texts text → number ≡ length found
    → list_any (bytes_eq (units_at texts text)) found ≡ false
    → AreNumbered texts (found ++ units_at texts text ∷ []) (set by_text text (Some number))
numbered_more texts found by_text text number are apart here next fresh = record {
  count = length-set by_text text (Some number) ∙ are.count;
  numbers = λ n there. numbered_step bytes_eq bytes_eq-tells found (units_at texts text) (units_at texts n) (get_or by_text n None)
      (get_or (set by_text text (Some number)) n None) number next fresh (are.numbers n there)
      (at n (cases_eq n text) ∙ ap (λ b. cond b (Some number) (get_or by_text n None)) (sym (one_text texts text n apart here there)));
} where
  at : (n : ℕ) → (n ≡ text) ⊎ (n ≡ text → ⊥) → get_or (set by_text text (Some number)) n None ≡ cond (text == n) (Some number) (get_or by_text n None)
  at n (inl e) =
      let room : n < length by_text = let c = are.count in let within = here.within in omega (arith, c, within, e) in
      ap (λ k. get_or (set by_text k (Some number)) n None) (sym e) ∙ get_or-set_same by_text n (Some number) None room
      ∙ sym (ap (λ b. cond b (Some number) (get_or by_text n None)) (eq-eqb text n (sym e)))
  at n (inr other) =
      get_or-set_other by_text text n (Some number) None other
      ∙ sym (ap (λ b. cond b (Some number) (get_or by_text n None)) (ne_eqb text n (λ e. other (sym e))))

-- ---- all of them

pub all_literals : (texts : List (List ℕ)) (named : List ℕ) (found : List (List ℕ)) → found ≡ with_all bytes_eq [] (map (units_at texts) named)
    → found ≡ literals_by texts named
unfolding literals_by
all_literals texts named found is = is ∙ distinct-all bytes_eq bytes_eq-tells [] (map (units_at texts) named)

-- no text has a number yet
pub none_numbered : (texts found : List (List ℕ)) (by_text : List (Option ℕ)) (count : ℕ) → count ≡ length texts → by_text ≡ replicate count None
    → found ≡ []
    → AreNumbered texts found by_text
none_numbered texts found by_text count same is none = record {
  count = ap length is ∙ length-replicate count None ∙ same;
  numbers = λ n is_text. let P : ℕ → Type 0 = λ k. n < k in
      ap (λ os. get_or os n None) is ∙ get_or-replicate count n None None (subst P (sym same) is_text.within)
      ∙ sym (ap (λ fs. text_number fs (units_at texts n)) none);
}

-- one text more of those that are left
pub literals_step : (texts : List (List ℕ)) (named : List ℕ) (i : ℕ) (old new all : List (List ℕ)) → i < length named
    → new ≡ with_text texts old (get_or named i 0)
    → with_all bytes_eq old (map (units_at texts) (drop i named)) ≡ all
    → with_all bytes_eq new (map (units_at texts) (drop (i + 1) named)) ≡ all
literals_step texts named i old new all within added before =
    ap (λ found. with_all bytes_eq found (map (units_at texts) (drop (i + 1) named))) added
    ∙ sym (ap (λ ns. with_all bytes_eq old (map (units_at texts) ns)) (drop_here named i (get_or named i 0) within (get_or_default named i 0 _
    within)))
    ∙ before

-- the text behind a reference
pub lent_at : (texts : List (Bor (List ℕ))) (n : ℕ) (d : Bor (List ℕ)) → d.now ≡ [] → get_or (lent texts) n [] ≡ (get_or texts n d).now
lent_at texts n d empty = ap (get_or (lent texts) n) (sym empty) ∙ get_or-map (λ (b : Bor (List ℕ)). b.now) texts n d

-- no number is left
pub literals_end : (texts : List (List ℕ)) (named : List ℕ) (i : ℕ) (found : List (List ℕ)) → length named ≤ i
    → with_all bytes_eq found (map (units_at texts) (drop i named)) ≡ with_all bytes_eq [] (map (units_at texts) named)
    → found ≡ literals_by texts named
literals_end texts named i found end all =
    all_literals texts named found (sym (ap (λ ns. with_all bytes_eq found (map (units_at texts) ns)) (drop_all i named end)) ∙ all)
