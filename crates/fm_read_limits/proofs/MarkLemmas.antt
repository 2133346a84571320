-- Marks of the texts of a pool, one index after the other, and what the mark of a descriptor means.
use Rattle.std.proofs.Common.{◌≡◌, ◌≢◌, ◌↔◌, ℕ, zero, suc, ◌+◌, ◌<◌, Bool, true, false, not, IsTrue, IsSomeAnd, inl, inr, replicate, set, List, [], ◌∷◌, length, take, get_or, get_or-set_same, get_or-set_other, add-one, Option, Some, None, refl, sym, ap, subst, ◌∙◌, arith}
use Rattle.std.proofs.lemmas.Bool.{cases_eq, false≢true}
use Rattle.std.proofs.lemmas.List.{get_or_read, get_or-take}
use Rattle.fm_code.specs.ConstantPool.{entry_at, utf8_at}
use Rattle.fm_code.specs.Profile.{IsFloatingMethod}
use Rattle.fm_code.specs.declared.class_file.Member.{Member}
use Rattle.fm_code.specs.declared.constant_pool.Entry.{Entry}
use Rattle.fm_code.specs.declared.constant_pool.Entry.TheVariants as entry
use Rattle.fm_read_limits.specs.inner.Declared.{IsMethodText, DeclaresMethod}
use Rattle.fm_read_limits.specs.inner.FloatingTypes.{AreMarks, has_floating, mark_of}
use Rattle.fm_read_limits.proofs.FloatingLemmas.{floating_method}

-- no index is marked at first
pub no_marks : (n : ℕ) → AreMarks [] (replicate n false)
no_marks zero k = refl
no_marks (suc n) zero = refl
no_marks (suc n) (suc k) = no_marks n k

-- one more entry changes what is at its own index alone
elsewhere : (entries : List Entry) (i k : ℕ) → k ≢ i → entry_at (take i entries) k ≡ entry_at (take (suc i) entries) k
elsewhere [] zero k other = refl
elsewhere [] (suc i) k other = refl
elsewhere (e ∷ entries) zero zero other = absurd (other refl)
elsewhere (e ∷ entries) zero (suc k) other = refl
elsewhere (e ∷ entries) (suc i) zero other = refl
elsewhere (e ∷ entries) (suc i) (suc k) other = elsewhere entries i k (λ same. other (ap suc same))

-- and is marked there
pub next_mark : (entries : List Entry) (marks : List Bool) (i : ℕ) (e : Entry) (mark : Bool) → i < length entries → i < length marks → e ≡ get_or entries i e → mark ≡ mark_of e
    → AreMarks (take i entries) marks → AreMarks (take (i + 1) entries) (set marks i mark)
next_mark entries marks i e mark lt within is marked so_far k =
    elim (cases_eq k i) [
      | inl same ↦
          let here : get_or (set marks i mark) i false ≡ mark_of (get_or entries i entry.Second) = get_or-set_same marks i mark false within ∙ (marked ∙ ap mark_of (get_or_read entries i e lt is entry.Second)) in
          let there : get_or entries i entry.Second ≡ entry_at (take (i + 1) entries) i = sym (get_or-take (i + 1) entries i entry.Second (omega arith)) in
          rw same (here ∙ ap mark_of there)
      | inr other ↦ get_or-set_other marks i k mark false other ∙ (so_far k ∙ rw add-one (ap mark_of (elsewhere entries i k other)))
    ]

-- the mark of a text is what is asked of it
mark_tells : (e : Entry) (text : List ℕ) → utf8_at (e ∷ []) 0 ≡ Some text → mark_of e ≡ has_floating false text
mark_tells (entry.Utf8 name) text is = let same : name ≡ text = cc in ap (has_floating false) same
mark_tells e text is = absurd cc

not_marked : (b : Bool) (P : Type 0) → (IsTrue b ↔ P) → IsTrue (not b) ↔ (P → ⊥)
not_marked true P d = (λ t. absurd (false≢true t), λ no. absurd (no (d.0 refl)))
not_marked false P d = (λ t. λ p. false≢true (d.1 p), λ no. refl)

marked_text : (o : Option (List ℕ)) (mark : Bool) → ((text : List ℕ) → o ≡ Some text → mark ≡ has_floating false text) → IsSomeAnd o IsMethodText → IsTrue (not mark) ↔ IsSomeAnd o (λ d. IsFloatingMethod d → ⊥)
marked_text None mark tells is = absurd is
marked_text (Some text) mark tells is = not_marked mark (IsFloatingMethod text) (subst (λ (b : Bool). IsTrue b ↔ IsFloatingMethod text) (sym (tells text refl)) (floating_method text is))

-- a descriptor of a method that isn't marked has neither floats nor doubles
not_marked_is : (entries : List Entry) (marks : List Bool) (i : ℕ) → AreMarks entries marks → IsSomeAnd (utf8_at entries i) IsMethodText
    → IsTrue (not (get_or marks i false)) ↔ IsSomeAnd (utf8_at entries i) (λ d. IsFloatingMethod d → ⊥)
not_marked_is entries marks i marked is = marked_text (utf8_at entries i) (get_or marks i false) (λ text found. marked i ∙ mark_tells (entry_at entries i) text found) is

-- the descriptor of a method, by its mark
pub unmarked_descriptor : (entries : List Entry) (marks : List Bool) (m : Member) → AreMarks entries marks → DeclaresMethod entries m
    → IsTrue (not (get_or marks m.descriptor false)) ↔ IsSomeAnd (utf8_at entries m.descriptor) (λ d. IsFloatingMethod d → ⊥)
unmarked_descriptor entries marks m marked declared = not_marked_is entries marks m.descriptor marked declared
