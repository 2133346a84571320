-- Whether new items keep the old ones, by a walk over both.
use Rattle.std.proofs.Common.{Bool, false, ◌≡◌, ◌≢◌, sym, subst, ℕ, suc, ◌+◌, ◌-◌, ◌<◌, ◌≤◌, ◌↔◌, List, [], ◌∷◌, length, drop, get_or, drop_of_length-le, arith}
use Rattle.std.specs.Prelude.{Decides, slice_index}
use Rattle.fm_base.proofs.ListFacts.{drop_here}
use Rattle.fm_code.specs.SpellsCode.{with_targets}
use Rattle.fm_code.specs.declared.code_array.Item.{Item}
use Rattle.fm_code.specs.declared.instructions.Insn.{Insn}
use Rattle.fm_audit.specs.Reading.{after_frees, after_nulls, after_taken, is_widened, kept_count, taken}
use Rattle.fm_audit.specs.SafeParts.{anchors_read, AreKept, AreKeptFrom, IsKept, IsKeptAs}
use Rattle.fm_audit.specs.inner.Kept.{AreThere}

-- there are items that keep an old one
kept_there : (anchors : List ℕ) (number : ℕ) (item : Item) (items : List Item) → IsKept anchors number item items → length items ≢ 0
kept_there anchors number item [] kept = absurd kept
kept_there anchors number item (a ∷ items) kept = λ none. let n : suc (length items) ≡ 0 = none in omega (arith, n)

module _ (free first : ℕ) where
  -- what follows the items that keep an old one
  abbrev pub following : Item → List Item → List Item
  following item new =
      let here = after_frees free first new in
      let next = drop (kept_count item here) here in
      after_taken (taken first next) next

  pub there_if : (anchors : List ℕ) (total : ℕ) (old new : List Item) → AreKeptFrom free first anchors total old new → AreThere free first old new
  there_if anchors total [] new kept = tt
  there_if anchors total (item ∷ old) new kept = (
    kept_there anchors (total - length (after_frees free first new)) item (after_frees free first new) kept.0,
    there_if anchors total old (following item new) kept.1,
  )

  module _ (anchors : List ℕ) (old new : List Item) where
    abbrev All : Type 0
    All = AreKeptFrom free first anchors (length new) old (after_nulls first new)

    module _ (i : ℕ) (item : Item) (rest : List Item) (within : i < length old) (is : item ≡ get_or old i item)
        (so_far : All ↔ AreKeptFrom free first anchors (length new) (drop i old) rest) where
      abbrev Here : Type 0
      Here = IsKept anchors (length new - length (after_frees free first rest)) item (after_frees free first rest)

      -- one more is kept
      pub kept_more : Here → All ↔ AreKeptFrom free first anchors (length new) (drop (i + 1) old) (following item rest)
      kept_more here = (
        λ all. (subst (λ (l : List Item). AreKeptFrom free first anchors (length new) l rest) (drop_here old i item within is) (so_far.0 all)).1,
        λ later. so_far.1 (subst (λ (l : List Item). AreKeptFrom free first anchors (length new) l rest) (sym (drop_here old i item within is)) (here, later)),
      )

      -- one isn't
      pub kept_stops : (Here → ⊥) → All → ⊥
      kept_stops never all =
          never (subst (λ (l : List Item). AreKeptFrom free first anchors (length new) l rest) (drop_here old i item within is) (so_far.0 all)).0

    -- none is left
    pub kept_end : (i : ℕ) (rest : List Item) → length old ≤ i → All ↔ AreKeptFrom free first anchors (length new) (drop i old) rest → All
    kept_end i rest past so_far =
        so_far.1 (subst (λ (l : List Item). AreKeptFrom free first anchors (length new) l rest) (sym (drop_of_length-le old past)) tt)

    -- with the anchors as they are read
    pub read_kept : (AreThere free first old (after_nulls first new) → anchors ≡ anchors_read free first old new) → All → AreKept free first old new
    read_kept read all =
        subst (λ (l : List ℕ). AreKeptFrom free first l (length new) old (after_nulls first new))
        (read (there_if anchors (length new) old (after_nulls first new) all)) all

    pub kept_read : (AreThere free first old (after_nulls first new) → anchors ≡ anchors_read free first old new) → AreKept free first old new → All
    kept_read read kept =
        subst (λ (l : List ℕ). AreKeptFrom free first l (length new) old (after_nulls first new))
        (sym (read (there_if (anchors_read free first old new) (length new) old (after_nulls first new) kept))) kept

-- ---- one item

-- the first of the items has the instruction that is meant, where its branch isn't widened
pub kept_by : (anchors : List ℕ) (number : ℕ) (item : Item) (items : List Item) (a : Item) (meant : Insn) (r : Bool) → 0 < length items → a ≡ get_or items 0 a
    → is_widened item items ≡ false → meant ≡ with_targets (slice_index anchors) item.insn → Decides r (a.insn ≡ meant)
    → Decides r (IsKept anchors number item items)
kept_by anchors number item [] a meant r some is same meant_is decides = absurd (omega (arith, some))
kept_by anchors number item (b ∷ items) a meant r some is same meant_is decides =
    subst (λ (w : Bool). Decides r (IsKeptAs w number (with_targets (slice_index anchors) item.insn) (b ∷ items))) (sym same)
    (subst (λ (q : Item × Insn). Decides r (q.0.insn ≡ q.1)) (λ k. (is k, meant_is k)) decides)
