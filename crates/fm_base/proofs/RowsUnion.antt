-- The words of two rows, joined one by one.
use Rattle.std.proofs.Common.{◌≡◌, ◌≢◌, ℕ, ◌+◌, ◌<◌, ◌≤◌, ◌^◌, List, get_or, set, bit_or, Bool, true, false, MatchBool, IsTrue, ◌↔◌, length, ap, sym, refl, ◌∙◌, subst, arith, ⊎_elim, length-set}
use Rattle.std.proofs.lemmas.Bool.{cases_lt, cases_eq, false≢true}
use Rattle.std.proofs.lemmas.List.{ext_get_or, get_or_past, get_or-set_same, get_or-set_other}
use Rattle.std.specs.Bool.{OnFalse}
use Rattle.fm_base.specs.Rows.{AddsBit}
use Rattle.fm_base.specs.inner.Rows.{bits_of, IsRow, GainsBit}
use Rattle.fm_base.proofs.RowsLemmas.{JoinsWords, GainsBit-changed, AddsBit-GainsBit, no-AddsBit}

-- whether one of the words below i has changed
abbrev pub Changed : List ℕ → List ℕ → ℕ → Bool → Type 0
Changed initial words i grown =
    MatchBool grown ((k : ℕ) × ((k < i) × (get_or words k 0 ≢ get_or initial k 0))) ((k : ℕ) → k < i → get_or words k 0 ≡ get_or initial k 0)

-- the words below i are joined, those from i on as they were
pub record Joining (initial other words : List ℕ) (grown : Bool) (i : ℕ) : Type 0 where
  pub same_length : length words ≡ length initial
  pub initial_fits : (k : ℕ) → get_or initial k 0 < 2 ^ 64
  pub other_fits : (k : ℕ) → get_or other k 0 < 2 ^ 64
  pub joined : (k : ℕ) → k < i → get_or words k 0 ≡ bit_or (get_or initial k 0) (get_or other k 0)
  pub ahead : (k : ℕ) → i ≤ k → get_or words k 0 ≡ get_or initial k 0
  pub changed : Changed initial words i grown

-- one word more is joined
pub Joining_more : (initial other words : List ℕ) (grown after : Bool) (i : ℕ) → Joining initial other words grown i → i < length words →
    (word : ℕ) → word ≡ bit_or (get_or words i 0) (get_or other i 0) → Changed initial (set words i word) (i + 1) after →
    Joining initial other (set words i word) after (i + 1)
Joining_more initial other words grown after i so_far inside word is_joined changed = record {
  same_length = length-set words i word ∙ so_far.same_length;
  initial_fits = so_far.initial_fits;
  other_fits = so_far.other_fits;
  joined = λ k below.
      ⊎_elim
      (λ (same : k ≡ i).
      ap (λ n. get_or (set words i word) n 0) same ∙ get_or-set_same words i word 0 inside ∙ is_joined
      ∙ ap (λ n. bit_or n (get_or other i 0)) (so_far.ahead i (omega arith))
      ∙ ap (λ n. bit_or (get_or initial n 0) (get_or other n 0)) (sym same))
      (λ (apart : k ≢ i). get_or-set_other words i k word 0 apart ∙ so_far.joined k (omega arith))
      (cases_eq k i);
  ahead = λ k past. get_or-set_other words i k word 0 (λ same. absurd (omega arith)) ∙ so_far.ahead k (omega arith);
  changed = changed;
}

-- the word at i has changed
pub Changed_here : (initial other words : List ℕ) (grown : Bool) (i word : ℕ) → Joining initial other words grown i → i < length words →
    word ≢ get_or words i 0 → Changed initial (set words i word) (i + 1) true
Changed_here initial other words grown i word so_far inside changed =
    (i, (omega arith, λ e. changed (sym (get_or-set_same words i word 0 inside) ∙ e ∙ sym (so_far.ahead i (omega arith)))))

-- the word at i hasn't changed
pub Changed_before : (initial other words : List ℕ) (grown : Bool) (i word : ℕ) → Joining initial other words grown i → i < length words →
    word ≡ get_or words i 0 → Changed initial (set words i word) (i + 1) grown
Changed_before initial other words true i word so_far inside unchanged =
    let found = so_far.changed in
    let below = found.1.0 in
    let apart : found.0 ≢ i = omega arith in
    (found.0, (omega arith, λ e. found.1.1 (sym (get_or-set_other words i found.0 word 0 apart) ∙ e)))
Changed_before initial other words false i word so_far inside unchanged = λ k below.
    ⊎_elim
    (λ (same : k ≡ i).
    ap (λ n. get_or (set words i word) n 0) same ∙ get_or-set_same words i word 0 inside ∙ unchanged ∙ so_far.ahead i (omega arith)
    ∙ ap (λ n. get_or initial n 0) (sym same))
    (λ (apart : k ≢ i). get_or-set_other words i k word 0 apart ∙ so_far.changed k (omega arith))
    (cases_eq k i)

pub JoinsWords_all : (initial other words : List ℕ) (grown : Bool) (i : ℕ) → Joining initial other words grown i → length words ≤ i → length initial ≡ length other →
    JoinsWords initial other words
JoinsWords_all initial other words grown i so_far all same k =
    let length_kept = so_far.same_length in
    ⊎_elim (λ (below : k < length words). so_far.joined k (omega arith))
    (λ (past : length words ≤ k).
    get_or_past words k 0 past
    ∙ sym (ap (λ n. bit_or n (get_or other k 0)) (get_or_past initial k 0 (omega arith)) ∙ ap (bit_or 0) (get_or_past other k 0 (omega arith))))
    (cases_lt k (length words))

pub Changed_all : (initial other words : List ℕ) (grown : Bool) (i : ℕ) → Joining initial other words grown i → length words ≤ i → length initial ≡ length other →
    MatchBool grown (GainsBit initial words) (words ≡ initial)
Changed_all initial other words true i so_far all same =
    let found = so_far.changed in
    GainsBit-changed initial other words (JoinsWords_all initial other words true i so_far all same) so_far.initial_fits so_far.other_fits found.0 found.1.1
Changed_all initial other words false i so_far all same =
    ext_get_or 0 words initial so_far.same_length (λ k below. so_far.changed k (omega arith))

-- whether the row gains a bit is read off the words
pub AddsBit_iff : (old new : List ℕ) (bits : ℕ) (grown : Bool) → IsRow old bits → IsRow new bits → MatchBool grown (GainsBit old new) (new ≡ old) →
    IsTrue grown ↔ AddsBit (bits_of old bits) (bits_of new bits)
AddsBit_iff old new bits true first third changed = (λ _. AddsBit-GainsBit old new bits first third changed, λ _. refl)
AddsBit_iff old new bits false first third changed =
    (λ h. absurd (false≢true h), λ adds. absurd (no-AddsBit (bits_of old bits) (let P : List Bool → Type 0 = λ row. AddsBit (bits_of old bits) row in subst P (ap (λ words. bits_of words bits) changed) adds)))

pub unchanged_row : (old new : List ℕ) (bits : ℕ) (grown : Bool) → MatchBool grown (GainsBit old new) (new ≡ old) → OnFalse grown (bits_of new bits ≡ bits_of old bits)
unchanged_row old new bits true changed = tt
unchanged_row old new bits false changed = ap (λ words. bits_of words bits) changed
