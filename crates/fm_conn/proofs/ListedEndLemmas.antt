-- Ends that are listed with numbers, their nodes at a call, the first node of a number, and the pairs of linked ends.
use Rattle.std.proofs.Common.{◌≡◌, ℕ, Bool, true, false, cond, eqb, List, [], ◌∷◌, Option, Some, None, Contains, refl, ap, sym, ◌∙◌, ◌⊎◌, subst, inl, inr, ⊎_elim, eq-eqb, eqb-true}
use Rattle.std.proofs.lemmas.Bool.{false≢true}
use Rattle.fm_base.proofs.ContainsFacts.{Contains-cons_cases, Contains-flat_map, Contains-none}
use Rattle.fm_code.proofs.EdgesLemmas.{Contains-later}
use Rattle.fm_conn.specs.Summaries.{end_number, links, same_number}
use Rattle.fm_conn.specs.declared.ends.End2.{End2}
use Rattle.fm_flow.proofs.SourcesLemmas.{Contains-from_flat_map}
use Rattle.fm_conn.proofs.ListLemmas.{Contains-first, Contains-one}
use Rattle.fm_conn.specs.inner.ListedEnds.{first_with, link_pairs, numbered, pair_unless_same, with_number}

-- ---- numbers of ends

pub same_number-is : (a b : Option ℕ) → same_number a b ≡ true → (n : ℕ) × (a ≡ Some n) × (b ≡ Some n)
same_number-is (Some m) (Some n) same = (m, refl, ap Some (sym (eqb-true m n same)))
same_number-is (Some m) None same = absurd (false≢true same)
same_number-is None b same = absurd (false≢true same)

pub links-is : (entries : List (End2 × ℕ)) (a b : End2) → links entries a b ≡ true →
    (n : ℕ) × (end_number entries a ≡ Some n) × (end_number entries b ≡ Some n)
links-is entries a b linked = same_number-is (end_number entries a) (end_number entries b) linked

pub links-from : (entries : List (End2 × ℕ)) (a b : End2) (n : ℕ) → end_number entries a ≡ Some n → end_number entries b ≡ Some n →
    links entries a b ≡ true
links-from entries a b n first second = (λ k. same_number (first k) (second k)) ∙ eq-eqb n n refl

-- ---- the nodes of ends

with_number-has : (o : Option ℕ) (x m n : ℕ) → Contains (with_number o x) (m, n) → (o ≡ Some m) × (n ≡ x)
with_number-has None x m n found = absurd (Contains-none (m, n) found)
with_number-has (Some k) x m n found =
    let same : (m, n) ≡ (k, x) = Contains-one (k, x) (m, n) found in
    (ap (λ (v : ℕ × ℕ). Some v.0) (sym same), ap (λ (v : ℕ × ℕ). v.1) same)

with_number-from : (o : Option ℕ) (x m : ℕ) → o ≡ Some m → Contains (with_number o x) (m, x)
with_number-from o x m some = subst (λ v. Contains (with_number v x) (m, x)) (sym some) (Contains-first (m, x) [])

pub record StandsIn (entries ends : List (End2 × ℕ)) (m n : ℕ) : Type 0 where
  pub end : End2
  pub listed : Contains ends (end, n)
  pub number : end_number entries end ≡ Some m

pub numbered-of : (entries ends : List (End2 × ℕ)) (m n : ℕ) → Contains (numbered entries ends) (m, n) → StandsIn entries ends m n
numbered-of entries ends m n found =
    let piece = Contains-from_flat_map (λ (e : End2 × ℕ). with_number (end_number entries e.0) e.1) ends (m, n) found in
    let entry = piece.0 in
    let is = with_number-has (end_number entries entry.0) entry.1 m n piece.2 in
    record { end = entry.0; listed = subst (λ k. Contains ends (entry.0, k)) (sym is.1) piece.1; number = is.0 }

pub numbered-from : (entries ends : List (End2 × ℕ)) (e : End2) (m n : ℕ) → Contains ends (e, n) → end_number entries e ≡ Some m →
    Contains (numbered entries ends) (m, n)
numbered-from entries ends e m n listed number =
    Contains-flat_map (λ (x : End2 × ℕ). with_number (end_number entries x.0) x.1) ends (e, n) (m, n) listed
    (with_number-from (end_number entries e) n m number)

-- ---- the first of a number

pub first_with-there : (all : List (ℕ × ℕ)) (m n otherwise : ℕ) → Contains all (m, n) → Contains all (m, first_with all m otherwise)
first_with-there [] m n otherwise found = absurd (Contains-none (m, n) found)
first_with-there (x ∷ xs) m n otherwise found =
    (elim (eqb x.0 m) as (λ b. eqb x.0 m ≡ b → Contains (x ∷ xs) (m, cond b x.1 (first_with xs m otherwise))) [
      | true ↦ (λ is. let same : x.0 ≡ m = eqb-true x.0 m is in subst (λ k. Contains (x ∷ xs) (k, x.1)) same (Contains-first x xs))
      | false ↦ (λ is.
          ⊎_elim
          (λ (same : (m, n) ≡ x). absurd (false≢true (sym is ∙ eq-eqb x.0 m (ap (λ (v : ℕ × ℕ). v.0) (sym same)))))
          (λ later. Contains-later x xs (m, first_with xs m otherwise) (first_with-there xs m n otherwise later))
          (Contains-cons_cases x xs (m, n) found))
    ]) refl

pub first_with-one : (all : List (ℕ × ℕ)) (m n one other : ℕ) → Contains all (m, n) → first_with all m one ≡ first_with all m other
first_with-one [] m n one other found = absurd (Contains-none (m, n) found)
first_with-one (x ∷ xs) m n one other found =
    (elim (eqb x.0 m) as (λ b. eqb x.0 m ≡ b → cond b x.1 (first_with xs m one) ≡ cond b x.1 (first_with xs m other)) [
      | true ↦ (λ is. refl)
      | false ↦ (λ is.
          ⊎_elim
          (λ (same : (m, n) ≡ x). absurd (false≢true (sym is ∙ eq-eqb x.0 m (ap (λ (v : ℕ × ℕ). v.0) (sym same)))))
          (λ later. first_with-one xs m n one other later)
          (Contains-cons_cases x xs (m, n) found))
    ]) refl

-- ---- pairs of linked ends

abbrev pairs_by : Bool → ℕ → ℕ → List (ℕ × ℕ)
pairs_by b x first = cond b [] ((x, first) ∷ [])

pair_has : (x first m n : ℕ) → Contains (pair_unless_same x first) (m, n) → (m ≡ x) × (n ≡ first)
pair_has x first m n found =
    (elim (eqb x first) as (λ b. Contains (pairs_by b x first) (m, n) → (m ≡ x) × (n ≡ first)) [
      | true ↦ (λ none. absurd (Contains-none (m, n) none))
      | false ↦ (λ one.
          let same : (m, n) ≡ (x, first) = Contains-one (x, first) (m, n) one in
          (ap (λ (v : ℕ × ℕ). v.0) same, ap (λ (v : ℕ × ℕ). v.1) same))
    ]) found

pair_or_same : (x first : ℕ) → (x ≡ first) ⊎ Contains (pair_unless_same x first) (x, first)
pair_or_same x first =
    (elim (eqb x first) as (λ b. eqb x first ≡ b → (x ≡ first) ⊎ Contains (pairs_by b x first) (x, first)) [
      | true ↦ (λ is. inl (eqb-true x first is))
      | false ↦ (λ is. inr (Contains-first (x, first) []))
    ]) refl

-- two ends that the callee links, with their nodes
pub record LinkedEnds (entries ends : List (End2 × ℕ)) (m n : ℕ) : Type 0 where
  pub one : End2
  pub other : End2
  pub first : Contains ends (one, m)
  pub second : Contains ends (other, n)
  pub linked : links entries one other ≡ true

pub linked_ends : (entries ends : List (End2 × ℕ)) (m n : ℕ) → Contains (link_pairs ends entries) (m, n) → LinkedEnds entries ends m n
linked_ends entries ends m n found =
    let all = numbered entries ends in
    let piece = Contains-from_flat_map (λ (x : ℕ × ℕ). pair_unless_same x.1 (first_with all x.0 x.1)) all (m, n) found in
    let x = piece.0 in
    let is = pair_has x.1 (first_with all x.0 x.1) m n piece.2 in
    let one = numbered-of entries ends x.0 x.1 piece.1 in
    let other = numbered-of entries ends x.0 (first_with all x.0 x.1) (first_with-there all x.0 x.1 x.1 piece.1) in
    record {
      one = one.end;
      other = other.end;
      first = subst (λ k. Contains ends (one.end, k)) (sym is.0) one.listed;
      second = subst (λ k. Contains ends (other.end, k)) (sym is.1) other.listed;
      linked = links-from entries one.end other.end x.0 one.number other.number;
    }

-- each of two linked ends has the first one's node or is paired with it
pub record LinkedFirst (entries ends : List (End2 × ℕ)) (m n : ℕ) : Type 0 where
  pub first : ℕ
  pub one : (m ≡ first) ⊎ Contains (link_pairs ends entries) (m, first)
  pub other : (n ≡ first) ⊎ Contains (link_pairs ends entries) (n, first)

first_or_paired : (entries ends : List (End2 × ℕ)) (k x : ℕ) → Contains (numbered entries ends) (k, x) →
    (x ≡ first_with (numbered entries ends) k x) ⊎ Contains (link_pairs ends entries) (x, first_with (numbered entries ends) k x)
first_or_paired entries ends k x there =
    let all = numbered entries ends in
    ⊎_elim (λ (is : x ≡ first_with all k x). inl is)
    (λ pair. inr (Contains-flat_map (λ (y : ℕ × ℕ). pair_unless_same y.1 (first_with all y.0 y.1)) all (k, x) (x, first_with all k x) there pair))
    (pair_or_same x (first_with all k x))

pub linked_first : (entries ends : List (End2 × ℕ)) (e f : End2) (m n : ℕ) → Contains ends (e, m) → Contains ends (f, n) → links entries e f ≡ true →
    LinkedFirst entries ends m n
linked_first entries ends e f m n one other linked =
    let all = numbered entries ends in
    let number = links-is entries e f linked in
    let k = number.0 in
    let first = numbered-from entries ends e k m one number.1 in
    let second = numbered-from entries ends f k n other number.2 in
    record {
      first = first_with all k m;
      one = first_or_paired entries ends k m first;
      other = subst (λ v. (n ≡ v) ⊎ Contains (link_pairs ends entries) (n, v)) (first_with-one all k n n m second) (first_or_paired entries ends k n second);
    }
