-- Keys that go into a set one after the other, as a loop does.
use Rattle.std.proofs.Common.{◌≡◌, ◌↔◌, ℕ, suc, Bool, true, false, cond, inl, inr, List, [], ◌∷◌, ◌+◌, ◌<◌, length, get_or, drop, drop-cons, add-one, refl, sym, ap, ◌∙◌}
use Rattle.std.specs.Prelude.{slice_index}
use Rattle.std.specs.List.{AllByRecursion}
use Rattle.std.proofs.lemmas.Bool.{false≢true, cases_Bool}
use Rattle.std.specs.Ordering.{nat_cmp, is_eq}
use Rattle.std.specs.Cmp.{Equal-is}
use Rattle.std.specs.BTreeSet.{BTreeSet, Updates, contains}
use Rattle.std.proofs.lemmas.Map.Lookups.{exact_pairs, exact_unsigned}
use Rattle.fm_code.specs.Members.{AreDifferent, AreDistinct}
use Rattle.fm_code.specs.declared.constant_pool.Entry.{Entry}
use Rattle.fm_code.specs.declared.class_file.Member.{Member}
use Rattle.fm_pool_texts.specs.inner.Entries.{key_of, pair_order}
use Rattle.fm_pool_texts.specs.TextNumbers.{NumbersTexts, AreKeysDifferent, AreKeysDistinct}

-- the members that are left have none of the keys that were seen
abbrev pub AreUnseen : List ℕ → (ℕ × ℕ → Bool) → List Member → Type 0
AreUnseen numbers seen members = AllByRecursion (λ m. seen (key_of numbers m) ≡ false) members

-- all members are distinct exactly where those that are left are, with none of the keys that were seen
pub record HasSeen (numbers : List ℕ) (members rest : List Member) (seen : ℕ × ℕ → Bool) : Type 0 where
  pub left : AreKeysDistinct numbers members → AreKeysDistinct numbers rest × AreUnseen numbers seen rest
  pub whole : AreKeysDistinct numbers rest → AreUnseen numbers seen rest → AreKeysDistinct numbers members

-- the set with one more key
pub record Adds (key : ℕ × ℕ) (seen more : ℕ × ℕ → Bool) : Type 0 where
  pub itself : more key ≡ true
  pub others : (q : ℕ × ℕ) → (key ≡ q → ⊥) → more q ≡ seen q
  pub grows : (q : ℕ × ℕ) → more q ≡ false → seen q ≡ false

still_unseen : (numbers : List ℕ) (m : Member) (rest : List Member) (seen more : ℕ × ℕ → Bool) → Adds (key_of numbers m) seen more → AllByRecursion (AreKeysDifferent numbers m) rest → AreUnseen numbers seen rest → AreUnseen numbers more rest
still_unseen numbers m [] seen more adds different unseen = tt
still_unseen numbers m (n ∷ rest) seen more adds different unseen =
    let apart : key_of numbers m ≡ key_of numbers n → ⊥ = λ e. different.0 (ap (λ (k : ℕ × ℕ). k.0) e, ap (λ (k : ℕ × ℕ). k.1) e) in
    (adds.others (key_of numbers n) apart ∙ unseen.0, still_unseen numbers m rest seen more adds different.1 unseen.1)

-- what isn't in the set with one more key differs from that key
apart_from : (numbers : List ℕ) (m n : Member) (more : ℕ × ℕ → Bool) → more (key_of numbers m) ≡ true → more (key_of numbers n) ≡ false → AreKeysDifferent numbers m n
apart_from numbers m n more itself unseen both =
    let same : key_of numbers m ≡ key_of numbers n = cc in
    false≢true (sym unseen ∙ ap more (sym same) ∙ itself)

all_apart : (numbers : List ℕ) (m : Member) (rest : List Member) (seen more : ℕ × ℕ → Bool) → Adds (key_of numbers m) seen more → AreUnseen numbers more rest → AllByRecursion (AreKeysDifferent numbers m) rest × AreUnseen numbers seen rest
all_apart numbers m [] seen more adds unseen = (tt, tt)
all_apart numbers m (n ∷ rest) seen more adds unseen =
    let others = all_apart numbers m rest seen more adds unseen.1 in
    ((apart_from numbers m n more adds.itself unseen.0, others.0), (adds.grows (key_of numbers n) unseen.0, others.1))

pub HasSeen-more : (numbers : List ℕ) (members : List Member) (m : Member) (rest : List Member) (seen more : ℕ × ℕ → Bool) → seen (key_of numbers m) ≡ false → Adds (key_of numbers m) seen more → HasSeen numbers members (m ∷ rest) seen → HasSeen numbers members rest more
HasSeen-more numbers members m rest seen more fresh adds h =
    record {
      left = λ all. let l = h.left all in (l.0.1, still_unseen numbers m rest seen more adds l.0.0 l.1.1);
      whole = λ distinct unseen. let a = all_apart numbers m rest seen more adds unseen in h.whole (a.0, distinct) (fresh, a.1);
    }

-- ---- a set of pairs

pair_is : (x y : ℕ × ℕ) → is_eq (pair_order x y) ≡ true → x ≡ y
pair_is x y e = exact_pairs nat_cmp nat_cmp exact_unsigned exact_unsigned x y ((Equal-is (pair_order x y)).0 e)

apart_test : (x y : ℕ × ℕ) → (x ≡ y → ⊥) → is_eq (pair_order x y) ≡ false
apart_test x y apart = elim (cases_Bool (is_eq (pair_order x y))) [ inl same ↦ absurd (apart (pair_is x y same)) | inr no_more ↦ no_more ]

false_before : (b x y : Bool) → y ≡ cond b true x → y ≡ false → x ≡ false
false_before true x y e f = absurd (false≢true (sym f ∙ e))
false_before false x y e f = sym e ∙ f

pub Adds-from_insert : (key : ℕ × ℕ) (s n : BTreeSet (ℕ × ℕ)) → Updates pair_order s n key true → Adds key (contains pair_order s) (contains pair_order n)
Adds-from_insert key s n h =
    record {
      itself = h.1;
      others = λ q apart. h.0 q ∙ rw (apart_test key q apart) refl;
      grows = λ q fresh. false_before (is_eq (pair_order key q)) (contains pair_order s q) (contains pair_order n q) (h.0 q) fresh;
    }

-- ---- keys and texts

different_texts : (entries : List Entry) (numbers : List ℕ) → NumbersTexts entries numbers → (m n : Member) → AreKeysDifferent numbers m n ↔ AreDifferent entries m n
different_texts entries numbers tells m n =
    (λ apart both. apart ((tells m.name n.name).1 both.0, (tells m.descriptor n.descriptor).1 both.1), λ apart both. apart ((tells m.name n.name).0 both.0, (tells m.descriptor n.descriptor).0 both.1))

all_different : (entries : List Entry) (numbers : List ℕ) → NumbersTexts entries numbers → (m : Member) (members : List Member) → AllByRecursion (AreKeysDifferent numbers m) members ↔ AllByRecursion (AreDifferent entries m) members
all_different entries numbers tells m [] = (λ h. tt, λ h. tt)
all_different entries numbers tells m (n ∷ members) =
    let first = different_texts entries numbers tells m n in
    let others = all_different entries numbers tells m members in
    (λ h. (first.0 h.0, others.0 h.1), λ h. (first.1 h.0, others.1 h.1))

-- members are distinct by the numbers of their texts exactly where they are by their texts
pub distinct_by_texts : (entries : List Entry) (numbers : List ℕ) → NumbersTexts entries numbers → (members : List Member) → AreKeysDistinct numbers members ↔ AreDistinct entries members
distinct_by_texts entries numbers tells [] = (λ h. tt, λ h. tt)
distinct_by_texts entries numbers tells (m ∷ members) =
    let first = all_different entries numbers tells m members in
    let others = distinct_by_texts entries numbers tells members in
    (λ h. (first.0 h.0, others.0 h.1), λ h. (first.1 h.0, others.1 h.1))

-- ---- the member at hand

pub turn : (members : List Member) (i : ℕ) (m : Member) → i < length members → m ≡ get_or members i m → drop i members ≡ m ∷ drop (i + 1) members
turn members i m lt is = drop-cons members i m lt ∙ (ap (λ (x : Member). x ∷ drop (suc i) members) (sym is) ∙ ap (λ (k : ℕ). m ∷ drop k members) (sym (add-one i)))

pub key_is : (numbers : List ℕ) (m : Member) (a b : ℕ) → a ≡ slice_index numbers m.name → b ≡ slice_index numbers m.descriptor → (a, b) ≡ key_of numbers m
key_is numbers m a b first second = cc
