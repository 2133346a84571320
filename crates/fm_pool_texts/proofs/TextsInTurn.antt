-- Texts that get their numbers one after the other, as a loop does.
use Rattle.std.proofs.Common.{◌≡◌, ◌↔◌, ℕ, zero, suc, ◌+◌, ◌<◌, ◌≤◌, ◌⊎◌, inl, inr, cond, List, [], ◌∷◌, ◌++◌, length, take, get_or, Bor, Option, Some, None, refl, sym, ap, subst, ◌∙◌, arith}
use Rattle.std.specs.Prelude.{slice_index}
use Rattle.std.specs.Ordering.{nat_cmp}
use Rattle.std.specs.Cmp.Lexicographic.{slice_cmp}
use Rattle.std.specs.BTreeMap.{BTreeMap, get_by}
use Rattle.std.proofs.lemmas.List.{take_more}
use Rattle.std.specs.Str.{bytes_eq}
use Rattle.std.proofs.lemmas.Slice.Eq.{bytes_eq-Decides}
use Rattle.fm_base.proofs.OptionFacts.{same_value}
use Rattle.fm_base.proofs.TestFacts.{same_or_other, bytes_eq-other}
use Rattle.fm_code.specs.ConstantPool.{utf8_at}
use Rattle.fm_code.specs.declared.constant_pool.Entry.{Entry}
use Rattle.fm_code.specs.declared.constant_pool.Entry.TheVariants as entry
use Rattle.fm_pool_texts.specs.TextNumbers.{NumbersTexts}
use Rattle.fm_pool_texts.specs.inner.Entries.{own_text}

-- the number that is known of a text, or 0 where there is none
abbrev pub IsNumbered : (List ℕ → Option ℕ) → Option (List ℕ) → ℕ → Type 0
IsNumbered known None number = number ≡ 0
IsNumbered known (Some text) number = known text ≡ Some number

abbrev pub AreNumbered : (List ℕ → Option ℕ) → List Entry → List ℕ → Type 0
AreNumbered known [] [] = Unit {0}
AreNumbered known [] (n ∷ numbers) = ⊥
AreNumbered known (e ∷ entries) [] = ⊥
AreNumbered known (e ∷ entries) (n ∷ numbers) = IsNumbered known (own_text e) n × AreNumbered known entries numbers

-- the numbers that are known are above 0 and not above the limit, and each is that of one text
pub record AreKnown (known : List ℕ → Option ℕ) (limit : ℕ) : Type 0 where
  pub above : (text : List ℕ) (n : ℕ) → known text ≡ Some n → 0 < n
  pub within : (text : List ℕ) (n : ℕ) → known text ≡ Some n → n ≤ limit
  pub one : (text other : List ℕ) (n : ℕ) → known text ≡ Some n → known other ≡ Some n → text ≡ other

pub record HasNumbers (known : List ℕ → Option ℕ) (entries : List Entry) (numbers : List ℕ) : Type 0 where
  pub so_far : AreKnown known (length numbers)
  pub numbered : AreNumbered known entries numbers

-- ---- one more entry

numbered_push : (known : List ℕ → Option ℕ) (entries : List Entry) (numbers : List ℕ) (e : Entry) (n : ℕ) → AreNumbered known entries numbers → IsNumbered known (own_text e) n → AreNumbered known (entries ++ e ∷ []) (numbers ++ n ∷ [])
numbered_push known [] [] e n h is = (is, tt)
numbered_push known [] (k ∷ numbers) e n h is = absurd h
numbered_push known (d ∷ entries) [] e n h is = absurd h
numbered_push known (d ∷ entries) (k ∷ numbers) e n h is = (h.0, numbered_push known entries numbers e n h.1 is)

wider : (known : List ℕ → Option ℕ) (limit more : ℕ) → limit ≤ more → AreKnown known limit → AreKnown known more
wider known limit more le h = record { above = h.above; within = λ text n e. let bound = h.within text n e in omega arith; one = h.one }

length_more : (numbers : List ℕ) (n : ℕ) → length (numbers ++ n ∷ []) ≡ length numbers + 1
length_more [] n = refl
length_more (k ∷ numbers) n = let rest = length_more numbers n in omega arith

-- an entry whose number is known, or no text
pub HasNumbers-known : (known : List ℕ → Option ℕ) (entries : List Entry) (numbers : List ℕ) (e : Entry) (n : ℕ) → HasNumbers known entries numbers → IsNumbered known (own_text e) n → HasNumbers known (entries ++ e ∷ []) (numbers ++ n ∷ [])
HasNumbers-known known entries numbers e n h is =
    let more : length numbers ≤ length (numbers ++ n ∷ []) = let l = length_more numbers n in omega arith in
    record { so_far = wider known (length numbers) (length (numbers ++ n ∷ [])) more h.so_far; numbered = numbered_push known entries numbers e n h.numbered is }

-- what is known with one more text
pub record Learns (text : List ℕ) (n : ℕ) (known more : List ℕ → Option ℕ) : Type 0 where
  pub unknown : known text ≡ None
  pub itself : more text ≡ Some n
  pub others : (other : List ℕ) → (text ≡ other → ⊥) → more other ≡ known other
  pub same : (other : List ℕ) → (text ≡ other) ⊎ (text ≡ other → ⊥)

numbered_still : (text : List ℕ) (n : ℕ) (known more : List ℕ → Option ℕ) (learns : Learns text n known more) (o : Option (List ℕ)) (k : ℕ) → IsNumbered known o k → IsNumbered more o k
numbered_still text n known more learns None k h = h
numbered_still text n known more learns (Some other) k h =
    elim (learns.same other) [
      | inl e ↦ absurd (let known_text : known text ≡ Some k = ap known e ∙ h in let none = learns.unknown in cc)
      | inr apart ↦ learns.others other apart ∙ h
    ]

all_numbered_still : (text : List ℕ) (n : ℕ) (known more : List ℕ → Option ℕ) (learns : Learns text n known more) (entries : List Entry) (numbers : List ℕ) → AreNumbered known entries numbers → AreNumbered more entries numbers
all_numbered_still text n known more learns [] [] h = tt
all_numbered_still text n known more learns [] (k ∷ numbers) h = absurd h
all_numbered_still text n known more learns (e ∷ entries) [] h = absurd h
all_numbered_still text n known more learns (e ∷ entries) (k ∷ numbers) h = (numbered_still text n known more learns (own_text e) k h.0, all_numbered_still text n known more learns entries numbers h.1)

-- what is known of a text is that it is the new one, or what was known before
known_before : (text : List ℕ) (n : ℕ) (known more : List ℕ → Option ℕ) (learns : Learns text n known more) (other : List ℕ) (k : ℕ) → more other ≡ Some k → ((text ≡ other) × (n ≡ k)) ⊎ (known other ≡ Some k)
known_before text n known more learns other k h =
    elim (learns.same other) [
      | inl e ↦ inl (e, same_value (more text) n k learns.itself (ap more e ∙ h))
      | inr apart ↦ inr (sym (learns.others other apart) ∙ h)
    ]

learns_known : (text : List ℕ) (n : ℕ) (known more : List ℕ → Option ℕ) (limit : ℕ) → Learns text n known more → n ≡ limit + 1 → AreKnown known limit → AreKnown more (limit + 1)
learns_known text n known more limit learns fresh h =
    record {
      above = λ other k e. elim (known_before text n known more learns other k e) [ inl new ↦ omega (arith, new.1, fresh) | inr old ↦ h.above other k old ];
      within = λ other k e. elim (known_before text n known more learns other k e) [ inl new ↦ omega (arith, new.1, fresh) | inr old ↦ let bound = h.within other k old in omega arith ];
      one = λ one other k e f. elim (known_before text n known more learns one k e) [
        | inl new ↦ elim (known_before text n known more learns other k f) [
          | inl also ↦ sym new.0 ∙ also.0
          | inr old ↦ absurd (let bound = h.within other k old in omega (arith, new.1, fresh))
        ]
        | inr old ↦ elim (known_before text n known more learns other k f) [
          | inl new ↦ absurd (let bound = h.within one k old in omega (arith, new.1, fresh))
          | inr also ↦ h.one one other k old also
        ]
      ];
    }

-- an entry with a new text
pub HasNumbers-new : (known more : List ℕ → Option ℕ) (entries : List Entry) (numbers : List ℕ) (e : Entry) (text : List ℕ) → own_text e ≡ Some text → Learns text (length numbers + 1) known more → HasNumbers known entries numbers → HasNumbers more (entries ++ e ∷ []) (numbers ++ (length numbers + 1) ∷ [])
HasNumbers-new known more entries numbers e text is learns h =
    let fresh = length numbers + 1 in
    let numbered : IsNumbered more (own_text e) fresh = subst (λ (o : Option (List ℕ)). IsNumbered more o fresh) (sym is) learns.itself in
    record {
      so_far = subst (AreKnown more) (sym (length_more numbers fresh)) (learns_known text fresh known more (length numbers) learns refl h.so_far);
      numbered = numbered_push more entries numbers e fresh (all_numbered_still text fresh known more learns entries numbers h.numbered) numbered;
    }

-- ---- after the last entry

numbered_at : (known : List ℕ → Option ℕ) (entries : List Entry) (numbers : List ℕ) (i : ℕ) → AreNumbered known entries numbers → IsNumbered known (utf8_at entries i) (slice_index numbers i)
numbered_at known [] [] i h = refl
numbered_at known [] (n ∷ numbers) i h = absurd h
numbered_at known (e ∷ entries) [] i h = absurd h
numbered_at known (e ∷ entries) (n ∷ numbers) zero h = h.0
numbered_at known (e ∷ entries) (n ∷ numbers) (suc i) h = numbered_at known entries numbers i h.1

tells : (known : List ℕ → Option ℕ) (limit : ℕ) (o p : Option (List ℕ)) (m n : ℕ) → AreKnown known limit → IsNumbered known o m → IsNumbered known p n → (m ≡ n) ↔ (o ≡ p)
tells known limit None None m n h a b = (λ _. refl, λ _. a ∙ sym b)
tells known limit None (Some t) m n h a b = (λ e. absurd (let above = h.above t n b in omega (arith, a, e)), λ e. absurd cc)
tells known limit (Some t) None m n h a b = (λ e. absurd (let above = h.above t m a in omega (arith, b, e)), λ e. absurd cc)
tells known limit (Some t) (Some u) m n h a b = (
  λ e. ap (λ (x : List ℕ). Some x) (h.one t u n (subst (λ (k : ℕ). known t ≡ Some k) e a) b),
  λ e. let same : t ≡ u = cc in same_value (known t) m n a (ap known same ∙ b),
)

pub HasNumbers-all : (known : List ℕ → Option ℕ) (entries : List Entry) (numbers : List ℕ) → HasNumbers known entries numbers → NumbersTexts entries numbers
HasNumbers-all known entries numbers h = λ i j.
    tells known (length numbers) (utf8_at entries i) (utf8_at entries j) (slice_index numbers i) (slice_index numbers j) h.so_far (numbered_at known entries numbers i h.numbered) (numbered_at known entries numbers j h.numbered)

-- ---- a map from texts

pub Learns-from_update : (text : List ℕ) (n : ℕ) (known more : List ℕ → Option ℕ) → known text ≡ None → ((other : List ℕ) → more other ≡ cond (bytes_eq text other) (Some n) (known other)) → Learns text n known more
Learns-from_update text n known more none updates =
    record {
      unknown = none;
      itself = updates text ∙ rw ((bytes_eq-Decides text text).1 refl) refl;
      others = λ other apart. updates other ∙ rw (bytes_eq-other text other apart) refl;
      same = λ other. same_or_other text other;
    }

-- the number that a map has for a text
abbrev pub known_of : BTreeMap (Bor (List ℕ)) ℕ → List ℕ → Option ℕ
known_of m text = get_by (λ k. slice_cmp nat_cmp text k.now) m

-- the entry at hand with its number
pub HasNumbers-turn : (m map : BTreeMap (Bor (List ℕ)) ℕ) (entries : List Entry) (i : ℕ) (e : Entry) (numbers pushed : List ℕ) (n k : ℕ) → i < length entries → e ≡ get_or entries i e → map ≡ m → k ≡ n → pushed ≡ numbers ++ k ∷ []
    → HasNumbers (known_of m) (take i entries ++ e ∷ []) (numbers ++ n ∷ []) → HasNumbers (known_of map) (take (i + 1) entries) pushed
HasNumbers-turn m map entries i e numbers pushed n k lt is map_is k_is pushed_is h =
    let front : take (i + 1) entries ≡ take i entries ++ e ∷ [] = take_more entries i e lt ∙ ap (λ (x : Entry). take i entries ++ x ∷ []) (sym is) in
    let back : pushed ≡ numbers ++ n ∷ [] = pushed_is ∙ ap (λ (x : ℕ). numbers ++ x ∷ []) k_is in
    subst (λ (v : BTreeMap (Bor (List ℕ)) ℕ). HasNumbers (known_of v) (take (i + 1) entries) pushed) (sym map_is)
    (subst (λ (es : List Entry). HasNumbers (known_of m) es pushed) (sym front) (subst (λ (ns : List ℕ). HasNumbers (known_of m) (take i entries ++ e ∷ []) ns) (sym back) h))

pub no_text : (e : Entry) → ((text : List ℕ) → e ≡ entry.Utf8 text → ⊥) → own_text e ≡ None
no_text (entry.Utf8 text) not_text = absurd (not_text text refl)
no_text (entry.Class n) not_text = refl
no_text (entry.Integer n) not_text = refl
no_text (entry.Float n) not_text = refl
no_text (entry.Long n) not_text = refl
no_text (entry.Double n) not_text = refl
no_text (entry.Text n) not_text = refl
no_text (entry.Field n m) not_text = refl
no_text (entry.Method n m) not_text = refl
no_text (entry.InterfaceMethod n m) not_text = refl
no_text (entry.NameAndType n m) not_text = refl
no_text (entry.MethodHandle n m) not_text = refl
no_text (entry.MethodType n) not_text = refl
no_text (entry.InvokeDynamic n m) not_text = refl
no_text entry.Second not_text = refl
