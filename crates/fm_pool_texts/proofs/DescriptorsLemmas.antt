-- Names, and descriptors of fields.
use Rattle.std.proofs.Common.{◌≡◌, ◌↔◌, ℕ, zero, suc, ◌+◌, ◌≤◌, ◌<◌, Bool, true, false, not, eqb, replicate, List, [], ◌∷◌, ◌++◌, length, take, drop, length-append, length-drop, append_assoc, get_or, ◌-◌, IsTrue, refl, sym, ap, subst, ◌∙◌, arith, inl, inr}
use Rattle.std.proofs.Math.Numerals.{one-add}
use Rattle.std.specs.List.{prefix_len, list_all}
use Rattle.std.proofs.lemmas.Bool.{and_parts, cases_Bool, both_ways, eqb-true}
use Rattle.std.proofs.lemmas.List.{take_at, drop_at, length-replicate, take-append-drop, append-nil, take_all, nil_from_length, get_or-drop}
use Rattle.std.proofs.lemmas.List.Sums.{prefix_len_stops}
use Rattle.fm_base.proofs.ListFacts.{same_head, same_tail}
use Rattle.fm_base.proofs.UnitFronts.{found, found_is}
use Rattle.fm_code.specs.Names.{is_name_character, is_unqualified, is_binary_name, are_parts, is_primitive_letter, BaseType, primitive, object, IsBaseType, base_descriptor, FieldType, field_descriptor, words_of, IsFieldDescriptor, IsArrayName}
use Rattle.fm_pool_texts.specs.inner.NameParts.{first_words, StartsWithClass, StartsWithBase, StartsWithField}

-- ---- lists

-- a list by its first element
pub cons_is : (b : ℕ) (xs : List ℕ) → 0 < length xs → get_or xs 0 0 ≡ b → xs ≡ b ∷ take (length xs - 1) (drop 1 xs)
cons_is b [] some e = absurd (omega arith)
cons_is b (x ∷ xs) some e =
    let all : take (suc (length xs) - 1) xs ≡ xs = take_all (suc (length xs) - 1) xs (omega arith) in
    ap (λ (y : ℕ). y ∷ xs) e ∙ ap (λ (ys : List ℕ). b ∷ ys) (sym all)

-- ---- names

-- a name with a character in it
pub is_unqualified-some : (name : List ℕ) → (length name ≡ 0 → ⊥) → is_unqualified name ≡ list_all is_name_character name
is_unqualified-some [] some = absurd (some refl)
is_unqualified-some (c ∷ name) some = refl

-- ---- a class and ;

abbrev is_before : ℕ → Bool
is_before c = not (eqb c 59)

-- no ; is in a class's name
prefix_len-name : (begun : Bool) (name rest : List ℕ) → are_parts begun name ≡ true → prefix_len is_before (name ++ 59 ∷ rest) ≡ length name
prefix_len-name begun [] rest ok = refl
prefix_len-name begun (c ∷ cs) rest ok =
    elim (cases_Bool (eqb c 59)) [
      | inl semicolon ↦ absurd (both_ways (are_parts begun (c ∷ cs)) (ap (λ (b : ℕ). are_parts begun (b ∷ cs)) (eqb-true c 59 semicolon)) ok)
      | inr other ↦ rw other (one-add (prefix_len is_before (cs ++ 59 ∷ rest)) ∙ ap suc (elim (cases_Bool (eqb c 47)) [
        | inl slash ↦ prefix_len-name false cs rest (and_parts begun (are_parts false cs) (rw slash at ok)).1
        | inr character ↦ prefix_len-name true cs rest (and_parts _ (are_parts true cs) (rw character at ok)).1
      ]))
    ]

-- the name is what is before the first ;
pub class_parts : (bytes rest : List ℕ) (n : ℕ) → n ≡ prefix_len is_before bytes → StartsWithClass bytes rest → (is_binary_name (take n bytes) ≡ true) × (drop n bytes ≡ 59 ∷ rest)
class_parts bytes rest n is w =
    let size : length w.name ≡ n = sym (prefix_len-name false w.name rest w.is_name) ∙ ap (prefix_len is_before) (sym w.bytes_are) ∙ sym is in
    let front : take n bytes ≡ w.name = ap (take n) w.bytes_are ∙ take_at w.name (59 ∷ rest) n size in
    (ap is_binary_name front ∙ w.is_name, ap (drop n) w.bytes_are ∙ drop_at w.name (59 ∷ rest) n size)

pub class_from : (bytes rest : List ℕ) (n : ℕ) → is_binary_name (take n bytes) ≡ true → drop n bytes ≡ 59 ∷ rest → StartsWithClass bytes rest
class_from bytes rest n ok remaining =
    record { name = take n bytes; is_name = ok; bytes_are = sym (take-append-drop n bytes) ∙ ap (λ (w : List ℕ). take n bytes ++ w) remaining }

-- what follows the bytes before the first ; begins with it
semicolon : (bytes : List ℕ) (n first : ℕ) (rest : List ℕ) → n ≡ prefix_len is_before bytes → drop n bytes ≡ first ∷ rest → first ≡ 59
semicolon bytes n first rest is remaining =
    let within : n < length bytes = omega (arith, ap length remaining, length-drop n bytes) in
    let stops : is_before (get_or bytes n 0) ≡ false = rw is (prefix_len_stops is_before bytes 0 (omega (arith, within, is))) in
    let plain : n ≡ n + 0 = omega arith in
    let at : get_or bytes n 0 ≡ first = ap (λ (k : ℕ). get_or bytes k 0) plain ∙ sym (get_or-drop n bytes 0 0) ∙ ap (λ (ys : List ℕ). get_or ys 0 0) remaining in
    eqb-true first 59 (not_false (eqb first 59) (ap is_before (sym at) ∙ stops)) where
      not_false : (b : Bool) → not b ≡ false → b ≡ true
      not_false true e = refl
      not_false false e = absurd cc

pub class_decided : (bytes front back remaining : List ℕ) (n first : ℕ) → n ≡ prefix_len is_before bytes → front ≡ take n bytes → back ≡ drop n bytes → back ≡ first ∷ remaining → is_binary_name front ≡ true
    → (rest : List ℕ) → StartsWithClass bytes rest ↔ (found remaining ≡ found rest)
class_decided bytes front back remaining n first is front_is back_is split ok rest =
    let dropped = sym back_is ∙ split in
    let ends = ap (λ (b : ℕ). b ∷ remaining) (semicolon bytes n first remaining is dropped) in (
      λ w. ap found (same_tail _ _ _ _ (sym dropped ∙ (class_parts bytes rest n is w).1)),
      λ e. class_from bytes rest n (ap is_binary_name (sym front_is) ∙ ok) (dropped ∙ ends ∙ ap (λ (r : List ℕ). 59 ∷ r) (found_is remaining rest e)),
    )

-- no ; at all
pub class_endless : (bytes back rest : List ℕ) (n : ℕ) → n ≡ prefix_len is_before bytes → back ≡ drop n bytes → length back ≡ 0 → StartsWithClass bytes rest → ⊥
class_endless bytes back rest n is back_is empty w = omega (arith, empty, ap length (back_is ∙ (class_parts bytes rest n is w).1))

-- what is before it is no name
pub class_nameless : (bytes front rest : List ℕ) (n : ℕ) → n ≡ prefix_len is_before bytes → front ≡ take n bytes → is_binary_name front ≡ false → StartsWithClass bytes rest → ⊥
class_nameless bytes front rest n is front_is bad w = both_ways (is_binary_name front) bad (ap is_binary_name front_is ∙ (class_parts bytes rest n is w).0)

-- ---- types that aren't arrays

-- after an L come a class and ;
pub base_class : (tail rest : List ℕ) → StartsWithBase (76 ∷ tail) rest ↔ StartsWithClass tail rest
base_class tail rest = (λ w. there w.base w.is_base w.bytes_are, back) where
  there : (b : BaseType) → IsBaseType b → 76 ∷ tail ≡ base_descriptor b ++ rest → StartsWithClass tail rest
  there (primitive letter) ok e = absurd (both_ways (is_primitive_letter letter) (ap is_primitive_letter (sym (same_head _ _ _ _ e))) ok)
  there (object name) ok e = record { name = name; is_name = ok; bytes_are = same_tail _ _ _ _ e ∙ append_assoc name (59 ∷ []) rest }

  back : StartsWithClass tail rest → StartsWithBase (76 ∷ tail) rest
  back w = record { base = object w.name; is_base = w.is_name; bytes_are = ap (λ (t : List ℕ). 76 ∷ t) (w.bytes_are ∙ sym (append_assoc w.name (59 ∷ []) rest)) }

-- after a primitive type's letter comes the rest
pub base_letter : (c : ℕ) (tail rest : List ℕ) → is_primitive_letter c ≡ true → StartsWithBase (c ∷ tail) rest ↔ (tail ≡ rest)
base_letter c tail rest letter = (λ w. there w.base w.is_base w.bytes_are, λ e. record { base = primitive c; is_base = letter; bytes_are = ap (λ (t : List ℕ). c ∷ t) e }) where
  there : (b : BaseType) → IsBaseType b → c ∷ tail ≡ base_descriptor b ++ rest → tail ≡ rest
  there (primitive l) ok e = same_tail _ _ _ _ e
  there (object name) ok e = absurd (both_ways (is_primitive_letter c) (ap is_primitive_letter (same_head _ _ _ _ e)) letter)

pub base_class_at : (bytes rest : List ℕ) → 0 < length bytes → get_or bytes 0 0 ≡ 76 → StartsWithBase bytes rest ↔ StartsWithClass (take (length bytes - 1) (drop 1 bytes)) rest
base_class_at bytes rest some first =
    let tail = take (length bytes - 1) (drop 1 bytes) in
    subst (λ (all : List ℕ). StartsWithBase all rest ↔ StartsWithClass tail rest) (sym (cons_is 76 bytes some first)) (base_class tail rest)

pub base_letter_at : (bytes rest : List ℕ) → 0 < length bytes → is_primitive_letter (get_or bytes 0 0) ≡ true → StartsWithBase bytes rest ↔ (found (take (length bytes - 1) (drop 1 bytes)) ≡ found rest)
base_letter_at bytes rest some letter =
    let tail = take (length bytes - 1) (drop 1 bytes) in
    let whole = base_letter (get_or bytes 0 0) tail rest letter in
    subst (λ (all : List ℕ). StartsWithBase all rest ↔ (found tail ≡ found rest)) (sym (cons_is (get_or bytes 0 0) bytes some refl)) (λ w. ap found (whole.0 w), λ e. whole.1 (found_is tail rest e))

-- nothing else is one
pub base_nothing : (rest : List ℕ) → StartsWithBase [] rest → ⊥
base_nothing rest w = none w.base w.bytes_are where
  none : (b : BaseType) → [] ≡ base_descriptor b ++ rest → ⊥
  none (primitive l) e = cc
  none (object name) e = cc

pub base_other : (c : ℕ) (tail rest : List ℕ) → (c ≡ 76 → ⊥) → is_primitive_letter c ≡ false → StartsWithBase (c ∷ tail) rest → ⊥
base_other c tail rest no_class no_letter w = none w.base w.is_base w.bytes_are where
  none : (b : BaseType) → IsBaseType b → c ∷ tail ≡ base_descriptor b ++ rest → ⊥
  none (primitive l) ok e = both_ways (is_primitive_letter c) no_letter (ap is_primitive_letter (same_head _ _ _ _ e) ∙ ok)
  none (object name) ok e = no_class (same_head _ _ _ _ e)

-- ---- fields

abbrev is_bracket : ℕ → Bool
is_bracket c = eqb c 91

prefix_len-base : (b : BaseType) (rest : List ℕ) → IsBaseType b → prefix_len is_bracket (base_descriptor b ++ rest) ≡ 0
prefix_len-base (primitive letter) rest ok =
    elim (cases_Bool (eqb letter 91)) [
      | inl e ↦ absurd (both_ways (is_primitive_letter letter) (ap is_primitive_letter (eqb-true letter 91 e)) ok)
      | inr e ↦ rw e refl
    ]
prefix_len-base (object name) rest ok = refl

prefix_len-brackets : (n : ℕ) (rest : List ℕ) → prefix_len is_bracket rest ≡ 0 → prefix_len is_bracket (replicate n 91 ++ rest) ≡ n
prefix_len-brackets zero rest none = none
prefix_len-brackets (suc n) rest none = one-add (prefix_len is_bracket (replicate n 91 ++ rest)) ∙ ap suc (prefix_len-brackets n rest none)

-- what is at the front of a list again and again
replicate-prefix_len : (b : ℕ) (xs : List ℕ) → xs ≡ replicate (prefix_len (λ c. eqb c b) xs) b ++ drop (prefix_len (λ c. eqb c b) xs) xs
replicate-prefix_len b [] = refl
replicate-prefix_len b (c ∷ cs) =
    elim (cases_Bool (eqb c b)) [
      | inl e ↦ rw (e, one-add (prefix_len (λ c. eqb c b) cs)) (ap (λ (x : ℕ). x ∷ cs) (eqb-true c b e) ∙ ap (λ (ys : List ℕ). b ∷ ys) (replicate-prefix_len b cs))
      | inr e ↦ rw e refl
    ]

-- as many [ as there are at the front, and then what isn't an array
pub field_parts : (bytes rest : List ℕ) (n : ℕ) → n ≡ prefix_len is_bracket bytes → StartsWithField bytes rest ↔ ((n ≤ 255) × StartsWithBase (drop n bytes) rest)
field_parts bytes rest n is = (parts, λ p. back p.0 p.1) where
  parts : StartsWithField bytes rest → (n ≤ 255) × StartsWithBase (drop n bytes) rest
  parts w =
      let base = base_descriptor w.type.base ++ rest in
      let spelled : bytes ≡ replicate w.type.dimensions 91 ++ base = w.bytes_are ∙ append_assoc (replicate w.type.dimensions 91) (base_descriptor w.type.base) rest in
      let k : n ≡ w.type.dimensions = is ∙ ap (prefix_len is_bracket) spelled ∙ prefix_len-brackets w.type.dimensions base (prefix_len-base w.type.base rest w.is_type.base) in
      let inner : drop n bytes ≡ base = ap (drop n) spelled ∙ drop_at (replicate w.type.dimensions 91) base n (length-replicate w.type.dimensions 91 ∙ sym k) in
      (omega (arith, w.is_type.dimensions), record { base = w.type.base; is_base = w.is_type.base; bytes_are = inner })

  back : n ≤ 255 → StartsWithBase (drop n bytes) rest → StartsWithField bytes rest
  back few w =
      let whole : bytes ≡ (replicate n 91 ++ base_descriptor w.base) ++ rest =
      replicate-prefix_len 91 bytes ∙ ap (λ (k : ℕ). replicate k 91 ++ drop k bytes) (sym is) ∙ ap (λ (ys : List ℕ). replicate n 91 ++ ys) w.bytes_are ∙ sym (append_assoc (replicate n 91) (base_descriptor w.base) rest) in
      record { type = record { dimensions = n; base = w.base }; is_type = record { dimensions = few; base = w.is_base }; bytes_are = whole }

-- a descriptor has at least one character
pub field_takes : (bytes rest : List ℕ) → StartsWithField bytes rest → length rest < length bytes
field_takes bytes rest w =
    let some = base_some w.type.base in
    omega (arith, some, ap length w.bytes_are, length-append (field_descriptor w.type) rest, length-append (replicate w.type.dimensions 91) (base_descriptor w.type.base)) where
      base_some : (b : BaseType) → 0 < length (base_descriptor b)
      base_some (primitive letter) = omega arith
      base_some (object name) = omega arith

-- the first character determines the words
pub words_of-first : (t : FieldType) (rest : List ℕ) → words_of t ≡ first_words (field_descriptor t ++ rest)
words_of-first t rest = by t.dimensions t.base where
  by : (dimensions : ℕ) (base : BaseType) → words_of (record { dimensions = dimensions; base = base }) ≡ first_words ((replicate dimensions 91 ++ base_descriptor base) ++ rest)
  by (suc n) (primitive letter) = refl
  by (suc n) (object name) = refl
  by zero (primitive letter) = refl
  by zero (object name) = refl

-- a field's descriptor alone
pub field_alone : (bytes : List ℕ) → IsFieldDescriptor bytes ↔ StartsWithField bytes []
field_alone bytes =
    (λ w. record { type = w.0; is_type = w.1.0; bytes_are = w.1.1 ∙ sym (append-nil (field_descriptor w.0)) }, λ w. (w.type, (w.is_type, w.bytes_are ∙ append-nil (field_descriptor w.type))))

-- a field's descriptor, and nothing after it
pub field_decided : (bytes after : List ℕ) (r : Bool) → r ≡ eqb (length after) 0 → ((rest : List ℕ) → StartsWithField bytes rest ↔ (found after ≡ found rest)) → IsTrue r ↔ IsFieldDescriptor bytes
field_decided bytes after r is decides = (there, back) where
  there : IsTrue r → IsFieldDescriptor bytes
  there t =
      let empty : after ≡ [] = nil_from_length after (eqb-true _ _ (sym is ∙ t)) in
      (field_alone bytes).1 ((decides []).1 (ap found empty))

  back : IsFieldDescriptor bytes → IsTrue r
  back w =
      let empty : after ≡ [] = found_is after [] ((decides []).0 ((field_alone bytes).0 w)) in
      is ∙ ap (λ (ys : List ℕ). eqb (length ys) 0) empty

-- a field's descriptor that begins with [ is an array's
pub array_is : (tail : List ℕ) → IsFieldDescriptor (91 ∷ tail) → IsArrayName (91 ∷ tail)
array_is tail w = (w.0, (w.1.0, (some w.0.dimensions w.0.base w.1.0.base w.1.1, w.1.1))) where
  some : (dimensions : ℕ) (base : BaseType) → IsBaseType base → 91 ∷ tail ≡ replicate dimensions 91 ++ base_descriptor base → 0 < dimensions
  some (suc n) base ok e = omega arith
  some zero (primitive letter) ok e = absurd (both_ways (is_primitive_letter letter) (ap is_primitive_letter (sym (same_head _ _ _ _ e))) ok)
  some zero (object name) ok e = absurd (omega (arith, same_head _ _ _ _ e))

-- an array's name begins with [
pub array_begins : (name : List ℕ) → IsArrayName name → (tail : List ℕ) × (name ≡ 91 ∷ tail)
array_begins name w = first w.0.dimensions w.1.1.0 w.1.1.1 where
  first : (dimensions : ℕ) → 0 < dimensions → name ≡ replicate dimensions 91 ++ base_descriptor w.0.base → (tail : List ℕ) × (name ≡ 91 ∷ tail)
  first (suc n) some e = (replicate n 91 ++ base_descriptor w.0.base, e)
  first zero some e = absurd (omega arith)
