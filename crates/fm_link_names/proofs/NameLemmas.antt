-- Names and members of a file by the numbers of its texts.
use Rattle.std.proofs.Common.{◌≡◌, refl, sym, ◌∙◌, ap, subst, ℕ, ◌<◌, List, [], length, slice_get, Option, Some, None, option_map, option_and_then}
use Rattle.std.proofs.lemmas.Option.{get_or_from_slice_get, none-some, same_Some, slice_get-get_or, slice_get_within}
use Rattle.fm_code.specs.ConstantPool.{class_name_at, entry_at, MemberName, member_named, named_and_typed_at, utf8_at}
use Rattle.fm_code.specs.declared.class_file.ClassDef.{ClassDef}
use Rattle.fm_code.specs.declared.constant_pool.Entry.{Entry}
use Rattle.fm_code.specs.declared.constant_pool.Entry.TheVariants as entry
use Rattle.fm_link_names.specs.declared.given.GivenFile.{GivenFile}
use Rattle.fm_link_names.specs.declared.given.MemberTexts.{MemberTexts}
use Rattle.fm_link_names.specs.inner.Files.{AreNumbers, by_class, class_of_entry, class_text_in, IsFile, member_in, member_named_by, member_named_in, member_of_entry, pair_of_entry, named_and_typed_in, named_class_in, text_in}
use Rattle.fm_link_names.specs.inner.Numbering.{IsNumberOf, text_of}
use Rattle.fm_world.specs.Uses.{named_class, named_member}

-- ---- a text by its number

pub text_known : (texts : List (List ℕ)) (text : Option (List ℕ)) (number : Option ℕ) → IsNumberOf texts text number
    → option_map (text_of texts) number ≡ text
text_known texts None None is = refl
text_known texts None (Some n) is = absurd is
text_known texts (Some text) None is = absurd is
text_known texts (Some text) (Some n) is = ap (λ (t : List ℕ). Some t) (get_or_from_slice_get texts n text [] is)

pub number_below : (texts : List (List ℕ)) (text : Option (List ℕ)) (number : Option ℕ) (n : ℕ) → IsNumberOf texts text number → number ≡ Some n
    → n < length texts
number_below texts None None n is e = absurd (none-some n e)
number_below texts None (Some m) n is e = absurd is
number_below texts (Some text) None n is e = absurd is
number_below texts (Some text) (Some m) n is e = subst (λ k. k < length texts) (same_Some m n e) (slice_get_within texts m text is)

-- what an index leads to, by text and by number
pub number_behind : (texts : List (List ℕ)) (names : ℕ → Option (List ℕ)) (numbers : ℕ → Option ℕ)
    → ((i : ℕ) → IsNumberOf texts (names i) (numbers i))
    → (o : Option ℕ) → IsNumberOf texts (option_and_then names o) (option_and_then numbers o)
number_behind texts names numbers each None = tt
number_behind texts names numbers each (Some i) = each i

-- ---- names of classes

pub class_text_is : (texts : List (List ℕ)) (k : ℕ) (c : ClassDef) (file : GivenFile) → IsFile texts k c file
    → (index : ℕ) → IsNumberOf texts (class_name_at c.pool.entries index) (class_text_in file index)
class_text_is texts k c file is index =
    let P : ClassDef → Type 0 = λ d. IsNumberOf texts (class_name_at c.pool.entries index)
    (option_and_then (text_in file) (class_of_entry (entry_at d.pool.entries index))) in
    subst P (sym is.class_is) (number_behind texts (utf8_at c.pool.entries) (text_in file) is.texts_are
    (class_of_entry (entry_at c.pool.entries index)))

-- ---- members

-- a name with a descriptor, by text and by number
abbrev pub IsPairOf : List (List ℕ) → Option (List ℕ × List ℕ) → Option (ℕ × ℕ) → Type 0
IsPairOf texts None None = Unit {0}
IsPairOf texts None (Some p) = ⊥
IsPairOf texts (Some pair) None = ⊥
IsPairOf texts (Some pair) (Some p) = (slice_get texts p.0 ≡ Some pair.0) × (slice_get texts p.1 ≡ Some pair.1)

-- a member, by text and by number
abbrev pub IsMemberOf : List (List ℕ) → Option MemberName → Option MemberTexts → Type 0
IsMemberOf texts None None = Unit {0}
IsMemberOf texts None (Some m) = ⊥
IsMemberOf texts (Some member) None = ⊥
IsMemberOf texts (Some member) (Some m) = (member ≡ member_named_by texts m) × AreNumbers texts m

pub pair_of : (texts : List (List ℕ)) (name descriptor : Option (List ℕ)) (n d : Option ℕ) → IsNumberOf texts name n → IsNumberOf texts descriptor d
    → IsPairOf texts (option_and_then (λ s. option_and_then (λ t. Some (s, t)) descriptor) name)
    (option_and_then (λ a. option_and_then (λ b. Some (a, b)) d) n)
pair_of texts None descriptor None d is_name is_descriptor = tt
pair_of texts None descriptor (Some n) d is_name is_descriptor = absurd is_name
pair_of texts (Some name) descriptor None d is_name is_descriptor = absurd is_name
pair_of texts (Some name) None (Some n) None is_name is_descriptor = tt
pair_of texts (Some name) None (Some n) (Some d) is_name is_descriptor = absurd is_descriptor
pair_of texts (Some name) (Some descriptor) (Some n) None is_name is_descriptor = absurd is_descriptor
pair_of texts (Some name) (Some descriptor) (Some n) (Some d) is_name is_descriptor = (is_name, is_descriptor)

member_of : (texts : List (List ℕ)) (class : Option (List ℕ)) (pair : Option (List ℕ × List ℕ)) (n : Option ℕ) (p : Option (ℕ × ℕ))
    → IsNumberOf texts class n → IsPairOf texts pair p
    → IsMemberOf texts (option_and_then (λ c. option_and_then (λ q. Some (record { class = c; name = q.0; descriptor = q.1 })) pair) class)
    (option_and_then (λ c. option_and_then (λ q. Some (record { class = c; name = q.0; descriptor = q.1 })) p) n)
member_of texts None pair None p is_class is_pair = tt
member_of texts None pair (Some n) p is_class is_pair = absurd is_class
member_of texts (Some class) pair None p is_class is_pair = absurd is_class
member_of texts (Some class) None (Some n) None is_class is_pair = tt
member_of texts (Some class) None (Some n) (Some p) is_class is_pair = absurd is_pair
member_of texts (Some class) (Some pair) (Some n) None is_class is_pair = absurd is_pair
member_of texts (Some class) (Some pair) (Some n) (Some p) is_class is_pair = (
  ap (λ (c : List ℕ). record { class = c; name = pair.0; descriptor = pair.1 }) (sym (get_or_from_slice_get texts n class [] is_class))
      ∙ ap (λ (t : List ℕ). record { class = text_of texts n; name = t; descriptor = pair.1 })
      (sym (get_or_from_slice_get texts p.0 pair.0 [] is_pair.0))
      ∙ ap (λ (t : List ℕ). record { class = text_of texts n; name = text_of texts p.0; descriptor = t })
      (sym (get_or_from_slice_get texts p.1 pair.1 [] is_pair.1)),
  record {
    class = slice_get_within texts n class is_class;
    name = slice_get_within texts p.0 pair.0 is_pair.0;
    descriptor = slice_get_within texts p.1 pair.1 is_pair.1;
  },
)

-- the pair at an entry
pair_at : (texts : List (List ℕ)) (names : ℕ → Option (List ℕ)) (numbers : ℕ → Option ℕ) → ((i : ℕ) → IsNumberOf texts (names i) (numbers i))
    → (e : Entry) → IsPairOf texts (pair_of_entry names e) (pair_of_entry numbers e)
pair_at texts names numbers each (entry.NameAndType name descriptor) =
    pair_of texts (names name) (names descriptor) (numbers name) (numbers descriptor) (each name) (each descriptor)
pair_at texts names numbers each e = tt

member_at : (texts : List (List ℕ)) (names : ℕ → ℕ → Option MemberName) (numbers : ℕ → ℕ → Option MemberTexts)
    → ((i j : ℕ) → IsMemberOf texts (names i j) (numbers i j))
    → (e : Entry) → IsMemberOf texts (member_of_entry names e) (member_of_entry numbers e)
member_at texts names numbers each (entry.Field class member) = each class member
member_at texts names numbers each (entry.Method class member) = each class member
member_at texts names numbers each (entry.InterfaceMethod class member) = each class member
member_at texts names numbers each e = tt

-- the member at an index by its entry
pub named_member_by : (entries : List Entry) (index : ℕ) (e : Entry) → entry_at entries index ≡ e
    → named_member entries index ≡ member_of_entry (member_named entries) e
named_member_by entries index (entry.Field class member) at = rw at (rw at refl)
named_member_by entries index (entry.Method class member) at = rw at (rw at refl)
named_member_by entries index (entry.InterfaceMethod class member) at = rw at (rw at refl)
named_member_by entries index e at = rw at refl

-- ---- what a file returns

pub member_named_is : (texts : List (List ℕ)) (k : ℕ) (c : ClassDef) (file : GivenFile) → IsFile texts k c file
    → (class member : ℕ) → IsMemberOf texts (member_named c.pool.entries class member) (member_named_in file class member)
member_named_is texts k c file is class member =
    let entries = c.pool.entries in
    let P : ClassDef → Type 0 = λ d. IsPairOf texts (named_and_typed_at entries member)
    (pair_of_entry (text_in file) (entry_at d.pool.entries member)) in
    let pair : IsPairOf texts (named_and_typed_at entries member) (named_and_typed_in file member) =
    subst P (sym is.class_is) (pair_at texts (utf8_at entries) (text_in file) is.texts_are (entry_at entries member)) in
    member_of texts (class_name_at entries class) (named_and_typed_at entries member) (class_text_in file class) (named_and_typed_in file member)
    (class_text_is texts k c file is class) pair

-- the member at an index, by text and by number
pub member_in_is : (texts : List (List ℕ)) (k : ℕ) (c : ClassDef) (file : GivenFile) → IsFile texts k c file
    → (index : ℕ) → IsMemberOf texts (named_member c.pool.entries index) (member_in file index)
member_in_is texts k c file is index =
    let entries = c.pool.entries in
    let P : ClassDef → Type 0 = λ d. IsMemberOf texts (named_member entries index)
    (member_of_entry (member_named_in file) (entry_at d.pool.entries index)) in
    let N : Option MemberName → Type 0 = λ m. IsMemberOf texts m (member_of_entry (member_named_in file) (entry_at entries index)) in
    subst P (sym is.class_is) (subst N (sym (named_member_by entries index (entry_at entries index) refl))
    (member_at texts (member_named entries) (member_named_in file) (member_named_is texts k c file is) (entry_at entries index)))

known_member : (texts : List (List ℕ)) (member : Option MemberName) (m : Option MemberTexts) → IsMemberOf texts member m
    → member ≡ option_map (member_named_by texts) m
known_member texts None None is = refl
known_member texts None (Some m) is = absurd is
known_member texts (Some member) None is = absurd is
known_member texts (Some member) (Some m) is = ap (λ (x : MemberName). Some x) is.0

numbers_below : (texts : List (List ℕ)) (member : Option MemberName) (o : Option MemberTexts) (m : MemberTexts) → IsMemberOf texts member o
    → o ≡ Some m → AreNumbers texts m
numbers_below texts None None m is e = absurd (none-some m e)
numbers_below texts None (Some n) m is e = absurd is
numbers_below texts (Some member) None m is e = absurd (none-some m e)
numbers_below texts (Some member) (Some n) m is e = subst (AreNumbers texts) (same_Some n m e) is.1

pub member_is : (texts : List (List ℕ)) (k : ℕ) (c : ClassDef) (file : GivenFile) → IsFile texts k c file
    → (index : ℕ) → named_member c.pool.entries index ≡ option_map (member_named_by texts) (member_in file index)
member_is texts k c file is index =
    known_member texts (named_member c.pool.entries index) (member_in file index) (member_in_is texts k c file is index)

pub member_numbers : (texts : List (List ℕ)) (k : ℕ) (c : ClassDef) (file : GivenFile) → IsFile texts k c file
    → (index : ℕ) (m : MemberTexts) → member_in file index ≡ Some m → AreNumbers texts m
member_numbers texts k c file is index m e =
    numbers_below texts (named_member c.pool.entries index) (member_in file index) m (member_in_is texts k c file is index) e

-- the class of a member
class_of_member : (texts : List (List ℕ)) (member : Option MemberName) (m : Option MemberTexts) → IsMemberOf texts member m
    → IsNumberOf texts (option_map (λ (x : MemberName). x.class) member) (option_map (λ (x : MemberTexts). x.class) m)
class_of_member texts None None is = tt
class_of_member texts None (Some m) is = absurd is
class_of_member texts (Some member) None is = absurd is
class_of_member texts (Some member) (Some m) is = slice_get-get_or texts m.class [] is.1.class ∙ ap (λ (x : MemberName). Some x.class) (sym is.0)

by_class-is : (texts : List (List ℕ)) (class other : Option (List ℕ)) (n m : Option ℕ) → IsNumberOf texts class n → IsNumberOf texts other m
    → (e : Entry) → IsNumberOf texts (by_class class other e) (by_class n m e)
by_class-is texts class other n m is_class is_other (entry.Class name) = is_class
by_class-is texts class other n m is_class is_other e = is_other

-- the class or the array that an index names, by text and by number
pub named_class_is : (texts : List (List ℕ)) (k : ℕ) (c : ClassDef) (file : GivenFile) → IsFile texts k c file
    → (index : ℕ) → IsNumberOf texts (named_class c.pool.entries index) (named_class_in file index)
named_class_is texts k c file is index =
    let entries = c.pool.entries in
    let member : Option ℕ = option_map (λ (x : MemberTexts). x.class) (member_in file index) in
    let P : ClassDef → Type 0 = λ d. IsNumberOf texts (named_class entries index)
    (by_class (class_text_in file index) member (entry_at d.pool.entries index)) in
    subst P (sym is.class_is)
    (by_class-is texts (class_name_at entries index) (option_map (λ (x : MemberName). x.class) (named_member entries index))
    (class_text_in file index) member
    (class_text_is texts k c file is index) (class_of_member texts (named_member entries index) (member_in file index)
    (member_in_is texts k c file is index))
    (entry_at entries index))
