-- What is at the indices of the made pool, and that bytes spell it.
use Rattle.std.proofs.Common.{◌≡◌, ◌≤◌, ◌<◌, ◌+◌, ◌*◌, ◌-◌, ◌∙◌, ℕ, zero, suc, true, inr, List, [], ◌∷◌, ◌++◌, Some, None, ap, subst, codes, length, length-append, refl, arith}
use Rattle.std.specs.List.{AllByRecursion, flat_map, range_with_len}
use Rattle.std.proofs.lemmas.List.{get_or_append_left, get_or-append_right}
use Rattle.fm_base.proofs.ListFacts.{AllByRecursion-append, AllByRecursion-weaker}
use Rattle.fm_base.proofs.OptionFacts.{IsSome-from_some, IsSomeAnd-from_some}
use Rattle.fm_code.proofs.Bytes.{length-two}
use Rattle.fm_code.proofs.Tested.{entries_fit, entries_supported, entries_valid}
use Rattle.fm_code.specs.ClassBytes.{entry_bytes, pool_bytes}
use Rattle.fm_code.specs.Numbers.{two}
use Rattle.fm_code.specs.ConstantPool.{AreSlots, EntryIsValid, IsMethodPair, MemberName, SpellsPool, class_name_at, entry_at, method_ref_at, named_and_typed_at, utf8_at}
use Rattle.fm_code.specs.Fits.{EntryFits}
use Rattle.fm_code.specs.Names.{FieldType, IsFieldType, IsMethodDescriptor, object}
use Rattle.fm_code.specs.Profile.{EntryIsSupported}
use Rattle.fm_code.specs.declared.constant_pool.Entry.{Entry}
use Rattle.fm_code.specs.declared.constant_pool.Entry.TheVariants as entry
use Rattle.fm_pool.proofs.GrownPool.{TakesOne, class_kept, entry_kept, method_from, pair_from, pair_kept, slots_kept, text_kept, valid_kept}
use Rattle.fm_gen.proofs.NameLemmas.{IsLetter, named, named_bytes, named_method, named_plain, named_short}
use Rattle.fm_gen.specs.Made.{made_entries, method_entries, method_texts, name_index, object_entries, own_entries, shared_entries}

-- ---- lists of three for each number

module _ (f : ℕ → List Entry) (three : (i : ℕ) → length (f i) ≡ 3) where
  length_triples : (a m : ℕ) → length (flat_map f (range_with_len a m)) ≡ 3 * m
  length_triples a zero = refl
  length_triples a (suc m) =
      let rest = flat_map f (range_with_len (a + 1) m) in omega (arith, length-append (f a) rest, three a, length_triples (a + 1) m)

  at_triple : (m a i k : ℕ) → i < m → k < 3 → entry_at (flat_map f (range_with_len a m)) (3 * i + k) ≡ entry_at (f (a + i)) k
  at_triple zero a i k below r = absurd (omega arith)
  at_triple (suc m) a zero k below r =
      let rest = flat_map f (range_with_len (a + 1) m) in
      let here : a ≡ a + 0 = omega arith in
      let place : 3 * 0 + k ≡ k = omega arith in
      ap (entry_at (f a ++ rest)) place ∙ get_or_append_left (f a) rest entry.Second k (omega (arith, three a, r)) ∙ ap (λ (j : ℕ). entry_at (f j) k) here
  at_triple (suc m) a (suc i) k below r =
      let rest = flat_map f (range_with_len (a + 1) m) in
      let past : 3 ≤ 3 * suc i + k = omega arith in
      let place : 3 * suc i + k - 3 ≡ 3 * i + k = omega arith in
      let next : a + 1 + i ≡ a + suc i = omega arith in
      get_or-append_right (f a) rest 3 (3 * suc i + k) entry.Second (three a) past ∙ ap (entry_at rest) place ∙ at_triple m (a + 1) i k (omega arith) r
      ∙ ap (λ (j : ℕ). entry_at (f j) k) next

-- what holds of all pieces holds of the list
pub all_flat : {X : Type 0} (P : X → Type 0) (f : ℕ → List X) (a m : ℕ) → ((i : ℕ) → a ≤ i → i < a + m → AllByRecursion P (f i)) → AllByRecursion P (flat_map f (range_with_len a m))
all_flat P f a zero each = tt
all_flat P f a (suc m) each =
    AllByRecursion-append P (f a) (flat_map f (range_with_len (a + 1) m)) (each a (omega arith) (omega arith))
    (all_flat P f (a + 1) m (λ i low high. each i (omega arith) (omega arith)))

-- ---- the parts of the pool

abbrev fs : ℕ → List Entry
fs n = flat_map (method_entries (codes "f") 9 0) (range_with_len 0 (100 * n))

abbrev gs : ℕ → List Entry
gs n = flat_map (method_entries (codes "g") 6 (100 * n)) (range_with_len 0 n)

shared_length : length shared_entries ≡ 13
unfolding shared_entries
shared_length = refl

front_length : (n : ℕ) → length (shared_entries ++ fs n) ≡ 13 + 3 * (100 * n)
front_length n = omega (arith, length-append shared_entries (fs n), shared_length, length_triples (method_entries (codes "f") 9 0) (λ i. refl) 0 (100 * n))

pub entries_length : (n : ℕ) → length (made_entries n) ≡ 13 + 303 * n
unfolding made_entries
entries_length n =
    omega (arith, length-append (shared_entries ++ fs n) (gs n), front_length n, length_triples (method_entries (codes "g") 6 (100 * n)) (λ i. refl) 0 n)

-- what is shared is still there
pub text_shared : (n i : ℕ) (text : List ℕ) → utf8_at shared_entries i ≡ Some text → utf8_at (made_entries n) i ≡ Some text
unfolding made_entries
text_shared n i text h = text_kept (shared_entries ++ fs n) (gs n) i text (text_kept shared_entries (fs n) i text h)

class_shared : (n i : ℕ) (text : List ℕ) → class_name_at shared_entries i ≡ Some text → class_name_at (made_entries n) i ≡ Some text
unfolding made_entries
class_shared n i text h = class_kept (shared_entries ++ fs n) (gs n) i text (class_kept shared_entries (fs n) i text h)

pair_shared : (n i : ℕ) (pair : List ℕ × List ℕ) → named_and_typed_at shared_entries i ≡ Some pair → named_and_typed_at (made_entries n) i ≡ Some pair
unfolding made_entries
pair_shared n i pair h = pair_kept (shared_entries ++ fs n) (gs n) i pair (pair_kept shared_entries (fs n) i pair h)

entry_shared : (n i : ℕ) (e : Entry) → entry_at shared_entries i ≡ e → (entry.Second ≡ e → ⊥) → entry_at (made_entries n) i ≡ e
unfolding made_entries
entry_shared n i e is other = entry_kept (shared_entries ++ fs n) (gs n) i e (entry_kept shared_entries (fs n) i e is other) other

valid_shared : (n : ℕ) (e : Entry) → EntryIsValid shared_entries e → EntryIsValid (made_entries n) e
unfolding made_entries
valid_shared n e h = valid_kept (shared_entries ++ fs n) (gs n) e (valid_kept shared_entries (fs n) e h)

-- ---- descriptors

abbrev pub to_object : List ℕ
to_object = codes "(Ljava/lang/Object;)Ljava/lang/Object;"

-- a type of a class, or of an array of it
abbrev reference : ℕ → List ℕ → FieldType
reference dimensions name = record { dimensions = dimensions; base = object name }

abbrev one_object : FieldType
one_object = reference 0 (codes "java/lang/Object")

is_object : IsFieldType one_object
is_object = record { dimensions = omega arith; base = refl }

abbrev many_texts : FieldType
many_texts = reference 1 (codes "java/lang/String")

pub nothing_descriptor : IsMethodDescriptor 0 (codes "()V")
nothing_descriptor = (record { parameters = []; result = None }, (record { parameters = tt; result = tt }, (refl, omega arith)))

pub object_descriptor : IsMethodDescriptor 0 to_object
object_descriptor =
    (record { parameters = one_object ∷ []; result = Some one_object }, (record { parameters = (is_object, tt); result = is_object }, (refl, omega arith)))

pub main_descriptor : IsMethodDescriptor 0 (codes "([Ljava/lang/String;)V")
main_descriptor =
    (record { parameters = many_texts ∷ []; result = None }, (record { parameters = (record { dimensions = omega arith; base = refl }, tt); result = tt }, (refl, omega arith)))

-- ---- what is shared, by its indices

pub own_name : (n : ℕ) → class_name_at (made_entries n) 2 ≡ Some (codes "G")
unfolding shared_entries
own_name n = class_shared n 2 (codes "G") refl

pub object_name : (n : ℕ) → class_name_at (made_entries n) 4 ≡ Some (codes "java/lang/Object")
unfolding shared_entries
object_name n = class_shared n 4 (codes "java/lang/Object") refl

pub nothing_there : (n : ℕ) → utf8_at (made_entries n) 6 ≡ Some (codes "()V")
unfolding shared_entries
nothing_there n = text_shared n 6 (codes "()V") refl

pub object_there : (n : ℕ) → utf8_at (made_entries n) 9 ≡ Some to_object
unfolding shared_entries
object_there n = text_shared n 9 to_object refl

pub main_there : (n : ℕ) → utf8_at (made_entries n) 10 ≡ Some (codes "main")
unfolding shared_entries
main_there n = text_shared n 10 (codes "main") refl

pub texts_there : (n : ℕ) → utf8_at (made_entries n) 11 ≡ Some (codes "([Ljava/lang/String;)V")
unfolding shared_entries
texts_there n = text_shared n 11 (codes "([Ljava/lang/String;)V") refl

pub code_there : (n : ℕ) → utf8_at (made_entries n) 12 ≡ Some (codes "Code")
unfolding shared_entries
code_there n = text_shared n 12 (codes "Code") refl

abbrev pub constructor_name : MemberName
constructor_name = record { class = codes "java/lang/Object"; name = codes "<init>"; descriptor = codes "()V" }

pub constructor_there : (n : ℕ) → method_ref_at (made_entries n) 8 ≡ Some constructor_name
unfolding shared_entries
constructor_there n =
    method_from (made_entries n) 8 4 7 constructor_name (entry_shared n 8 (entry.Method 4 7) refl (λ e. cc)) (object_name n)
    (pair_shared n 7 (codes "<init>", codes "()V") refl)

-- ---- a method's three entries

pub record Stands (entries : List Entry) (k : ℕ) (name descriptor : List ℕ) : Type 0 where
  pub text : utf8_at entries (name_index k) ≡ Some name
  pub pair : named_and_typed_at entries (name_index k + 1) ≡ Some (name, descriptor)
  pub method : method_ref_at entries (name_index k + 2) ≡ Some (record { class = codes "G"; name = name; descriptor = descriptor })

stands_by : (entries : List Entry) (k j d : ℕ) (name descriptor : List ℕ) → j ≡ k → entry_at entries (name_index k + 0) ≡ entry.Utf8 name
    → entry_at entries (name_index k + 1) ≡ entry.NameAndType (name_index j) d → entry_at entries (name_index k + 2) ≡ entry.Method 2 (name_index j + 1)
    → utf8_at entries d ≡ Some descriptor → class_name_at entries 2 ≡ Some (codes "G") → Stands entries k name descriptor
stands_by entries k j d name descriptor same first second third described own =
    let start : name_index k ≡ name_index k + 0 = omega arith in
    let at_first : entry_at entries (name_index k) ≡ entry.Utf8 name = ap (entry_at entries) start ∙ first in
    let text : utf8_at entries (name_index k) ≡ Some name = rw at_first refl in
    let at_second : entry_at entries (name_index k + 1) ≡ entry.NameAndType (name_index k) d = second ∙ ap (λ (i : ℕ). entry.NameAndType (name_index i) d) same in
    let at_third : entry_at entries (name_index k + 2) ≡ entry.Method 2 (name_index k + 1) = third ∙ ap (λ (i : ℕ). entry.Method 2 (name_index i + 1)) same in
    let pair = pair_from entries (name_index k + 1) (name_index k) d name descriptor at_second text described in
    record {
      text = text;
      pair = pair;
      method = method_from entries (name_index k + 2) 2 (name_index k + 1) (record { class = codes "G"; name = name; descriptor = descriptor }) at_third own pair;
    }

f_entry : (n i k : ℕ) → i < 100 * n → k < 3 → entry_at (made_entries n) (name_index i + k) ≡ entry_at (method_entries (codes "f") 9 0 i) k
unfolding made_entries
f_entry n i k below r =
    let within : name_index i + k < length (shared_entries ++ fs n) = omega (arith, front_length n) in
    let place : name_index i + k - 13 ≡ 3 * i + k = omega arith in
    let same : 0 + i ≡ i = omega arith in
    get_or_append_left (shared_entries ++ fs n) (gs n) entry.Second (name_index i + k) within
    ∙ get_or-append_right shared_entries (fs n) 13 (name_index i + k) entry.Second shared_length (omega arith)
    ∙ ap (entry_at (fs n)) place
    ∙ at_triple (method_entries (codes "f") 9 0) (λ j. refl) (100 * n) 0 i k below r
    ∙ ap (λ (j : ℕ). entry_at (method_entries (codes "f") 9 0 j) k) same

g_entry : (n j k : ℕ) → j < n → k < 3 → entry_at (made_entries n) (name_index (100 * n + j) + k) ≡ entry_at (method_entries (codes "g") 6 (100 * n) j) k
unfolding made_entries
g_entry n j k below r =
    let place : name_index (100 * n + j) + k - (13 + 3 * (100 * n)) ≡ 3 * j + k = omega arith in
    let same : 0 + j ≡ j = omega arith in
    get_or-append_right (shared_entries ++ fs n) (gs n) (13 + 3 * (100 * n)) (name_index (100 * n + j) + k) entry.Second (front_length n) (omega arith)
    ∙ ap (entry_at (gs n)) place
    ∙ at_triple (method_entries (codes "g") 6 (100 * n)) (λ i. refl) n 0 j k below r
    ∙ ap (λ (i : ℕ). entry_at (method_entries (codes "g") 6 (100 * n) i) k) same

pub f_stands : (n i : ℕ) → i < 100 * n → Stands (made_entries n) i (named 102 i) to_object
f_stands n i below =
    stands_by (made_entries n) i (0 + i) 9 (named 102 i) to_object (omega arith) (f_entry n i 0 below (omega arith)) (f_entry n i 1 below (omega arith))
    (f_entry n i 2 below (omega arith)) (object_there n) (own_name n)

pub g_stands : (n j : ℕ) → j < n → Stands (made_entries n) (100 * n + j) (named 103 j) (codes "()V")
g_stands n j below =
    stands_by (made_entries n) (100 * n + j) (100 * n + j) 6 (named 103 j) (codes "()V") refl (g_entry n j 0 below (omega arith)) (g_entry n j 1 below (omega arith))
    (g_entry n j 2 below (omega arith)) (nothing_there n) (own_name n)

-- ---- the rules of the entries

pub record IsGood (all : List Entry) (e : Entry) : Type 0 where
  pub fits : EntryFits e
  pub valid : EntryIsValid all e
  pub one : TakesOne e
  pub supported : EntryIsSupported e
  pub size : length (entry_bytes e) ≤ 60

-- the three of a method are good, by their numbers
good_three : (all : List Entry) (letter k i d : ℕ) (descriptor : List ℕ) → IsLetter letter → i < 100000 → k < 20000 → d < 100 → Stands all k (named letter i) descriptor
    → utf8_at all d ≡ Some descriptor → class_name_at all 2 ≡ Some (codes "G") → IsMethodDescriptor 0 descriptor
    → AllByRecursion (IsGood all) (entry.Utf8 (named letter i) ∷ entry.NameAndType (name_index k) d ∷ entry.Method 2 (name_index k + 1) ∷ [])
unfolding entry_bytes
good_three all letter k i d descriptor is small few low stands described own descriptor_is =
    let method : IsMethodPair (named letter i, descriptor) = (named_method letter i is (omega arith), descriptor_is) in
    let short = named_short letter i small in (
      record {
        fits = (omega arith, named_bytes letter i is (omega arith));
        valid = named_plain letter i is (omega arith);
        one = tt;
        supported = refl;
        size = omega (arith, short, length-append (two (length (named letter i))) (named letter i), length-two (length (named letter i)));
      },
      (
        record {
          fits = (omega arith, omega arith);
          valid = IsSomeAnd-from_some (utf8_at all (name_index k)) _ (named letter i) stands.text (IsSomeAnd-from_some (utf8_at all d) _ descriptor described (inr method));
          one = tt;
          supported = refl;
          size = omega (arith, length-append (two (name_index k)) (two d), length-two (name_index k), length-two d);
        },
        (
          record {
            fits = (omega arith, omega arith);
            valid = (IsSome-from_some (class_name_at all 2) (codes "G") own, IsSomeAnd-from_some (named_and_typed_at all (name_index k + 1)) IsMethodPair (named letter i, descriptor) stands.pair method);
            one = tt;
            supported = refl;
            size = omega (arith, length-append (two 2) (two (name_index k + 1)), length-two 2, length-two (name_index k + 1));
          },
          tt,
        ),
      ),
    )

fs_good : (n : ℕ) → n ≤ 100 → AllByRecursion (IsGood (made_entries n)) (fs n)
fs_good n few = all_flat (IsGood (made_entries n)) (method_entries (codes "f") 9 0) 0 (100 * n) (λ i low high.
    let same : i ≡ 0 + i = omega arith in
    let stands = subst (λ (k : ℕ). Stands (made_entries n) k (named 102 i) to_object) same (f_stands n i (omega arith)) in
    good_three (made_entries n) 102 (0 + i) i 9 to_object (omega arith, omega arith) (omega arith) (omega arith) (omega arith) stands (object_there n) (own_name n) object_descriptor)

gs_good : (n : ℕ) → n ≤ 100 → AllByRecursion (IsGood (made_entries n)) (gs n)
gs_good n few = all_flat (IsGood (made_entries n)) (method_entries (codes "g") 6 (100 * n)) 0 n (λ j low high.
    good_three (made_entries n) 103 (100 * n + j) j 6 (codes "()V") (omega arith, omega arith) (omega arith) (omega arith) (omega arith) (g_stands n j (omega arith)) (nothing_there n) (own_name n)
    nothing_descriptor)

constructor_pair : IsMethodPair (codes "<init>", codes "()V")
constructor_pair = (refl, nothing_descriptor)

shared_fit : AllByRecursion EntryFits shared_entries
unfolding shared_entries
shared_fit = entries_fit shared_entries refl

shared_supported : AllByRecursion EntryIsSupported shared_entries
unfolding shared_entries
shared_supported = entries_supported shared_entries refl

shared_sizes : AllByRecursion (λ e. length (entry_bytes e) ≤ 60) shared_entries
unfolding shared_entries entry_bytes two
shared_sizes = (omega arith, (omega arith, (omega arith, (omega arith, (omega arith, (omega arith, (omega arith, (omega arith, (omega arith, (omega arith, (omega arith, (omega arith, (omega arith, tt)))))))))))))

abbrev plain_entries : List Entry
plain_entries = own_entries ++ object_entries ++ entry.Utf8 (codes "<init>") ∷ entry.Utf8 (codes "()V") ∷ []

shared_valid : AllByRecursion (EntryIsValid shared_entries) shared_entries
unfolding shared_entries
shared_valid =
    AllByRecursion-append (EntryIsValid shared_entries)
    plain_entries
    (entry.NameAndType 5 6 ∷ entry.Method 4 7 ∷ method_texts)
    (entries_valid shared_entries plain_entries refl)
    (inr constructor_pair, ((refl, constructor_pair), entries_valid shared_entries method_texts refl))

-- ---- the pool

module _ (n : ℕ) (few : n ≤ 100) where
  all_fit : AllByRecursion EntryFits (made_entries n)
  unfolding made_entries
  all_fit =
      let good = λ (e : Entry) (g : IsGood (made_entries n) e). g.fits in
      AllByRecursion-append EntryFits (shared_entries ++ fs n) (gs n)
      (AllByRecursion-append EntryFits shared_entries (fs n) shared_fit (AllByRecursion-weaker (IsGood (made_entries n)) EntryFits good (fs n) (fs_good n few)))
      (AllByRecursion-weaker (IsGood (made_entries n)) EntryFits good (gs n) (gs_good n few))

  all_valid : AllByRecursion (EntryIsValid (made_entries n)) (made_entries n)
  unfolding made_entries
  all_valid =
      let good = λ (e : Entry) (g : IsGood (made_entries n) e). g.valid in
      AllByRecursion-append (EntryIsValid (made_entries n)) (shared_entries ++ fs n) (gs n)
      (AllByRecursion-append (EntryIsValid (made_entries n)) shared_entries (fs n)
      (AllByRecursion-weaker (EntryIsValid shared_entries) (EntryIsValid (made_entries n)) (valid_shared n) shared_entries shared_valid)
      (AllByRecursion-weaker (IsGood (made_entries n)) (EntryIsValid (made_entries n)) good (fs n) (fs_good n few)))
      (AllByRecursion-weaker (IsGood (made_entries n)) (EntryIsValid (made_entries n)) good (gs n) (gs_good n few))

  pub all_supported : AllByRecursion EntryIsSupported (made_entries n)
  unfolding made_entries
  all_supported =
      let good = λ (e : Entry) (g : IsGood (made_entries n) e). g.supported in
      AllByRecursion-append EntryIsSupported (shared_entries ++ fs n) (gs n)
      (AllByRecursion-append EntryIsSupported shared_entries (fs n) shared_supported (AllByRecursion-weaker (IsGood (made_entries n)) EntryIsSupported good (fs n) (fs_good n few)))
      (AllByRecursion-weaker (IsGood (made_entries n)) EntryIsSupported good (gs n) (gs_good n few))

  pub all_sizes : AllByRecursion (λ e. length (entry_bytes e) ≤ 60) (made_entries n)
  unfolding made_entries
  all_sizes =
      let good = λ (e : Entry) (g : IsGood (made_entries n) e). g.size in
      let Short = λ (e : Entry). length (entry_bytes e) ≤ 60 in
      AllByRecursion-append Short (shared_entries ++ fs n) (gs n)
      (AllByRecursion-append Short shared_entries (fs n) shared_sizes (AllByRecursion-weaker (IsGood (made_entries n)) Short good (fs n) (fs_good n few)))
      (AllByRecursion-weaker (IsGood (made_entries n)) Short good (gs n) (gs_good n few))

  slots : AreSlots true (made_entries n)
  unfolding made_entries shared_entries
  slots =
      let good = λ (e : Entry) (g : IsGood (made_entries n) e). g.one in
      slots_kept true (shared_entries ++ fs n) (gs n)
      (slots_kept true shared_entries (fs n) tt (AllByRecursion-weaker (IsGood (made_entries n)) TakesOne good (fs n) (fs_good n few)))
      (AllByRecursion-weaker (IsGood (made_entries n)) TakesOne good (gs n) (gs_good n few))

  pub pool_spelled : SpellsPool (pool_bytes (record { entries = made_entries n })) (record { entries = made_entries n })
  pool_spelled = record {
    bytes_are = refl;
    fits = record { count = omega (arith, entries_length n, few); each = all_fit };
    slots = slots;
    entries = all_valid;
  }
