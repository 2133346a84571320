-- The entries of FreeMe.free mean what they should in the pool that they are put into, and some bytes spell that pool.
use Rattle.std.proofs.Common.{◌≡◌, ℕ, ◌+◌, ◌<◌, ◌^◌, Bool, true, ◌&&◌, inl, inr, List, [], ◌∷◌, ◌++◌, length, length-append, append_assoc, codes, ltb, Option, Some, None, refl, sym, ap, subst, ◌∙◌, arith}
use Rattle.std.specs.List.{AllByRecursion, list_all}
use Rattle.std.specs.Str.{bytes_eq}
use Rattle.std.proofs.lemmas.Bool.{and_parts, false≢true, ltb-true}
use Rattle.std.proofs.lemmas.List.{append-nil}
use Rattle.std.proofs.lemmas.List.Quantifiers.{position-Some}
use Rattle.std.proofs.lemmas.Slice.Eq.{bytes_eq-Decides}
use Rattle.std.proofs.Math.Seq.{get_or-append_seam}
use Rattle.fm_base.specs.Texts.{IsModifiedUtf8}
use Rattle.fm_base.proofs.ListFacts.{AllByRecursion-append, AllByRecursion-weaker}
use Rattle.fm_base.proofs.OptionFacts.{IsSomeAnd-from_some, IsSome-from_some}
use Rattle.fm_base.proofs.TextsLemmas.{IsModifiedUtf8-plain}
use Rattle.fm_code.specs.ClassBytes.{pool_bytes}
use Rattle.fm_code.specs.ConstantPool.{entry_at, utf8_at, class_name_at, named_and_typed_at, method_ref_at, EntryIsValid, IsMethodPair, SpellsPool}
use Rattle.fm_code.specs.Fits.{EntryFits}
use Rattle.fm_code.specs.FreeEntries.{Content, of_utf8, of_class, of_name_and_type, of_method, has_content, is_some_text, is_some_pair, index_of, Sought, placed, sought_class_text, sought_class, sought_name, sought_descriptor, sought_pair, sought_free, with_free, free_class, free_name, free_descriptor, free_method}
use Rattle.fm_code.specs.Names.{object, IsFieldType, IsMethodDescriptor, FieldType}
use Rattle.fm_code.specs.Profile.{EntryIsSupported}
use Rattle.fm_code.specs.declared.constant_pool.Entry.{Entry}
use Rattle.fm_code.specs.declared.constant_pool.Entry.TheVariants as entry
use Rattle.fm_code.specs.declared.constant_pool.Pool.{Pool}
use Rattle.fm_pool.proofs.GrownPool.{text_kept, class_kept, pair_kept, valid_kept, text_within, class_within, pair_within, class_from, pair_from, method_from, entry_kept, TakesOne, slots_kept}
use Rattle.fm_pool.proofs.FreeEntriesLemmas.{class_text_is, class_is, name_is, descriptor_is, pair_is, method_is}

-- ---- what an entry means

-- an entry has the content in a pool
abbrev pub Has : List Entry → Content → Entry → Type 0
Has all (of_utf8 text) (entry.Utf8 name) = name ≡ text
Has all (of_class text) (entry.Class name) = utf8_at all name ≡ Some text
Has all (of_name_and_type n d) (entry.NameAndType name descriptor) = (utf8_at all name ≡ Some n) × (utf8_at all descriptor ≡ Some d)
Has all (of_method m) (entry.Method class member) = (class_name_at all class ≡ Some m.class) × (named_and_typed_at all member ≡ Some (m.name, m.descriptor))
Has all content e = ⊥

has_kept : (all more : List Entry) (content : Content) (e : Entry) → Has all content e → Has (all ++ more) content e
has_kept all more (of_utf8 text) (entry.Utf8 name) h = h
has_kept all more (of_class text) (entry.Class name) h = text_kept all more name text h
has_kept all more (of_name_and_type n d) (entry.NameAndType name descriptor) h = (text_kept all more name n h.0, text_kept all more descriptor d h.1)
has_kept all more (of_method m) (entry.Method class member) h = (class_kept all more class m.class h.0, pair_kept all more member (m.name, m.descriptor) h.1)
has_kept all more content e h = absurd h

text_is : (o : Option (List ℕ)) (text : List ℕ) → is_some_text o text ≡ true → o ≡ Some text
text_is (Some found) text t = ap (λ (x : List ℕ). Some x) ((bytes_eq-Decides found text).0 t)
text_is None text t = absurd (false≢true t)

pair_is_some : (o : Option (List ℕ × List ℕ)) (name descriptor : List ℕ) → is_some_pair o name descriptor ≡ true → o ≡ Some (name, descriptor)
pair_is_some (Some pair) name descriptor t =
    let both = and_parts (bytes_eq pair.0 name) (bytes_eq pair.1 descriptor) t in
    let first : pair.0 ≡ name = (bytes_eq-Decides pair.0 name).0 both.0 in
    let second : pair.1 ≡ descriptor = (bytes_eq-Decides pair.1 descriptor).0 both.1 in
    λ i. Some (first i, second i)
pair_is_some None name descriptor t = absurd (false≢true t)

-- the test finds such an entry
tested : (all : List Entry) (content : Content) (e : Entry) → has_content all content e ≡ true → Has all content e
tested all (of_utf8 text) (entry.Utf8 name) t = (bytes_eq-Decides name text).0 t
tested all (of_class text) (entry.Class name) t = text_is (utf8_at all name) text t
tested all (of_name_and_type n d) (entry.NameAndType name descriptor) t =
    let both = and_parts (is_some_text (utf8_at all name) n) (is_some_text (utf8_at all descriptor) d) t in (text_is (utf8_at all name) n both.0, text_is (utf8_at all descriptor) d both.1)
tested all (of_method m) (entry.Method class member) t =
    let both = and_parts (is_some_text (class_name_at all class) m.class) (is_some_pair (named_and_typed_at all member) m.name m.descriptor) t in
    (text_is (class_name_at all class) m.class both.0, pair_is_some (named_and_typed_at all member) m.name m.descriptor both.1)
tested all content e t = absurd (false≢true t)

-- ---- what is at an index

abbrev pub Stands : List Entry → Content → ℕ → Type 0
Stands all (of_utf8 text) i = utf8_at all i ≡ Some text
Stands all (of_class text) i = class_name_at all i ≡ Some text
Stands all (of_name_and_type n d) i = named_and_typed_at all i ≡ Some (n, d)
Stands all (of_method m) i = method_ref_at all i ≡ Some m

stands_by : (all : List Entry) (content : Content) (i : ℕ) (e : Entry) → entry_at all i ≡ e → Has all content e → Stands all content i
stands_by all (of_utf8 text) i (entry.Utf8 name) is h = rw is (ap (λ (x : List ℕ). Some x) h)
stands_by all (of_class text) i (entry.Class name) is h = class_from all i name text is h
stands_by all (of_name_and_type n d) i (entry.NameAndType name descriptor) is h = pair_from all i name descriptor n d is h.0 h.1
stands_by all (of_method m) i (entry.Method class member) is h = method_from all i class member m is h.0 h.1
stands_by all content i e is h = absurd h

no_second : (all : List Entry) (content : Content) → Has all content entry.Second → ⊥
no_second all (of_utf8 text) h = h
no_second all (of_class text) h = h
no_second all (of_name_and_type n d) h = h
no_second all (of_method m) h = h

-- what is found is there, also where more follows
found_stands : (entries more : List Entry) (content : Content) (i : ℕ) → index_of entries content ≡ Some i → Stands (entries ++ more) content i
found_stands entries more content i is =
    let p = position-Some (has_content entries content) entries i entry.Second is in
    let e = entry_at entries i in
    let has : Has entries content e = tested entries content e p.1 in
    let other : entry.Second ≡ e → ⊥ = λ second. no_second entries content (subst (Has entries content) (sym second) has) in
    stands_by (entries ++ more) content i e (entry_kept entries more i e refl other) (has_kept entries more content e has)

-- ---- what is added

-- an entry of a method of FreeMe, in a pool
abbrev pub IsAdded : List Entry → Entry → Type 0
IsAdded all (entry.Utf8 name) = EntryFits (entry.Utf8 name) × IsModifiedUtf8 name
IsAdded all (entry.Class name) = utf8_at all name ≡ Some free_class
IsAdded all (entry.NameAndType name descriptor) =
    (pair : List ℕ × List ℕ) × (utf8_at all name ≡ Some pair.0) × (utf8_at all descriptor ≡ Some pair.1) × IsMethodPair pair
IsAdded all (entry.Method class member) =
    (pair : List ℕ × List ℕ) × (class_name_at all class ≡ Some free_class) × (named_and_typed_at all member ≡ Some pair) × IsMethodPair pair
IsAdded all e = ⊥

added_kept : (all more : List Entry) (e : Entry) → IsAdded all e → IsAdded (all ++ more) e
added_kept all more (entry.Utf8 name) h = h
added_kept all more (entry.Class name) h = text_kept all more name free_class h
added_kept all more (entry.NameAndType name descriptor) h = (h.0, text_kept all more name h.0.0 h.1, text_kept all more descriptor h.0.1 h.2, h.3)
added_kept all more (entry.Method class member) h = (h.0, class_kept all more class free_class h.1, pair_kept all more member h.0 h.2, h.3)
added_kept all more e h = absurd h

takes_one : (all : List Entry) (e : Entry) → IsAdded all e → TakesOne e
takes_one all (entry.Utf8 name) h = tt
takes_one all (entry.Class name) h = tt
takes_one all (entry.NameAndType name descriptor) h = tt
takes_one all (entry.Method class member) h = tt
takes_one all e h = absurd h

fits : (all : List Entry) → length all < 2 ^ 16 → (e : Entry) → IsAdded all e → EntryFits e
fits all few (entry.Utf8 name) h = h.0
fits all few (entry.Class name) h = omega (arith, text_within all name free_class h)
fits all few (entry.NameAndType name descriptor) h = (omega (arith, text_within all name h.0.0 h.1), omega (arith, text_within all descriptor h.0.1 h.2))
fits all few (entry.Method class member) h = (omega (arith, class_within all class free_class h.1), omega (arith, pair_within all member h.0 h.2))
fits all few e h = absurd h

supported : (all : List Entry) (e : Entry) → IsAdded all e → EntryIsSupported e
supported all (entry.MethodHandle kind member) h = absurd h
supported all (entry.MethodType descriptor) h = absurd h
supported all (entry.InvokeDynamic bootstrap member) h = absurd h
supported all e h = refl

abbrev pub object_type : FieldType
object_type = record { dimensions = 0; base = object (codes "java/lang/Object") }

pub is_object : IsFieldType object_type
is_object = record { dimensions = omega arith; base = refl }

pub is_descriptor : IsMethodDescriptor 0 free_descriptor
is_descriptor = (record { parameters = object_type ∷ []; result = None }, (record { parameters = (is_object, tt); result = tt }, (refl, omega arith)))

valid : (all : List Entry) (e : Entry) → IsAdded all e → EntryIsValid all e
valid all (entry.Utf8 name) h = h.1
valid all (entry.Class name) h = IsSomeAnd-from_some (utf8_at all name) _ free_class h (inl refl)
valid all (entry.NameAndType name descriptor) h =
    IsSomeAnd-from_some (utf8_at all name) _ h.0.0 h.1 (IsSomeAnd-from_some (utf8_at all descriptor) _ h.0.1 h.2 (inr h.3))
valid all (entry.Method class member) h =
    (IsSome-from_some (class_name_at all class) free_class h.1, IsSomeAnd-from_some (named_and_typed_at all member) _ h.0 h.2 h.3)
valid all e h = absurd h

-- some bytes spell the pool with them
pub spelled : (entries more : List Entry) → SpellsPool (pool_bytes (record { entries = entries })) (record { entries = entries }) → AllByRecursion (IsAdded (entries ++ more)) more → length (entries ++ more) < 2 ^ 16
    → SpellsPool (pool_bytes (record { entries = entries ++ more })) (record { entries = entries ++ more })
spelled entries more spells added few =
    let all = entries ++ more in
    record {
      bytes_are = refl;
      fits = record { count = few; each = AllByRecursion-append EntryFits entries more spells.fits.each (AllByRecursion-weaker (IsAdded all) EntryFits (fits all few) more added) };
      slots = slots_kept true entries more spells.slots (AllByRecursion-weaker (IsAdded all) TakesOne (takes_one all) more added);
      entries =
          AllByRecursion-append (EntryIsValid all) entries more (AllByRecursion-weaker (EntryIsValid entries) (EntryIsValid all) (valid_kept entries more) entries spells.entries)
          (AllByRecursion-weaker (IsAdded all) (EntryIsValid all) (valid all) more added);
    }

-- ---- one entry after the other

-- an entry was placed: it is at its index, and all that is missing is of methods of FreeMe
pub record Step (entries before : List Entry) (content : Content) (s : Sought) : Type 0 where
  pub more : List Entry
  pub goes_on : s.missing ≡ before ++ more
  pub stands : Stands (entries ++ s.missing) content s.index
  pub added : AllByRecursion (IsAdded (entries ++ s.missing)) s.missing

all_kept : (entries before more : List Entry) → AllByRecursion (IsAdded (entries ++ before)) before → AllByRecursion (IsAdded (entries ++ (before ++ more))) before
all_kept entries before more added =
    subst (λ (all : List Entry). AllByRecursion (IsAdded all) before) (append_assoc entries before more) (AllByRecursion-weaker (IsAdded (entries ++ before)) (IsAdded ((entries ++ before) ++ more)) (added_kept (entries ++ before) more) before added)

pub step : (entries before : List Entry) (content : Content) (e : Entry) → AllByRecursion (IsAdded (entries ++ before)) before → Has (entries ++ before) content e → IsAdded (entries ++ before) e
    → Step entries before content (placed (length entries) before e (index_of entries content))
step entries before content e added has is_added = by (index_of entries content) refl where
  by : (found : Option ℕ) → index_of entries content ≡ found → Step entries before content (placed (length entries) before e found)
  by (Some i) is = record { more = []; goes_on = sym (append-nil before); stands = found_stands entries before content i is; added = added }
  by None is =
      let all = entries ++ (before ++ e ∷ []) in
      let apart : (entries ++ before) ++ e ∷ [] ≡ all = append_assoc entries before (e ∷ []) in
      let at_end : entry_at ((entries ++ before) ++ e ∷ []) (length (entries ++ before)) ≡ e = get_or-append_seam (entries ++ before) e [] entry.Second in
      let index : length (entries ++ before) ≡ length entries + length before = length-append entries before in
      let there : entry_at all (length entries + length before) ≡ e = subst (λ (i : ℕ). entry_at all i ≡ e) index (subst (λ (es : List Entry). entry_at es (length (entries ++ before)) ≡ e) apart at_end) in
      record {
        more = e ∷ [];
        goes_on = refl;
        stands = stands_by all content (length entries + length before) e there (subst (λ (es : List Entry). Has es content e) apart (has_kept (entries ++ before) (e ∷ []) content e has));
        added = AllByRecursion-append (IsAdded all) before (e ∷ []) (all_kept entries before (e ∷ []) added) (subst (λ (es : List Entry). IsAdded es e) apart (added_kept (entries ++ before) (e ∷ []) e is_added), tt);
      }

-- ---- the three texts

abbrev pub is_plain : ℕ → Bool
is_plain b = ltb 0 b && ltb b 128

all_plain : (bytes : List ℕ) → list_all is_plain bytes ≡ true → AllByRecursion (λ b. (0 < b) × (b < 128)) bytes
all_plain [] t = tt
all_plain (b ∷ bytes) t =
    let both = and_parts (is_plain b) (list_all is_plain bytes) t in
    let bounds = and_parts (ltb 0 b) (ltb b 128) both.0 in
    ((ltb-true 0 b bounds.0, ltb-true b 128 bounds.1), all_plain bytes both.1)

-- a short text in ASCII may be added
pub text_added : (all : List Entry) (text : List ℕ) → list_all is_plain text ≡ true → length text < 2 ^ 16 → IsAdded all (entry.Utf8 text)
text_added all text plain few =
    let each = all_plain text plain in ((few, AllByRecursion-weaker (λ b. (0 < b) × (b < 128)) (λ b. b < 256) (λ b h. omega (arith, h.1)) text each), IsModifiedUtf8-plain text each)

-- ---- the six

-- the class, the descriptor and the method are there at the end, too
pub record Steps (entries : List Entry) : Type 0 where
  class_text : Step entries [] (of_utf8 free_class) (sought_class_text entries)
  class : Step entries (sought_class_text entries).missing (of_class free_class) (sought_class entries)
  name : Step entries (sought_class entries).missing (of_utf8 free_name) (sought_name entries)
  descriptor : Step entries (sought_name entries).missing (of_utf8 free_descriptor) (sought_descriptor entries)
  pair : Step entries (sought_descriptor entries).missing (of_name_and_type free_name free_descriptor) (sought_pair entries)
  pub method : Step entries (sought_pair entries).missing (of_method free_method) (sought_free entries)
  pub class_left : class_name_at (with_free entries) (sought_class entries).index ≡ Some free_class
  pub descriptor_left : utf8_at (with_free entries) (sought_descriptor entries).index ≡ Some free_descriptor

-- what was there before a step is there after it
pub class_carried : (entries before : List Entry) (content : Content) (s : Sought) (i : ℕ) → Step entries before content s → class_name_at (entries ++ before) i ≡ Some free_class → class_name_at (entries ++ s.missing) i ≡ Some free_class
class_carried entries before content s i w h =
    subst (λ (all : List Entry). class_name_at all i ≡ Some free_class) (append_assoc entries before w.more ∙ ap (λ (m : List Entry). entries ++ m) (sym w.goes_on)) (class_kept (entries ++ before) w.more i free_class h)

pub text_carried : (entries before : List Entry) (content : Content) (s : Sought) (i : ℕ) (text : List ℕ) → Step entries before content s
    → utf8_at (entries ++ before) i ≡ Some text → utf8_at (entries ++ s.missing) i ≡ Some text
text_carried entries before content s i text w h =
    subst (λ (all : List Entry). utf8_at all i ≡ Some text) (append_assoc entries before w.more ∙ ap (λ (m : List Entry). entries ++ m) (sym w.goes_on)) (text_kept (entries ++ before) w.more i text h)

-- the name and the descriptor of FreeMe.free are those of a method
free_pair : IsMethodPair (free_name, free_descriptor)
free_pair = (refl, is_descriptor)

pub steps : (entries : List Entry) → Steps entries
steps entries =
    let s1 : Step entries [] (of_utf8 free_class) (sought_class_text entries) =
    subst (Step entries [] (of_utf8 free_class)) (sym (class_text_is entries)) (step entries [] (of_utf8 free_class) (entry.Utf8 free_class) tt refl (text_added (entries ++ []) free_class refl (omega arith))) in
    let m1 = (sought_class_text entries).missing in
    let e2 = entry.Class (sought_class_text entries).index in
    let s2 : Step entries m1 (of_class free_class) (sought_class entries) =
    subst (Step entries m1 (of_class free_class)) (sym (class_is entries (sought_class_text entries) refl)) (step entries m1 (of_class free_class) e2 s1.added s1.stands s1.stands) in
    let m2 = (sought_class entries).missing in
    let s3 : Step entries m2 (of_utf8 free_name) (sought_name entries) =
    subst (Step entries m2 (of_utf8 free_name)) (sym (name_is entries (sought_class entries) refl)) (step entries m2 (of_utf8 free_name) (entry.Utf8 free_name) s2.added refl (text_added (entries ++ m2) free_name refl (omega arith))) in
    let m3 = (sought_name entries).missing in
    let s4 : Step entries m3 (of_utf8 free_descriptor) (sought_descriptor entries) =
    subst (Step entries m3 (of_utf8 free_descriptor)) (sym (descriptor_is entries (sought_name entries) refl))
    (step entries m3 (of_utf8 free_descriptor) (entry.Utf8 free_descriptor) s3.added refl (text_added (entries ++ m3) free_descriptor refl (omega arith))) in
    let m4 = (sought_descriptor entries).missing in
    let e5 = entry.NameAndType (sought_name entries).index (sought_descriptor entries).index in
    let both : Has (entries ++ m4) (of_name_and_type free_name free_descriptor) e5 = (text_carried entries m3 (of_utf8 free_descriptor) (sought_descriptor entries) (sought_name entries).index free_name s4 s3.stands, s4.stands) in
    let s5 : Step entries m4 (of_name_and_type free_name free_descriptor) (sought_pair entries) =
    subst (Step entries m4 (of_name_and_type free_name free_descriptor)) (sym (pair_is entries (sought_name entries) (sought_descriptor entries) refl refl))
    (step entries m4 (of_name_and_type free_name free_descriptor) e5 s4.added both ((free_name, free_descriptor), both.0, both.1, free_pair)) in
    let m5 = (sought_pair entries).missing in
    let e6 = entry.Method (sought_class entries).index (sought_pair entries).index in
    let i = (sought_class entries).index in
    let class3 = class_carried entries m2 (of_utf8 free_name) (sought_name entries) i s3 s2.stands in
    let class4 = class_carried entries m3 (of_utf8 free_descriptor) (sought_descriptor entries) i s4 class3 in
    let class5 = class_carried entries m4 (of_name_and_type free_name free_descriptor) (sought_pair entries) i s5 class4 in
    let named : Has (entries ++ m5) (of_method free_method) e6 = (class5, s5.stands) in
    let s6 : Step entries m5 (of_method free_method) (sought_free entries) =
    subst (Step entries m5 (of_method free_method)) (sym (method_is entries (sought_class entries) (sought_pair entries) refl refl)) (step entries m5 (of_method free_method) e6 s5.added named ((free_name, free_descriptor), named.0, named.1, free_pair)) in
    let j = (sought_descriptor entries).index in
    let descriptor5 = text_carried entries m4 (of_name_and_type free_name free_descriptor) (sought_pair entries) j free_descriptor s5 s4.stands in
    record {
      class_text = s1;
      class = s2;
      name = s3;
      descriptor = s4;
      pair = s5;
      method = s6;
      class_left = class_carried entries m5 (of_method free_method) (sought_free entries) i s6 class5;
      descriptor_left = text_carried entries m5 (of_method free_method) (sought_free entries) j free_descriptor s6 descriptor5;
    }

-- the pool that the code makes
made_entries : (entries added missing : List Entry) (index : ℕ) → sought_free entries ≡ record { index = index; missing = missing } → added ≡ entries ++ missing → added ≡ with_free entries
made_entries entries added missing index is e = e ∙ ap (λ (s : Sought). entries ++ s.missing) (sym is)

-- the index is that of FreeMe.free
pub free_named : (entries added missing : List Entry) (index : ℕ) → sought_free entries ≡ record { index = index; missing = missing } → added ≡ entries ++ missing → method_ref_at added index ≡ Some free_method
free_named entries added missing index is e =
    subst (λ (all : List Entry). method_ref_at all index ≡ Some free_method) (sym (made_entries entries added missing index is e)) (subst (λ (i : ℕ). method_ref_at (with_free entries) i ≡ Some free_method) (ap (λ (s : Sought). s.index) is) (steps entries).method.stands)

-- each entry is supported with what is added, where it is without
pub all_supported : (entries missing : List Entry) → AllByRecursion (IsAdded (entries ++ missing)) missing → AllByRecursion EntryIsSupported entries
    → AllByRecursion EntryIsSupported (entries ++ missing)
all_supported entries missing added own =
    AllByRecursion-append EntryIsSupported entries missing own
    (AllByRecursion-weaker (IsAdded (entries ++ missing)) EntryIsSupported (supported (entries ++ missing)) missing added)

-- so it is with those of FreeMe.free
pub free_supported : (entries : List Entry) → AllByRecursion EntryIsSupported entries → AllByRecursion EntryIsSupported (with_free entries)
free_supported entries own = all_supported entries (sought_free entries).missing (steps entries).method.added own

pub free_spelled : (pool made : Pool) (missing : List Entry) (index : ℕ) → SpellsPool (pool_bytes pool) pool → length (with_free pool.entries) < 2 ^ 16 → sought_free pool.entries ≡ record { index = index; missing = missing } → made.entries ≡ pool.entries ++ missing
    → SpellsPool (pool_bytes made) made
free_spelled pool made missing index spells few is e =
    subst (λ (all : List Entry). SpellsPool (pool_bytes (record { entries = all })) (record { entries = all })) (sym (made_entries pool.entries made.entries missing index is e))
    (spelled pool.entries (sought_free pool.entries).missing spells (steps pool.entries).method.added few)
