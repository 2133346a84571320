-- What a file's entries name, by the numbers of its texts.
use Rattle.std.proofs.Common.{◌≡◌, refl, sym, ap, ℕ, List, [], Option, Some, None, option_map, option_and_then}
use Rattle.std.proofs.lemmas.Option.{get_or_from_slice_get}
use Rattle.fm_code.specs.ConstantPool.{entry_at, utf8_at, class_name_at, member_named, named_and_typed_at, MemberName}
use Rattle.fm_code.specs.declared.constant_pool.Entry.{Entry}
use Rattle.fm_code.specs.declared.constant_pool.Entry.TheVariants as entry
use Rattle.fm_link_names.proofs.NameLemmas.{IsPairOf, pair_of}
use Rattle.fm_link_names.specs.declared.given.GivenFile.{GivenFile}
use Rattle.fm_link_names.specs.declared.given.MemberTexts.{MemberTexts}
use Rattle.fm_link_names.specs.inner.Files.{class_text_in, member_in, member_named_in, named_and_typed_in, named_class_in, text_in}
use Rattle.fm_link_names.specs.inner.Numbering.{IsNumberOf, text_of}
use Rattle.fm_world.specs.Uses.{named_class, named_member}
use Rattle.fm_link_refusals.specs.inner.GivenClasses.{class_in, IsNumbered}
use Rattle.fm_link_refusals.specs.inner.Linking.{IsMemberOf}

-- ---- numbers

pub no_number : (texts : List (List ℕ)) (o : Option (List ℕ)) → IsNumberOf texts o None → o ≡ None
no_number texts None is = refl
no_number texts (Some text) is = absurd is

pub number_means : (texts : List (List ℕ)) (o : Option (List ℕ)) (n : ℕ) → IsNumberOf texts o (Some n) → o ≡ Some (text_of texts n)
number_means texts None n is = absurd is
number_means texts (Some text) n is = ap (λ (t : List ℕ). Some t) (sym (get_or_from_slice_get texts n text [] is))

-- ---- members

-- the same where a member is named
abbrev pub NamesMember : List (List ℕ) → Option MemberName → Option MemberTexts → Type 0
NamesMember texts None None = Unit {0}
NamesMember texts None (Some t) = ⊥
NamesMember texts (Some m) None = ⊥
NamesMember texts (Some m) (Some t) = IsMemberOf texts m t

member_joined : (texts : List (List ℕ)) (c : Option (List ℕ)) (k : Option ℕ) (p : Option (List ℕ × List ℕ)) (q : Option (ℕ × ℕ))
    → IsNumberOf texts c k → IsPairOf texts p q
    → NamesMember texts
    (option_and_then (λ c. option_and_then (λ pair. let m : MemberName = record { class = c; name = pair.0; descriptor = pair.1 } in Some m) p) c)
    (option_and_then (λ k. option_and_then (λ pair. let t : MemberTexts = record { class = k; name = pair.0; descriptor = pair.1 } in Some t) q) k)
member_joined texts None None p q first second = tt
member_joined texts None (Some k) p q first second = absurd first
member_joined texts (Some c) None p q first second = absurd first
member_joined texts (Some c) (Some k) None None first second = tt
member_joined texts (Some c) (Some k) None (Some q) first second = absurd second
member_joined texts (Some c) (Some k) (Some p) None first second = absurd second
member_joined texts (Some c) (Some k) (Some p) (Some q) first second = record { class = first; name = second.0; descriptor = second.1 }

-- ---- entries

pub class_numbered : (texts : List (List ℕ)) (file : GivenFile) → IsNumbered texts file → (i : ℕ)
    → IsNumberOf texts (class_name_at (class_in file).pool.entries i) (class_text_in file i)
class_numbered texts file is i = go (entry_at (class_in file).pool.entries i) refl where
  go : (e : Entry) → entry_at (class_in file).pool.entries i ≡ e
      → IsNumberOf texts (class_name_at (class_in file).pool.entries i) (class_text_in file i)
  go (entry.Class name) here = rw here (is.texts_are name)
  go e here = rw here tt

pair_numbered : (texts : List (List ℕ)) (file : GivenFile) → IsNumbered texts file → (i : ℕ)
    → IsPairOf texts (named_and_typed_at (class_in file).pool.entries i) (named_and_typed_in file i)
pair_numbered texts file is i = go (entry_at (class_in file).pool.entries i) refl where
  go : (e : Entry) → entry_at (class_in file).pool.entries i ≡ e
      → IsPairOf texts (named_and_typed_at (class_in file).pool.entries i) (named_and_typed_in file i)
  go (entry.NameAndType name descriptor) here =
      rw here (pair_of texts (utf8_at (class_in file).pool.entries name) (utf8_at (class_in file).pool.entries descriptor) (text_in file name)
      (text_in file descriptor)
      (is.texts_are name) (is.texts_are descriptor))
  go e here = rw here tt

member_parts : (texts : List (List ℕ)) (file : GivenFile) → IsNumbered texts file → (class member : ℕ)
    → NamesMember texts (member_named (class_in file).pool.entries class member) (member_named_in file class member)
member_parts texts file is class member =
    member_joined texts (class_name_at (class_in file).pool.entries class) (class_text_in file class)
    (named_and_typed_at (class_in file).pool.entries member)
    (named_and_typed_in file member) (class_numbered texts file is class) (pair_numbered texts file is member)

pub member_numbered : (texts : List (List ℕ)) (file : GivenFile) → IsNumbered texts file → (i : ℕ)
    → NamesMember texts (named_member (class_in file).pool.entries i) (member_in file i)
member_numbered texts file is i = go (entry_at (class_in file).pool.entries i) refl where
  go : (e : Entry) → entry_at (class_in file).pool.entries i ≡ e → NamesMember texts (named_member (class_in file).pool.entries i) (member_in file i)
  go (entry.Field class member) here = rw (here, here) (member_parts texts file is class member)
  go (entry.Method class member) here = rw (here, here) (member_parts texts file is class member)
  go (entry.InterfaceMethod class member) here = rw (here, here) (member_parts texts file is class member)
  go e here = rw here tt

class_of_member : (texts : List (List ℕ)) (m : Option MemberName) (t : Option MemberTexts) → NamesMember texts m t
    → IsNumberOf texts (option_map (λ (x : MemberName). x.class) m) (option_map (λ (x : MemberTexts). x.class) t)
class_of_member texts None None is = tt
class_of_member texts None (Some t) is = absurd is
class_of_member texts (Some m) None is = absurd is
class_of_member texts (Some m) (Some t) is = is.class

pub name_numbered : (texts : List (List ℕ)) (file : GivenFile) → IsNumbered texts file → (i : ℕ)
    → IsNumberOf texts (named_class (class_in file).pool.entries i) (named_class_in file i)
name_numbered texts file is i = go (entry_at (class_in file).pool.entries i) refl where
  of_parts : (class member : ℕ)
      → IsNumberOf texts (option_map (λ (x : MemberName). x.class) (member_named (class_in file).pool.entries class member))
      (option_map (λ (x : MemberTexts). x.class) (member_named_in file class member))
  of_parts class member =
      class_of_member texts (member_named (class_in file).pool.entries class member) (member_named_in file class member)
      (member_parts texts file is class member)

  go : (e : Entry) → entry_at (class_in file).pool.entries i ≡ e
      → IsNumberOf texts (named_class (class_in file).pool.entries i) (named_class_in file i)
  go (entry.Class name) here = rw (here, here) (is.texts_are name)
  go (entry.Field class member) here = rw (here, here, here) (of_parts class member)
  go (entry.Method class member) here = rw (here, here, here) (of_parts class member)
  go (entry.InterfaceMethod class member) here = rw (here, here, here) (of_parts class member)
  go e here = rw (here, here) tt
