-- What is at the indices of a pool is there too where more entries follow.
use Rattle.std.proofs.Common.{◌≡◌, ℕ, ◌≤◌, ◌<◌, Bool, true, false, ◌⊎◌, inl, inr, List, [], ◌∷◌, ◌++◌, length, Option, Some, None, IsSome, IsSomeAnd, refl, sym, ap, ◌∙◌}
use Rattle.std.specs.Prelude.{option_and_then}
use Rattle.std.specs.List.{AllByRecursion}
use Rattle.std.proofs.lemmas.Bool.{cases_lt}
use Rattle.std.proofs.lemmas.List.{get_or_past, get_or_append_left}
use Rattle.std.proofs.lemmas.Option.{same_Some}
use Rattle.fm_base.proofs.OptionFacts.{Some-from_is_some, IsSome-from_some, Some-from_some_and, IsSomeAnd-from_some}
use Rattle.fm_code.specs.ConstantPool.{takes_two, AreSlots, entry_at, utf8_at, class_name_at, named_and_typed_at, method_ref_at, MemberName, EntryIsValid, NamesMember}
use Rattle.fm_code.specs.declared.constant_pool.Entry.{Entry}
use Rattle.fm_code.specs.declared.constant_pool.Entry.TheVariants as entry

-- ---- the entries behind look-ups

abbrev some_text : List ℕ → Option (List ℕ)
some_text text = Some text

no_text : (text : List ℕ) → None ≡ some_text text → ⊥
no_text text e = cc

pub utf8_entry : (entries : List Entry) (i : ℕ) (text : List ℕ) → utf8_at entries i ≡ Some text → entry_at entries i ≡ entry.Utf8 text
utf8_entry entries i text h = by (entry_at entries i) refl where
  by : (e : Entry) → entry_at entries i ≡ e → e ≡ entry.Utf8 text
  by (entry.Utf8 name) is = let same : some_text name ≡ some_text text = rw is at h in cc
  by e is = absurd (no_text text (rw is at h))

pub class_entry : (entries : List Entry) (i : ℕ) (text : List ℕ) → class_name_at entries i ≡ Some text → (name : ℕ) × (entry_at entries i ≡ entry.Class name) × (utf8_at entries name ≡ Some text)
class_entry entries i text h = by (entry_at entries i) refl where
  by : (e : Entry) → entry_at entries i ≡ e → (name : ℕ) × (entry_at entries i ≡ entry.Class name) × (utf8_at entries name ≡ Some text)
  by (entry.Class name) is = (name, is, rw is at h)
  by e is = absurd (no_text text (rw is at h))

abbrev some_pair : List ℕ × List ℕ → Option (List ℕ × List ℕ)
some_pair pair = Some pair

no_pair : (pair : List ℕ × List ℕ) → None ≡ some_pair pair → ⊥
no_pair pair e = cc

both_texts : (o p : Option (List ℕ)) (pair : List ℕ × List ℕ) → option_and_then (λ n. option_and_then (λ d. Some (n, d)) p) o ≡ Some pair → (o ≡ Some pair.0) × (p ≡ Some pair.1)
both_texts (Some n) (Some d) pair e = let same : (n, d) ≡ pair = cc in (ap (λ (p : List ℕ × List ℕ). some_text p.0) same, ap (λ (p : List ℕ × List ℕ). some_text p.1) same)
both_texts (Some n) None pair e = absurd (no_pair pair e)
both_texts None p pair e = absurd (no_pair pair e)

pub pair_entry : (entries : List Entry) (i : ℕ) (pair : List ℕ × List ℕ) → named_and_typed_at entries i ≡ Some pair
    → (name : ℕ) × (descriptor : ℕ) × (entry_at entries i ≡ entry.NameAndType name descriptor) × (utf8_at entries name ≡ Some pair.0) × (utf8_at entries descriptor ≡ Some pair.1)
pair_entry entries i pair h = by (entry_at entries i) refl where
  by : (e : Entry) → entry_at entries i ≡ e → (name : ℕ) × (descriptor : ℕ) × (entry_at entries i ≡ entry.NameAndType name descriptor) × (utf8_at entries name ≡ Some pair.0) × (utf8_at entries descriptor ≡ Some pair.1)
  by (entry.NameAndType name descriptor) is = let texts = both_texts (utf8_at entries name) (utf8_at entries descriptor) pair (rw is at h) in (name, descriptor, is, texts.0, texts.1)
  by e is = absurd (no_pair pair (rw is at h))

-- ---- look-ups by entries

pub class_from : (entries : List Entry) (i name : ℕ) (text : List ℕ) → entry_at entries i ≡ entry.Class name → utf8_at entries name ≡ Some text → class_name_at entries i ≡ Some text
class_from entries i name text is h = rw is h

pub pair_from : (entries : List Entry) (i name descriptor : ℕ) (n d : List ℕ) → entry_at entries i ≡ entry.NameAndType name descriptor → utf8_at entries name ≡ Some n → utf8_at entries descriptor ≡ Some d → named_and_typed_at entries i ≡ Some (n, d)
pair_from entries i name descriptor n d is h k = rw (is, h, k) refl

pub method_from : (entries : List Entry) (i class member : ℕ) (m : MemberName) → entry_at entries i ≡ entry.Method class member → class_name_at entries class ≡ Some m.class → named_and_typed_at entries member ≡ Some (m.name, m.descriptor)
    → method_ref_at entries i ≡ Some m
method_from entries i class member m is h k = rw (is, h, k) refl

-- ---- the entry behind a method

abbrev some_method : MemberName → Option MemberName
some_method m = Some m

no_method : (m : MemberName) → None ≡ some_method m → ⊥
no_method m e = cc

abbrev named_by : Option (List ℕ × List ℕ) → List ℕ → Option MemberName
named_by pair class = option_and_then (λ p. some_method (record { class = class; name = p.0; descriptor = p.1 })) pair

member_parts : (class : Option (List ℕ)) (pair : Option (List ℕ × List ℕ)) (m : MemberName) → option_and_then (named_by pair) class ≡ some_method m
    → (class ≡ Some m.class) × (pair ≡ Some (m.name, m.descriptor))
member_parts None pair m h = absurd (no_method m h)
member_parts (Some class) None m h = absurd (no_method m h)
member_parts (Some class) (Some (name, descriptor)) m h =
    let same = same_Some (record { class = class; name = name; descriptor = descriptor }) m h in
    (ap (λ (n : MemberName). Some n.class) same, ap (λ (n : MemberName). Some (n.name, n.descriptor)) same)

-- what it leads to
method_parts : (entries : List Entry) (i : ℕ) (m : MemberName) → method_ref_at entries i ≡ Some m
    → (class : ℕ) × (member : ℕ) × (entry_at entries i ≡ entry.Method class member) × (class_name_at entries class ≡ Some m.class)
    × (named_and_typed_at entries member ≡ Some (m.name, m.descriptor))
method_parts entries i m h = by (entry_at entries i) refl where
  by : (e : Entry) → entry_at entries i ≡ e
      → (class : ℕ) × (member : ℕ) × (entry_at entries i ≡ entry.Method class member) × (class_name_at entries class ≡ Some m.class)
      × (named_and_typed_at entries member ≡ Some (m.name, m.descriptor))
  by (entry.Method class member) is =
      let parts = member_parts (class_name_at entries class) (named_and_typed_at entries member) m (rw is at h) in (class, member, is, parts.0, parts.1)
  by e is = absurd (no_method m (rw is at h))

-- ---- more entries

pub within : (entries : List Entry) (i : ℕ) (e : Entry) → entry_at entries i ≡ e → (entry.Second ≡ e → ⊥) → i < length entries
within entries i e is other = by (cases_lt i (length entries)) where
  by : (i < length entries) ⊎ (length entries ≤ i) → i < length entries
  by (inl lt) = lt
  by (inr le) = absurd (other (sym (get_or_past entries i entry.Second le) ∙ is))

pub entry_kept : (entries more : List Entry) (i : ℕ) (e : Entry) → entry_at entries i ≡ e → (entry.Second ≡ e → ⊥) → entry_at (entries ++ more) i ≡ e
entry_kept entries more i e is other = get_or_append_left entries more entry.Second i (within entries i e is other) ∙ is

pub text_within : (entries : List Entry) (i : ℕ) (text : List ℕ) → utf8_at entries i ≡ Some text → i < length entries
text_within entries i text h = within entries i (entry.Utf8 text) (utf8_entry entries i text h) (λ e. cc)

pub text_kept : (entries more : List Entry) (i : ℕ) (text : List ℕ) → utf8_at entries i ≡ Some text → utf8_at (entries ++ more) i ≡ Some text
text_kept entries more i text h = let is = entry_kept entries more i (entry.Utf8 text) (utf8_entry entries i text h) (λ e. cc) in rw is refl

pub class_within : (entries : List Entry) (i : ℕ) (text : List ℕ) → class_name_at entries i ≡ Some text → i < length entries
class_within entries i text h = let c = class_entry entries i text h in within entries i (entry.Class c.0) c.1 (λ e. cc)

pub class_kept : (entries more : List Entry) (i : ℕ) (text : List ℕ) → class_name_at entries i ≡ Some text → class_name_at (entries ++ more) i ≡ Some text
class_kept entries more i text h =
    let c = class_entry entries i text h in class_from (entries ++ more) i c.0 text (entry_kept entries more i (entry.Class c.0) c.1 (λ e. cc)) (text_kept entries more c.0 text c.2)

pub pair_within : (entries : List Entry) (i : ℕ) (pair : List ℕ × List ℕ) → named_and_typed_at entries i ≡ Some pair → i < length entries
pair_within entries i pair h = let p = pair_entry entries i pair h in within entries i (entry.NameAndType p.0 p.1) p.2 (λ e. cc)

pub pair_kept : (entries more : List Entry) (i : ℕ) (pair : List ℕ × List ℕ) → named_and_typed_at entries i ≡ Some pair → named_and_typed_at (entries ++ more) i ≡ Some pair
pair_kept entries more i pair h =
    let p = pair_entry entries i pair h in
    pair_from (entries ++ more) i p.0 p.1 pair.0 pair.1 (entry_kept entries more i (entry.NameAndType p.0 p.1) p.2 (λ e. cc)) (text_kept entries more p.0 pair.0 p.3) (text_kept entries more p.1 pair.1 p.4)

pub method_kept : (entries more : List Entry) (i : ℕ) (m : MemberName) → method_ref_at entries i ≡ Some m → method_ref_at (entries ++ more) i ≡ Some m
method_kept entries more i m h =
    let p = method_parts entries i m h in
    method_from (entries ++ more) i p.0 p.1 m (entry_kept entries more i (entry.Method p.0 p.1) p.2 (λ e. cc)) (class_kept entries more p.0 m.class p.3)
    (pair_kept entries more p.1 (m.name, m.descriptor) p.4)

-- ---- the rules of entries

pub there_kept : {X : Type 0} (o p : Option X) → ((x : X) → o ≡ Some x → p ≡ Some x) → IsSome o → IsSome p
there_kept o p kept there = let v = Some-from_is_some o there in IsSome-from_some p v.0 (kept v.0 v.1)

pub and_kept : {X : Type 0} (o p : Option X) (P : X → Type 0) → ((x : X) → o ≡ Some x → p ≡ Some x) → IsSomeAnd o P → IsSomeAnd p P
and_kept o p P kept there = let v = Some-from_some_and o P there in IsSomeAnd-from_some p P v.0 (kept v.0 v.1) v.2

member_kept : (IsPair : List ℕ × List ℕ → Type 0) (entries more : List Entry) (class member : ℕ) → NamesMember IsPair entries class member → NamesMember IsPair (entries ++ more) class member
member_kept IsPair entries more class member h = (
  there_kept (class_name_at entries class) (class_name_at (entries ++ more) class) (class_kept entries more class) h.0,
  and_kept (named_and_typed_at entries member) (named_and_typed_at (entries ++ more) member) IsPair (pair_kept entries more member) h.1,
)

pub valid_kept : (entries more : List Entry) (e : Entry) → EntryIsValid entries e → EntryIsValid (entries ++ more) e
valid_kept entries more (entry.Utf8 name) h = h
valid_kept entries more (entry.Class name) h = and_kept (utf8_at entries name) (utf8_at (entries ++ more) name) _ (text_kept entries more name) h
valid_kept entries more (entry.Text text) h = there_kept (utf8_at entries text) (utf8_at (entries ++ more) text) (text_kept entries more text) h
valid_kept entries more (entry.Field class member) h = member_kept _ entries more class member h
valid_kept entries more (entry.Method class member) h = member_kept _ entries more class member h
valid_kept entries more (entry.InterfaceMethod class member) h = member_kept _ entries more class member h
valid_kept entries more (entry.NameAndType name descriptor) h =
    let n = Some-from_some_and (utf8_at entries name) _ h in
    let d = Some-from_some_and (utf8_at entries descriptor) _ n.2 in
    IsSomeAnd-from_some (utf8_at (entries ++ more) name) _ n.0 (text_kept entries more name n.0 n.1) (IsSomeAnd-from_some (utf8_at (entries ++ more) descriptor) _ d.0 (text_kept entries more descriptor d.0 d.1) d.2)
valid_kept entries more e h = tt

-- ---- slots

-- an entry that takes one index
abbrev pub TakesOne : Entry → Type 0
TakesOne (entry.Long value) = ⊥
TakesOne (entry.Double bits) = ⊥
TakesOne entry.Second = ⊥
TakesOne e = Unit {0}

pub slots_behind : (more : List Entry) → AllByRecursion TakesOne more → AreSlots false more
slots_behind [] h = tt
slots_behind (entry.Long value ∷ more) h = absurd h.0
slots_behind (entry.Double bits ∷ more) h = absurd h.0
slots_behind (entry.Second ∷ more) h = absurd h.0
slots_behind (e ∷ more) h = slots_behind more h.1

pub slots_kept : (due : Bool) (entries more : List Entry) → AreSlots due entries → AllByRecursion TakesOne more → AreSlots due (entries ++ more)
slots_kept true [] more slots h = absurd slots
slots_kept true (entry.Second ∷ entries) more slots h = slots_kept false entries more slots h
slots_kept true (e ∷ entries) more slots h = absurd slots
slots_kept false [] more slots h = slots_behind more h
slots_kept false (entry.Second ∷ entries) more slots h = absurd slots
slots_kept false (e ∷ entries) more slots h = slots_kept (takes_two e) entries more slots h
