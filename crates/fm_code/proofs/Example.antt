-- The class file that is written out by hand, and its neighbours.
use Rattle.std.proofs.Common.{◌≡◌, ℕ, true, false, List, [], ◌∷◌, ◌++◌, length, take, drop, codes, Some, None, refl, ap, sym, ◌∙◌, arith, inr}
use Rattle.std.proofs.lemmas.List.{append-nil, append_assoc}
use Rattle.std.specs.List.{flat_map, concat}
use Rattle.fm_base.proofs.ListFacts.{same_head}
use Rattle.fm_code.specs.ConstantPool.{AreSlots, SpellsPool}
use Rattle.fm_code.specs.Numbers.{two, four}
use Rattle.fm_code.specs.InstructionTable.{insn_at}
use Rattle.fm_code.specs.ClassBytes.{counted, magic, attribute_bytes, entry_bytes, pool_bytes, raw_bytes, code_bytes, member_attribute_bytes, member_bytes, class_bytes}
use Rattle.fm_code.specs.Fits.{FitsTwo, FitsFour, MemberAttrFits, MemberFits, CountedFits, EntryFits, ClassFits, CodeFits}
use Rattle.fm_code.specs.Names.{object}
use Rattle.fm_code.specs.Spells.{Spells}
use Rattle.fm_code.specs.CodeRules.{CodeIsValid}
use Rattle.fm_code.specs.Members.{MethodIsValid}
use Rattle.fm_code.specs.Example.{example_bytes, example_entries, example_code, example_method, example_record, short_length_bytes, wrong_tag_bytes, longer_bytes}
use Rattle.fm_code.specs.declared.constant_pool.Entry.{Entry}
use Rattle.fm_code.specs.declared.constant_pool.Entry.TheVariants as entry
use Rattle.fm_code.specs.declared.class_file.ClassDef.{ClassDef}
use Rattle.fm_code.specs.declared.class_file.Member.{Member}
use Rattle.fm_code.specs.declared.class_file.MemberAttr.{MemberAttr}
use Rattle.fm_code.specs.declared.instructions.Insn.TheVariants as insn
use Rattle.fm_code.proofs.Tested.{are_bytes, entries_fit, entries_valid}
use Rattle.fm_code.proofs.Prefixes.{Tells, ◌then◌, tells, Cancels-two, cancel_attribute, peel, tells_two, tells_same, tells_nothing}
use Rattle.fm_code.proofs.PoolPrefixes.{PoolFits, Cancels-pool, IsSpelledEntry, slots_due, slots_spelled}
use Rattle.fm_code.proofs.ClassLaw.{nothing_follows, name_of, body_of, member_attribute_is, name_fits, body_fits}

-- the bytes are those of the record, by computation
bytes_are : example_bytes ≡ class_bytes example_record
unfolding class_bytes pool_bytes entry_bytes member_bytes member_attribute_bytes code_bytes raw_bytes two four
bytes_are = refl

-- 177 is return
instruction : insn_at 0 (177 ∷ []) ≡ Some (insn.Return None)
unfolding insn_at
instruction = refl

-- each number and length fits
code_fits : CodeFits example_code
unfolding code_bytes two four
code_fits = record {
  max_stack = omega arith;
  max_locals = omega arith;
  code_length = omega arith;
  items = (are_bytes (177 ∷ []) refl, tt);
  handlers = record { count = omega arith; each = tt };
  attributes = record { count = omega arith; each = tt };
  size = omega arith;
}

-- its pool
pool_fits : CountedFits EntryFits example_entries
pool_fits = record {
  count = omega arith;
  each = entries_fit example_entries refl;
}

pool_spelled : SpellsPool (pool_bytes example_record.pool) example_record.pool
pool_spelled = record {
  bytes_are = refl;
  fits = pool_fits;
  slots = tt;
  entries = entries_valid example_entries example_entries refl;
}

fits : ClassFits example_record
fits = record {
  minor = omega arith;
  major = omega arith;
  flags = omega arith;
  this_class = omega arith;
  super_class = omega arith;
  interfaces = record { count = omega arith; each = tt };
  fields = record { count = omega arith; each = tt };
  methods = record {
    count = omega arith;
    each = (
      record {
        flags = omega arith;
        name = omega arith;
        descriptor = omega arith;
        attributes = record { count = omega arith; each = ((omega arith, code_fits), tt) };
      },
      tt,
    );
  };
  attributes = record { count = omega arith; each = tt };
}

-- the rules of the code and of the method
code_is_valid : CodeIsValid example_entries example_code
code_is_valid = record {
  not_empty = omega arith;
  not_long = omega arith;
  measured = refl;
  spelled = record { bytes_are = refl; offsets = (refl, tt); spelled = (record { instruction = instruction; targets = tt }, tt) };
  locals = (tt, tt);
  operands = (tt, tt);
  handlers = tt;
  attributes = tt;
}

-- main isn't the name of a constructor
no_constructor : Some (codes "main") ≡ Some (codes "<init>") → ⊥
no_constructor e = let size : length (codes "main") ≡ length (codes "<init>") = ap length (text_in e) in absurd (omega arith) where
  text_in : Some (codes "main") ≡ Some (codes "<init>") → codes "main" ≡ codes "<init>"
  text_in e = cc

method_is_valid : MethodIsValid false example_entries example_method
method_is_valid = record {
  name = refl;
  descriptor = (
    record { parameters = record { dimensions = 1; base = object (codes "java/lang/String") } ∷ []; result = None },
    (record { parameters = (record { dimensions = omega arith; base = refl }, tt); result = tt }, (refl, omega arith)),
  );
  attributes = ((refl, code_is_valid), tt);
  coded = refl;
  abstract_alone = λ e. cc;
  constructor = λ e. absurd (no_constructor e);
  of_interface = λ e. cc;
}

-- the example is a class file
pub example_spelled : Spells example_bytes example_record
example_spelled = record {
  bytes_are = bytes_are;
  fits = fits;
  pool = pool_spelled;
  this_class = refl;
  super_class = inr refl;
  interfaces = tt;
  fields = tt;
  distinct_fields = tt;
  methods = (method_is_valid, tt);
  distinct_methods = (tt, tt);
  attributes = tt;
}

-- ---- neighbours

-- a byte is not nothing
nil_or_more : (b : ℕ) (bytes : List ℕ) → b ∷ bytes ≡ [] → ⊥
nil_or_more b bytes e = cc

-- nothing may follow
pub longer_not_spelled : (c : ClassDef) → Spells longer_bytes c → ⊥
longer_not_spelled c spells = nil_or_more 0 [] (nothing_follows example_bytes (0 ∷ []) example_record c example_spelled spells)

-- the bytes of a class file after its pool
abbrev bytes_after_pool : ClassDef → List ℕ
bytes_after_pool c =
    concat (two c.flags ∷ two c.this_class ∷ two c.super_class
    ∷ counted two c.interfaces ∷ counted member_bytes c.fields ∷ counted member_bytes c.methods ∷ counted raw_bytes c.attributes ∷ [])

-- no entry has the tag 2
no_tag_two : (e : Entry) (r s : List ℕ) → IsSpelledEntry e → 2 ∷ r ≡ entry_bytes e ++ s → ⊥
unfolding entry_bytes
no_tag_two entry.Second r s spelled e = absurd spelled
no_tag_two x r s spelled e = let tags = same_head _ _ _ _ e in omega arith

-- so no pool of eight slots begins with it
no_entries_two : (entries : List Entry) (r s : List ℕ) → length entries ≡ 8 → AreSlots true entries → 2 ∷ r ≡ flat_map entry_bytes entries ++ s → ⊥
unfolding entry_bytes
no_entries_two [] r s count slots e = absurd (omega arith)
no_entries_two (x ∷ []) r s count slots e = absurd (omega arith)
no_entries_two (x ∷ y ∷ entries) r s count slots e =
    let due = slots_due x (y ∷ entries) slots in
    let spelled = slots_spelled y entries due.1 in
    let after : 2 ∷ r ≡ (entry_bytes y ++ flat_map entry_bytes entries) ++ s =
    e ∙ ap (λ (z : Entry). (entry_bytes z ++ (entry_bytes y ++ flat_map entry_bytes entries)) ++ s) due.0 in
    no_tag_two y r (flat_map entry_bytes entries ++ s) spelled.0 (after ∙ append_assoc (entry_bytes y) (flat_map entry_bytes entries) s)

-- the class file up to the pool, and the rest
class_front : (c : ClassDef) →
    class_bytes c ≡
    concat (magic ∷ two c.minor ∷ two c.major ∷ two (length c.pool.entries) ∷ []) ++ (flat_map entry_bytes c.pool.entries ++ bytes_after_pool c)
unfolding class_bytes pool_bytes
class_front c = simp append_assoc

-- and no class file has it there
pub wrong_tag_not_spelled : (c : ClassDef) → Spells wrong_tag_bytes c → ⊥
unfolding two
wrong_tag_not_spelled c spells =
    let front = concat (magic ∷ two 0 ∷ two 49 ∷ two 8 ∷ []) in
    let fits = spells.fits in
    let told =
    tells_same magic magic refl
    then tells_two 0 c.minor (omega arith) fits.minor
    then tells_two 49 c.major (omega arith) fits.major
    then tells_two 8 (length c.pool.entries) (omega arith) spells.pool.fits.count
    then tells_nothing in
    let cut : front ++ drop 10 wrong_tag_bytes ≡ wrong_tag_bytes = refl in
    let ((_, (_, (_, (count, _)))), rest) =
    told.cancel (drop 10 wrong_tag_bytes) (flat_map entry_bytes c.pool.entries ++ bytes_after_pool c) (cut ∙ spells.bytes_are ∙ class_front c) in
    no_entries_two c.pool.entries (drop 11 wrong_tag_bytes) (bytes_after_pool c) (sym count) spells.pool.slots rest

-- a list of no elements
tells_none : {X : Type 0} (spell : X → List ℕ) (xs : List X) → FitsTwo (length xs) → Tells (two 0) (counted spell xs) (Unit {0})
tells_none spell [] fits = record { cancel = λ r s e. (tt, (Cancels-two 0 0 r s fits fits (e ∙ ap (λ (bytes : List ℕ). bytes ++ s) (append-nil (two 0)))).1) }
tells_none spell (x ∷ xs) fits = record {
  cancel = λ r s e.
      let rest = flat_map spell (x ∷ xs) in
      let count = Cancels-two 0 (length (x ∷ xs)) r (rest ++ s) (omega arith) fits (e ∙ append_assoc (two (length (x ∷ xs))) rest s) in
      let none = count.0 in
      absurd (omega arith);
}

-- a list of one element
tells_one : {X : Type 0} (spell : X → List ℕ) (Fits : X → Type 0) (q : List ℕ) → ((x : X) → Fits x → Tells q (spell x) (Unit {0})) →
    (xs : List X) → CountedFits Fits xs → Tells (two 1 ++ q) (counted spell xs) (Unit {0})
tells_one spell Fits q told [] fits = record {
  cancel = λ r s e.
      let count = Cancels-two 1 0 (q ++ r) s (omega arith) (omega arith) (peel (two 1) q r (two 0) [] s e) in
      let none = count.0 in
      absurd (omega arith);
}
tells_one spell Fits q told (x ∷ []) fits = record {
  cancel = λ r s e.
      let count = Cancels-two 1 1 (q ++ r) ((spell x ++ []) ++ s) (omega arith) (omega arith) (peel (two 1) q r (two 1) (spell x ++ []) s e) in
      (told x fits.each.0).cancel r s (count.1 ∙ ap (λ (bytes : List ℕ). bytes ++ s) (append-nil (spell x)));
}
tells_one spell Fits q told (x ∷ y ∷ xs) fits = record {
  cancel = λ r s e.
      let more = flat_map spell (x ∷ y ∷ xs) in
      let count = Cancels-two 1 (length (x ∷ y ∷ xs)) (q ++ r) (more ++ s) (omega arith) fits.count (peel (two 1) q r (two (length (x ∷ y ∷ xs))) more s e) in
      let one = count.0 in
      absurd (omega arith);
}

-- an attribute with a body of that length, whatever it is
tells_framed : (name : ℕ) (body : List ℕ) → FitsTwo name → FitsFour (length body) → (a : MemberAttr) → MemberAttrFits a →
    Tells (attribute_bytes name body) (member_attribute_bytes a) (Unit {0})
tells_framed name body name_fit body_fit a fits = record {
  cancel = λ r s e. (
    tt,
    (cancel_attribute name (name_of a) body (body_of a) r s name_fit (name_fits a fits) body_fit (body_fits a fits)
        (e ∙ ap (λ (bytes : List ℕ). bytes ++ s) (member_attribute_is a))).2,
  );
}

-- the Code attribute up to its last byte but one
abbrev short_body : List ℕ
short_body = take 12 (drop 104 example_bytes)

-- the method of the example, with the shorter attribute
abbrev short_method : List ℕ
short_method = concat (two 9 ∷ two 5 ∷ two 6 ∷ (two 1 ++ attribute_bytes 7 short_body) ∷ [])

-- any method of those bytes ends where it does
tells_short_method : (m : Member) → MemberFits m → Tells short_method (member_bytes m) (Unit {0})
unfolding member_bytes
tells_short_method m fits = record {
  cancel = λ r s e.
      let framed = tells_framed 7 short_body (omega arith) (omega arith) in
      let told =
      tells_two 9 m.flags (omega arith) fits.flags
      then tells_two 5 m.name (omega arith) fits.name
      then tells_two 6 m.descriptor (omega arith) fits.descriptor
      then tells_one member_attribute_bytes MemberAttrFits (attribute_bytes 7 short_body) framed m.attributes fits.attributes
      then tells_nothing in
      (tt, (told.cancel r s e).1);
}

-- the class file with that method, in front of the byte that is left
abbrev short_class : List ℕ
short_class =
    concat (magic ∷ two 0 ∷ two 49 ∷ pool_bytes example_record.pool ∷ two 33 ∷ two 2 ∷ two 4 ∷ two 0 ∷ two 0 ∷ (two 1 ++ short_method) ∷ two 0 ∷ [])

short_class_is : short_class ++ 0 ∷ [] ≡ short_length_bytes
unfolding two four pool_bytes entry_bytes
short_class_is = refl

-- a byte is left after the class
pub short_length_not_spelled : (c : ClassDef) → Spells short_length_bytes c → ⊥
unfolding class_bytes
short_length_not_spelled c spells =
    let fits = spells.fits in
    let example = example_spelled in
    let told =
    tells_same magic magic refl
    then tells_two 0 c.minor (omega arith) fits.minor
    then tells_two 49 c.major (omega arith) fits.major
    then tells pool_bytes PoolFits Cancels-pool example_record.pool c.pool (record { entries = example.pool.fits; slots = example.pool.slots })
    (record { entries = spells.pool.fits; slots = spells.pool.slots })
    then tells_two 33 c.flags (omega arith) fits.flags
    then tells_two 2 c.this_class (omega arith) fits.this_class
    then tells_two 4 c.super_class (omega arith) fits.super_class
    then tells_none two c.interfaces fits.interfaces.count
    then tells_none member_bytes c.fields fits.fields.count
    then tells_one member_bytes MemberFits short_method tells_short_method c.methods fits.methods
    then tells_none raw_bytes c.attributes fits.attributes.count
    then tells_nothing in
    nil_or_more 0 [] (told.cancel (0 ∷ []) [] (short_class_is ∙ spells.bytes_are ∙ sym (append-nil (class_bytes c)))).1
