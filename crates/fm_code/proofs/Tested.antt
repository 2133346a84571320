-- What holds of records that are written out, by tests that compute.
use Rattle.std.proofs.Common.{◌≡◌, ℕ, zero, ◌<◌, Bool, true, false, ltb, ◌&&◌, List, [], ◌∷◌, map, length, Option, Some, None, pos, arith, inl, refl}
use Rattle.std.specs.Prelude.{IsSomeAnd}
use Rattle.std.specs.List.{AllByRecursion, list_all}
use Rattle.std.proofs.lemmas.Bool.{and_parts, ltb-true, false≢true}
use Rattle.std.proofs.lemmas.Int.{ints}
use Rattle.fm_base.specs.Texts.{IsModifiedUtf8}
use Rattle.fm_base.proofs.TextsLemmas.{IsModifiedUtf8-plain}
use Rattle.fm_base.proofs.ListFacts.{same_head, same_tail}
use Rattle.fm_code.specs.ClassBytes.{offset_in}
use Rattle.fm_code.specs.ConstantPool.{utf8_at, EntryIsValid}
use Rattle.fm_code.specs.Fits.{AreBytes, EntryFits}
use Rattle.fm_code.specs.InstructionTable.{insn_at}
use Rattle.fm_code.specs.Names.{is_binary_name, IsClassName}
use Rattle.fm_code.specs.Profile.{EntryIsSupported}
use Rattle.fm_code.specs.SpellsCode.{targets_of, with_targets, ItemIsSpelled}
use Rattle.fm_code.specs.declared.constant_pool.Entry.{Entry}
use Rattle.fm_code.specs.declared.constant_pool.Entry.TheVariants as entry
use Rattle.fm_code.specs.declared.code_array.Item.{Item}
use Rattle.fm_code.specs.declared.instructions.Insn.{Insn}

-- ---- bytes and numbers

pub are_below : (n : ℕ) (numbers : List ℕ) → list_all (λ k. ltb k n) numbers ≡ true → AllByRecursion (λ k. k < n) numbers
are_below n [] e = tt
are_below n (k ∷ numbers) e = let parts = and_parts (ltb k n) (list_all (λ l. ltb l n) numbers) e in (ltb-true k n parts.0, are_below n numbers parts.1)

pub are_bytes : (bytes : List ℕ) → list_all (λ b. ltb b 256) bytes ≡ true → AreBytes bytes
are_bytes bytes e = are_below 256 bytes e

-- bytes from 1 to 127
are_plain : (bytes : List ℕ) → list_all (λ b. ltb 0 b && ltb b 128) bytes ≡ true → AllByRecursion (λ b. (0 < b) × (b < 128)) bytes
are_plain [] e = tt
are_plain (b ∷ bytes) e =
    let parts = and_parts (ltb 0 b && ltb b 128) (list_all (λ c. ltb 0 c && ltb c 128) bytes) e in
    let both = and_parts (ltb 0 b) (ltb b 128) parts.0 in
    ((ltb-true 0 b both.0, ltb-true b 128 both.1), are_plain bytes parts.1)

is_text : (bytes : List ℕ) → list_all (λ b. ltb 0 b && ltb b 128) bytes ≡ true → IsModifiedUtf8 bytes
is_text bytes e = IsModifiedUtf8-plain bytes (are_plain bytes e)

-- ---- entries of a pool

-- for texts, classes, methods, names with descriptors and longs that aren't negative
abbrev fits : Entry → Bool
fits (entry.Utf8 name) = ltb (length name) 65536 && list_all (λ b. ltb b 256) name
fits (entry.Long (pos value)) = ltb value 9223372036854775808
fits (entry.Class name) = ltb name 65536
fits (entry.Method class member) = ltb class 65536 && ltb member 65536
fits (entry.NameAndType name descriptor) = ltb name 65536 && ltb descriptor 65536
fits entry.Second = true
fits e = false

entry_fits : (e : Entry) → fits e ≡ true → EntryFits e
entry_fits (entry.Utf8 name) t =
    let parts = and_parts (ltb (length name) 65536) (list_all (λ b. ltb b 256) name) t in
    let size = ltb-true (length name) 65536 parts.0 in
    (omega arith, are_bytes name parts.1)
entry_fits (entry.Long (pos value)) t = let below = ltb-true value 9223372036854775808 t in omega (arith, ints)
entry_fits (entry.Class name) t = let below = ltb-true name 65536 t in omega arith
entry_fits (entry.Method class member) t =
    let parts = and_parts (ltb class 65536) (ltb member 65536) t in
    let first = ltb-true class 65536 parts.0 in
    let second = ltb-true member 65536 parts.1 in
    (omega arith, omega arith)
entry_fits (entry.NameAndType name descriptor) t =
    let parts = and_parts (ltb name 65536) (ltb descriptor 65536) t in
    let first = ltb-true name 65536 parts.0 in
    let second = ltb-true descriptor 65536 parts.1 in
    (omega arith, omega arith)
entry_fits entry.Second t = tt
entry_fits e t = absurd (false≢true t)

pub entries_fit : (entries : List Entry) → list_all fits entries ≡ true → AllByRecursion EntryFits entries
entries_fit [] e = tt
entries_fit (x ∷ entries) e = let parts = and_parts (fits x) (list_all fits entries) e in (entry_fits x parts.0, entries_fit entries parts.1)

-- and all these are supported
entry_supported : (e : Entry) → fits e ≡ true → EntryIsSupported e
entry_supported (entry.MethodHandle kind member) t = absurd (false≢true t)
entry_supported (entry.MethodType descriptor) t = absurd (false≢true t)
entry_supported (entry.InvokeDynamic bootstrap member) t = absurd (false≢true t)
entry_supported e t = refl

pub entries_supported : (entries : List Entry) → list_all fits entries ≡ true → AllByRecursion EntryIsSupported entries
entries_supported [] e = tt
entries_supported (x ∷ entries) e =
    let parts = and_parts (fits x) (list_all fits entries) e in (entry_supported x parts.0, entries_supported entries parts.1)

-- for texts of the bytes from 1 to 127, classes that are no arrays, and longs
abbrev names_class : Option (List ℕ) → Bool
names_class None = false
names_class (Some name) = is_binary_name name

abbrev is_valid : List Entry → Entry → Bool
is_valid entries (entry.Utf8 name) = list_all (λ b. ltb 0 b && ltb b 128) name
is_valid entries (entry.Class name) = names_class (utf8_at entries name)
is_valid entries (entry.Long value) = true
is_valid entries entry.Second = true
is_valid entries e = false

class_valid : (o : Option (List ℕ)) → names_class o ≡ true → IsSomeAnd o IsClassName
class_valid None t = absurd (false≢true t)
class_valid (Some name) t = inl t

entry_valid : (entries : List Entry) (e : Entry) → is_valid entries e ≡ true → EntryIsValid entries e
entry_valid entries (entry.Utf8 name) t = is_text name t
entry_valid entries (entry.Class name) t = class_valid (utf8_at entries name) t
entry_valid entries (entry.Long value) t = tt
entry_valid entries entry.Second t = tt
entry_valid entries e t = absurd (false≢true t)

pub entries_valid : (all entries : List Entry) → list_all (is_valid all) entries ≡ true → AllByRecursion (EntryIsValid all) entries
entries_valid all [] e = tt
entries_valid all (x ∷ entries) e = let parts = and_parts (is_valid all x) (list_all (is_valid all) entries) e in (entry_valid all x parts.0, entries_valid all entries parts.1)

-- ---- items

pub items_fit : (items : List Item) → list_all (λ (item : Item). list_all (λ b. ltb b 256) item.bytes) items ≡ true → AllByRecursion (λ (item : Item). AreBytes item.bytes) items
items_fit [] e = tt
items_fit (item ∷ items) e =
    let parts = and_parts (list_all (λ b. ltb b 256) item.bytes) (list_all (λ (i : Item). list_all (λ b. ltb b 256) i.bytes) items) e in
    (are_bytes item.bytes parts.0, items_fit items parts.1)

-- what the bytes of an item mean, and what its instruction means with offsets for targets
abbrev pub read : Item → Option Insn
read item = insn_at item.offset item.bytes

abbrev pub meant : List Item → Item → Option Insn
meant all item = Some (with_targets (offset_in all zero) item.insn)

abbrev pub leads_below : ℕ → Item → Bool
leads_below count item = list_all (λ target. ltb target count) (targets_of item.insn)

pub items_spelled : (all items : List Item) → map read items ≡ map (meant all) items → list_all (leads_below (length all)) items ≡ true → AllByRecursion (ItemIsSpelled all) items
items_spelled all [] same e = tt
items_spelled all (item ∷ items) same e =
    let parts = and_parts (leads_below (length all) item) (list_all (leads_below (length all)) items) e in (
      record {
        instruction = same_head (read item) (meant all item) (map read items) (map (meant all) items) same;
        targets = are_below (length all) (targets_of item.insn) parts.0;
      },
      items_spelled all items (same_tail (read item) (meant all item) (map read items) (map (meant all) items) same) parts.1,
    )
