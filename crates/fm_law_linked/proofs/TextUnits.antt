-- The texts that uses name are of 16-bit units, and none is too long (JVMS 4.4.7).
use Rattle.std.proofs.Common.{◌≡◌, refl, ap, subst, ℕ, suc, ◌+◌, ◌^◌, ◌<◌, ◌≤◌, Bool, true, false, not, cond, List, [], ◌∷◌, length, filter, Option, Some, None, arith}
use Rattle.std.specs.List.{AllByRecursion, cons_option, filter_map, flat_map, slice_index_or}
use Rattle.std.specs.Str.{bytes_eq}
use Rattle.std.proofs.lemmas.Option.{none-some, same_Some}
use Rattle.fm_base.proofs.ListFacts.{AllByRecursion-append, AllByRecursion-get_or}
use Rattle.fm_base.specs.Texts.{goes_on, Parted, parted, unit_of, units}
use Rattle.fm_code.specs.ConstantPool.{entry_at, EntryIsValid}
use Rattle.fm_code.specs.Fits.{EntryFits}
use Rattle.fm_code.specs.Spells.{HasSpelling}
use Rattle.fm_code.specs.declared.class_file.ClassDef.{ClassDef}
use Rattle.fm_code.specs.declared.constant_pool.Entry.{Entry}
use Rattle.fm_code.specs.declared.constant_pool.Entry.TheVariants as entry
use Rattle.fm_law_sound.specs.Making.{AreUnits}
use Rattle.fm_world.specs.Chains.{distinct}
use Rattle.fm_world.specs.Declarations.{text_at}
use Rattle.fm_world.specs.Numbers.{text_units, texts_of}
use Rattle.fm_world.specs.Programs.{outline_of}
use Rattle.fm_world.specs.Uses.{uses_in_order}

-- ---- lengths

-- a byte before others, which goes on with a unit or begins one
abbrev pub parted_before : ℕ → Parted → Bool → Parted
parted_before b p true = record { going_on = b ∷ p.going_on; units = p.units }
parted_before b p false = record { going_on = []; units = unit_of b p.going_on ∷ p.units }

pub parted_step : (b : ℕ) (bytes : List ℕ) (on : Bool) → goes_on b ≡ on → parted (b ∷ bytes) ≡ parted_before b (parted bytes) on
parted_step b bytes true is = rw is refl
parted_step b bytes false is = rw is refl

-- bytes and units, counted together
abbrev pub parts : Parted → ℕ
parts p = length p.going_on + length p.units

one_part : (b : ℕ) (p : Parted) (on : Bool) → parts (parted_before b p on) ≤ suc (parts p)
one_part b p true = omega arith
one_part b p false = omega arith

-- the bytes that go on, and the units, are no more than the bytes
pub parted_few : (bytes : List ℕ) → parts (parted bytes) ≤ length bytes
parted_few [] = omega arith
parted_few (b ∷ bytes) =
    let before = parted_few bytes in
    let one = one_part b (parted bytes) (goes_on b) in
    let is : parts (parted (b ∷ bytes)) ≡ parts (parted_before b (parted bytes) (goes_on b)) = ap parts (parted_step b bytes (goes_on b) refl) in
    omega (arith, before, one, is)

-- ---- a text of a pool

-- a text's units fit, and there are few of them
pub record IsShortText (us : List ℕ) : Type 0 where
  pub few : length us < 2 ^ 31
  pub fit : AreUnits us

pub empty_text : IsShortText []
empty_text = record { few = omega arith; fit = tt }

of_entry : (entries : List Entry) (index : ℕ) (e : Entry) → entry_at entries index ≡ e → EntryFits e → EntryIsValid entries e
    → IsShortText (units (text_at entries index))
of_entry entries index (entry.Utf8 name) is fits valid =
    let few = parted_few name in
    let short = fits.0 in
    rw is (record { few = omega (arith, few, short); fit = valid.in_range })
of_entry entries index e is fits valid = rw is empty_text

pub short_text : (c : ClassDef) → HasSpelling c → (index : ℕ) → IsShortText (units (text_at c.pool.entries index))
short_text c spelled index =
    let entries = c.pool.entries in
    of_entry entries index (entry_at entries index) refl
    (AllByRecursion-get_or EntryFits entries entry.Second spelled.1.pool.fits.each tt index)
    (AllByRecursion-get_or (EntryIsValid entries) entries entry.Second spelled.1.pool.entries tt index)

-- its bytes are fewer than 2^16
bytes_few : (entries : List Entry) (index : ℕ) (e : Entry) → entry_at entries index ≡ e → EntryFits e → length (text_at entries index) < 2 ^ 16
bytes_few entries index (entry.Utf8 name) is fits = let short = fits.0 in rw is (omega (arith, short))
bytes_few entries index e is fits = rw is (omega arith)

pub text_few : (c : ClassDef) → HasSpelling c → (index : ℕ) → length (text_at c.pool.entries index) < 2 ^ 16
text_few c spelled index =
    let entries = c.pool.entries in
    bytes_few entries index (entry_at entries index) refl (AllByRecursion-get_or EntryFits entries entry.Second spelled.1.pool.fits.each tt index)

-- ---- the texts that are numbered

one_more : (o : Option (List ℕ)) (rest : List (List ℕ)) → ((us : List ℕ) → o ≡ Some us → IsShortText us) → AllByRecursion IsShortText rest
    → AllByRecursion IsShortText (cons_option o rest)
one_more None rest short all = all
one_more (Some us) rest short all = (short us refl, all)

text_short : (c : ClassDef) → HasSpelling c → (index : ℕ) (us : List ℕ) → text_units c.pool.entries index ≡ Some us → IsShortText us
text_short c spelled index us is = by_entry (entry_at c.pool.entries index) refl is where
  by_entry : (e : Entry) → entry_at c.pool.entries index ≡ e → text_units c.pool.entries index ≡ Some us → IsShortText us
  by_entry (entry.Text text) at is = subst IsShortText (same_text_units at is) (short_text c spelled text) where
    same_text_units : entry_at c.pool.entries index ≡ entry.Text text → text_units c.pool.entries index ≡ Some us
        → units (text_at c.pool.entries text) ≡ us
    same_text_units at is = same_Some (units (text_at c.pool.entries text)) us (rw at at is)
  by_entry e at is = absurd (none-some us (rw at at is))

texts_short : (c : ClassDef) → HasSpelling c → (indices : List ℕ) → AllByRecursion IsShortText (filter_map (text_units c.pool.entries) indices)
texts_short c spelled [] = tt
texts_short c spelled (index ∷ indices) =
    one_more (text_units c.pool.entries index) (filter_map (text_units c.pool.entries) indices) (text_short c spelled index) (texts_short c spelled indices)

all_texts_short : (given : List ClassDef) → AllByRecursion HasSpelling given
    → AllByRecursion IsShortText (flat_map (λ (c : ClassDef). filter_map (text_units c.pool.entries) (uses_in_order c)) given)
all_texts_short [] spelled = tt
all_texts_short (c ∷ given) spelled =
    AllByRecursion-append IsShortText (filter_map (text_units c.pool.entries) (uses_in_order c))
    (flat_map (λ (d : ClassDef). filter_map (text_units d.pool.entries) (uses_in_order d)) given) (texts_short c spelled.0 (uses_in_order c))
    (all_texts_short given spelled.1)

kept_short : (test : List ℕ → Bool) (texts : List (List ℕ)) → AllByRecursion IsShortText texts → AllByRecursion IsShortText (filter test texts)
kept_short test [] all = tt
kept_short test (us ∷ texts) all = by_flag (test us) (kept_short test texts all.1) where
  by_flag : (b : Bool) → AllByRecursion IsShortText (filter test texts) → AllByRecursion IsShortText (cond b (us ∷ filter test texts) (filter test texts))
  by_flag true later = (all.0, later)
  by_flag false later = later

distinct_short : (texts : List (List ℕ)) → AllByRecursion IsShortText texts → AllByRecursion IsShortText (distinct bytes_eq texts)
distinct_short [] all = tt
distinct_short (us ∷ texts) all = (all.0, kept_short (λ y. not (bytes_eq us y)) (distinct bytes_eq texts) (distinct_short texts all.1))

-- the texts that have numbers are short, and of units
pub numbered_short : (given : List ClassDef) (main : List ℕ) → AllByRecursion HasSpelling given → (text : ℕ)
    → IsShortText (slice_index_or (outline_of given main).texts text [])
unfolding outline_of texts_of
numbered_short given main spelled text =
    let texts = flat_map (λ (c : ClassDef). filter_map (text_units c.pool.entries) (uses_in_order c)) given in
    AllByRecursion-get_or IsShortText (distinct bytes_eq texts) [] (distinct_short texts (all_texts_short given spelled)) empty_text text
