-- What is read of a pool, and what spells one.
use Rattle.std.proofs.Common.{◌≡◌, ℕ, ◌-◌, ◌≤◌, List, ◌++◌, length, take, drop, length-append, Option, Some, None, Result, Ok, Err, refl, sym, ap, subst, ◌∙◌, arith}
use Rattle.std.specs.Prelude.{MatchResult}
use Rattle.std.specs.List.{AllByRecursion}
use Rattle.std.proofs.lemmas.List.{take_at, take-append-drop}
use Rattle.fm_code.specs.ClassBytes.{counted, entry_bytes, pool_bytes}
use Rattle.fm_code.specs.ConstantPool.{EntryIsValid, SpellsPool}
use Rattle.fm_code.specs.Fits.{AreBytes}
use Rattle.fm_code.specs.declared.constant_pool.Entry.{Entry}
use Rattle.fm_code.specs.declared.constant_pool.Pool.{Pool}
use Rattle.fm_code.specs.declared.error.PieceFail.{PieceFail}
use Rattle.fm_code.specs.declared.error.PieceFail.TheVariants as piece
use Rattle.fm_code.specs.inner.Reading.{Fails}
use Rattle.fm_pool.specs.inner.Failures.{pool_failure}
use Rattle.fm_pool.specs.inner.Reading.{pool_at}
use Rattle.fm_pool.specs.declared.error.PoolFail.{PoolFail}
use Rattle.fm_pool.specs.declared.error.PoolFail.TheVariants as fail
use Rattle.fm_pool.proofs.EntriesLemmas.{pool_piece}

pool_bytes_is : (pool : Pool) → pool_bytes pool ≡ counted entry_bytes pool.entries
unfolding pool_bytes
pool_bytes_is pool = refl

abbrev read_as : List Entry × List ℕ → Option (List Entry × List ℕ)
read_as x = Some x

same_reading : (x y : List Entry × List ℕ) → read_as x ≡ read_as y → x ≡ y
same_reading x y e = cc

-- what a prefix spells is read
is_read : (bytes : List ℕ) (pool : Pool) (n : ℕ) → SpellsPool (take n bytes) pool → pool_at bytes ≡ Some (pool.entries, drop n bytes)
is_read bytes pool n spells =
    let prefix : bytes ≡ counted entry_bytes pool.entries ++ drop n bytes =
    sym (take-append-drop n bytes) ∙ ap (λ (w : List ℕ). w ++ drop n bytes) (spells.bytes_are ∙ pool_bytes_is pool) in
    ap pool_at prefix ∙ pool_piece.again pool.entries (drop n bytes) (record { fits = spells.fits; slots = spells.slots })

-- so where nothing is read, memory ran out
pub only_no_memory : (bytes : List ℕ) (pool : Pool) (n : ℕ) (e : PieceFail) → Fails e (pool_at bytes) → SpellsPool (take n bytes) pool → pool_failure e ≡ fail.NoMemory
only_no_memory bytes pool n piece.NoMemory h spells = refl
only_no_memory bytes pool n piece.Malformed h spells = absurd (let read = is_read bytes pool n spells in let none : read_as (pool.entries, drop n bytes) ≡ None = sym read ∙ h in cc)

-- and what is read are the pool's entries
pub entries_are : (bytes : List ℕ) (pool : Pool) (n : ℕ) (entries : List Entry) (rest : List ℕ) → pool_at bytes ≡ Some (entries, rest) → SpellsPool (take n bytes) pool → entries ≡ pool.entries
entries_are bytes pool n entries rest e spells =
    let same = same_reading (entries, rest) (pool.entries, drop n bytes) (sym e ∙ is_read bytes pool n spells) in ap (λ (x : List Entry × List ℕ). x.0) same

pub same_pool : (bytes : List ℕ) (pool : Pool) (n : ℕ) (entries : List Entry) (rest : List ℕ) → pool_at bytes ≡ Some (entries, rest) → SpellsPool (take n bytes) pool → record { entries = entries } ≡ pool
same_pool bytes pool n entries rest e spells = λ i. record { entries = entries_are bytes pool n entries rest e spells i }

pub valid_entries : (bytes : List ℕ) (pool : Pool) (n : ℕ) (entries : List Entry) (rest : List ℕ) → pool_at bytes ≡ Some (entries, rest) → SpellsPool (take n bytes) pool → AllByRecursion (EntryIsValid entries) entries
valid_entries bytes pool n entries rest e spells =
    subst (λ (es : List Entry). AllByRecursion (EntryIsValid es) es) (sym (entries_are bytes pool n entries rest e spells)) spells.entries

-- what is read is a prefix, and spells the pool where its entries are valid
pub rest_within : (bytes : List ℕ) (entries : List Entry) (rest : List ℕ) → AreBytes bytes → pool_at bytes ≡ Some (entries, rest) → length rest ≤ length bytes
rest_within bytes entries rest fits e =
    let taken = pool_piece.takes bytes (entries, rest) fits e in omega (arith, ap length taken.0.parts, length-append (counted entry_bytes entries) rest)

pub is_spelled : (bytes : List ℕ) (entries : List Entry) (rest : List ℕ) → AreBytes bytes → pool_at bytes ≡ Some (entries, rest) → AllByRecursion (EntryIsValid entries) entries
    → SpellsPool (take (length bytes - length rest) bytes) (record { entries = entries })
is_spelled bytes entries rest fits e valid =
    let taken = pool_piece.takes bytes (entries, rest) fits e in
    let spelling = counted entry_bytes entries in
    let size : length spelling ≡ length bytes - length rest = omega (arith, ap length taken.0.parts, length-append spelling rest) in
    let prefix : take (length bytes - length rest) bytes ≡ spelling = ap (take (length bytes - length rest)) taken.0.parts ∙ take_at spelling rest (length bytes - length rest) size in
    record { bytes_are = prefix ∙ sym (pool_bytes_is (record { entries = entries })); fits = taken.1.fits; slots = taken.1.slots; entries = valid }

-- a pool that is read or lacks memory isn't refused
pub not_refused : (r : Result (Pool × ℕ) PoolFail) (pool : Pool) → MatchResult r (λ x. x.0 ≡ pool) (λ e. e ≡ fail.NoMemory) → r ≡ Err fail.Malformed → ⊥
not_refused (Ok x) pool h e = cc
not_refused (Err fail.Malformed) pool h e = cc
not_refused (Err fail.NoMemory) pool h e = cc
