-- A written class is as it was, or grown by the entries of the methods that it calls.
use Rattle.std.proofs.Common.{◌≡◌, refl, sym, ◌∙◌, ap, subst, ℕ, zero, suc, ◌+◌, ◌<◌, ◌≤◌, Bool, true, false, cond, ◌||◌, List, [], ◌∷◌, ◌++◌, length, Some, arith}
use Rattle.std.specs.Prelude.{slice_get}
use Rattle.std.specs.List.{AllByRecursion, list_any, range_with_len}
use Rattle.std.proofs.lemmas.Bool.{false≢true, or_right}
use Rattle.fm_chain.proofs.ChainEntriesAdded.{calls_are_named, entries_are_supported, pools_are_spelled}
use Rattle.fm_chain.specs.ChainEntries.{sought_chain}
use Rattle.fm_chain.specs.Chained.{holds_chain}
use Rattle.fm_chain.specs.Chaining.{calls_for, chained_class, chained_methods, changed_class, class_calls, class_has_chain, entries_for, plan_has_chain}
use Rattle.fm_code.specs.ClassBytes.{pool_bytes}
use Rattle.fm_code.specs.ConstantPool.{method_ref_at, SpellsPool}
use Rattle.fm_code.specs.FreeEntries.{free_class, sought_free, with_free}
use Rattle.fm_code.specs.Profile.{EntryIsSupported}
use Rattle.fm_code.specs.declared.class_file.ClassDef.{ClassDef}
use Rattle.fm_code.specs.declared.class_file.Member.{Member}
use Rattle.fm_code.specs.declared.constant_pool.Entry.{Entry}
use Rattle.fm_code.specs.declared.constant_pool.Pool.{Pool}
use Rattle.fm_law_spelled.specs.Calling.{FreeMeMethod, CallsChain, CallsFree, CallsLink, entry_of, grown, Grows, MayCall, member_name_of}
use Rattle.fm_place.specs.Insertions.{Holder}
use Rattle.fm_place.specs.Rewriting.{changes, Plans, rewritten_major}
use Rattle.fm_pool.proofs.FreeEntriesAdded.{free_named, free_spelled, free_supported}

-- ---- holders of chains

-- one of them holds a chain
pub chain_in : (holders : List Holder) (h : ℕ) → holds_chain (slice_get holders h) ≡ true → list_any (λ (g : Holder). g.looped) holders ≡ true
chain_in [] zero looped = absurd (false≢true looped)
chain_in [] (suc h) looped = absurd (false≢true looped)
chain_in (g ∷ holders) zero looped = ap (λ b. b || list_any (λ (x : Holder). x.looped) holders) looped
chain_in (g ∷ holders) (suc h) looped = or_right g.looped (list_any (λ (x : Holder). x.looped) holders) (chain_in holders h looped)

-- ---- entries

-- each method that is called is of FreeMe
pub class_of_called : (m : FreeMeMethod) → (member_name_of m).class ≡ free_class
class_of_called CallsFree = refl
class_of_called CallsLink = refl
class_of_called CallsChain = refl

-- what a changed class has more of
abbrev pub more_for : (chains : Bool) → List Entry → List Entry
more_for true entries = (sought_chain entries).missing
more_for false entries = (sought_free entries).missing

entries_are : (chains : Bool) (entries : List Entry) → entries_for chains entries ≡ entries ++ more_for chains entries
entries_are true entries = refl
entries_are false entries = refl

named_by : (chains : Bool) (entries : List Entry) (m : FreeMeMethod) → MayCall chains m
    → method_ref_at (entries ++ more_for chains entries) (entry_of (calls_for chains entries) m) ≡ Some (member_name_of m)
named_by true entries CallsFree may = (calls_are_named entries).free
named_by true entries CallsLink may = (calls_are_named entries).link
named_by true entries CallsChain may = (calls_are_named entries).free_chain
named_by false entries CallsFree may =
    free_named entries (with_free entries) (sought_free entries).missing (sought_free entries).index refl refl
named_by false entries CallsLink may = absurd (false≢true may)
named_by false entries CallsChain may = absurd (false≢true may)

-- some bytes spell the pool with these (JVMS 4.1)
pub pool_spelled : (chains : Bool) (pool : Pool) → SpellsPool (pool_bytes pool) pool → length (entries_for chains pool.entries) ≤ 65535
    → SpellsPool (pool_bytes (record { entries = pool.entries ++ more_for chains pool.entries })) (record { entries = pool.entries ++ more_for chains pool.entries })
pool_spelled true pool spells few = pools_are_spelled pool spells (omega (arith, few))
pool_spelled false pool spells few =
    free_spelled pool (record { entries = with_free pool.entries }) (sought_free pool.entries).missing (sought_free pool.entries).index spells
    (omega (arith, few)) refl refl

-- and all of them are supported
pub pool_supported : (chains : Bool) (entries : List Entry) → AllByRecursion EntryIsSupported entries
    → AllByRecursion EntryIsSupported (entries ++ more_for chains entries)
pool_supported true entries own = entries_are_supported entries own
pool_supported false entries own = free_supported entries own

-- ---- methods

-- a method has chains only where these may be there
abbrev pub MayChain : (chains : Bool) → Plans → (first : ℕ) → List Member → Type 0
MayChain chains plans first methods = (i : ℕ) → i < length methods → plan_has_chain (plans (first + i)) ≡ true → chains ≡ true

pub first_may : (chains : Bool) (plans : Plans) (first : ℕ) (m : Member) (methods : List Member) → MayChain chains plans first (m ∷ methods)
    → plan_has_chain (plans first) ≡ true → chains ≡ true
first_may chains plans first m methods may has =
    let here : first + 0 ≡ first = omega arith in
    may 0 (omega arith) (ap (λ n. plan_has_chain (plans n)) here ∙ has)

pub rest_may : (chains : Bool) (plans : Plans) (first : ℕ) (m : Member) (methods : List Member) → MayChain chains plans first (m ∷ methods)
    → MayChain chains plans (first + 1) methods
rest_may chains plans first m methods may i within has =
    let same : first + suc i ≡ first + 1 + i = omega arith in
    may (suc i) (omega (arith, within)) (ap (λ n. plan_has_chain (plans n)) same ∙ has)

-- ---- a class

-- what holds of a number of a range holds of one of them
any_there : (test : ℕ → Bool) (first n i : ℕ) → i < n → test (first + i) ≡ true → list_any test (range_with_len first n) ≡ true
any_there test first zero i within is = absurd (omega (arith, within))
any_there test first (suc n) zero within is =
    let same : first ≡ first + 0 = omega arith in
    ap (λ b. b || list_any test (range_with_len (first + 1) n)) (ap test same ∙ is)
any_there test first (suc n) (suc i) within is =
    let same : first + 1 + i ≡ first + suc i = omega arith in
    or_right (test first) (list_any test (range_with_len (first + 1) n)) (any_there test (first + 1) n i (omega (arith, within)) (ap test same ∙ is))

-- the entries that it has more
abbrev pub more : Plans → (first : ℕ) → ClassDef → List Entry
more plans first c = more_for (class_has_chain plans first c) c.pool.entries

-- the class with the entries of the methods that it calls
abbrev pub grown_class : Plans → (first : ℕ) → ClassDef → ClassDef
grown_class plans first c = grown (more plans first c) (class_calls plans first c) plans first c

module _ (plans : Plans) (first : ℕ) (c : ClassDef) where
  pub grows : Grows (class_has_chain plans first c) (more plans first c) (class_calls plans first c) plans first c
  grows = record {
    named = named_by (class_has_chain plans first c) c.pool.entries;
    chained = λ i within has. any_there (λ method. plan_has_chain (plans method)) first (length c.methods) i within has;
  }

  pub grown_is : changed_class plans first c ≡ grown_class plans first c
  grown_is =
      ap (λ (entries : List Entry). record c {
        minor = 0;
        major = rewritten_major;
        pool = record { entries = entries };
        methods = chained_methods plans (class_calls plans first c) first c.methods;
      }) (entries_are (class_has_chain plans first c) c.pool.entries)

  -- what holds of a class and of the grown one holds of the one that is written
  pub either_class : (P : ClassDef → Type 0) → P c → P (grown_class plans first c) → P (chained_class plans first c)
  either_class P same new = by_change (changes plans first c) where
    by_change : (b : Bool) → P (cond b (changed_class plans first c) c)
    by_change true = subst P (sym grown_is) new
    by_change false = same
