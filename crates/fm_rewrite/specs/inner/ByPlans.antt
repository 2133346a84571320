-- Classes by what is to be done with their methods, one after the other: the plans of a class's
-- methods come first, and the others follow.
use Rattle.std.specs.Prelude.{◌≡◌, ℕ, ◌+◌, ◌&&◌, ◌<◌, ◌≤◌, ◌^◌, Bool, true, false, List, [], ◌∷◌, length, take, drop, Option, Some, None, nat_lt, Result, Ok, Err, if◌then◌else◌}
use Rattle.std.specs.List.{AllByRecursion, list_any}
use Rattle.std.specs.Option.{option_map, option_or}
use Rattle.fm_code.specs.declared.class_file.ClassDef.{ClassDef}
use Rattle.fm_rewrite.specs.Causes.{max_pool_indices}
use Rattle.fm_rewrite.specs.declared.counts.Count.{Count}
use Rattle.fm_rewrite.specs.declared.error.RewriteFail.{RewriteFail}
use Rattle.fm_rewrite.specs.declared.error.RewriteFail.TheVariants as fail
use Rattle.fm_rewrite.specs.declared.rewriting.Rewritten.{Rewritten}
use Rattle.fm_chain.specs.Chaining.{calls_for, entries_for}
use Rattle.fm_chain.specs.declared.calls.Calls.{Calls}
use Rattle.fm_chain.specs.declared.entries.ChainPool.{ChainPool}
use Rattle.fm_place_weave.specs.ClassByPlan.{class_by, first_long, has_chains, MayDoAll}
use Rattle.fm_rewrite.specs.Plans.{CallsFit}
use Rattle.fm_place_weave.specs.declared.planned.Planned.{Planned}
use Rattle.fm_place_weave.specs.declared.planned.Planned.TheVariants as planned

-- ---- the plans of a class

-- those of its methods
abbrev pub own : ClassDef → List Planned → List Planned
own c done = take (length c.methods) done

-- those of later classes
abbrev pub others : ClassDef → List Planned → List Planned
others c done = drop (length c.methods) done

-- how many methods these classes have
abbrev pub method_count : List ClassDef → ℕ
method_count [] = 0
method_count (c ∷ classes) = length c.methods + method_count classes

-- a method doesn't stay as it is
abbrev pub is_changed : Planned → Bool
is_changed planned.Same = false
is_changed p = true

-- one of these methods doesn't
abbrev pub changes_by : List Planned → Bool
changes_by done = list_any is_changed done

-- ---- pools

-- the pool of a changed class
abbrev pub pool_by : List Planned → ClassDef → Option ChainPool
pool_by done c =
    let chains = has_chains done in
    if changes_by done
    then Some (record { pool = record { entries = entries_for chains c.pool.entries }; calls = calls_for chains c.pool.entries }) else None

-- of each class
abbrev pub pools_by : List Planned → List ClassDef → List (Option ChainPool)
pools_by done [] = []
pools_by done (c ∷ classes) = pool_by (own c done) c ∷ pools_by (others c done) classes

-- how many indices it would have, where these are too many
abbrev pub full_by : List Planned → ClassDef → Option ℕ
full_by done c =
    let entries = entries_for (has_chains done) c.pool.entries in
    if changes_by done && nat_lt max_pool_indices (length entries) then Some (length entries) else None

-- the first such class by its number, of which the first is this
abbrev pub first_full_by : (class : ℕ) → List Planned → List ClassDef → Option (ℕ × ℕ)
first_full_by class done [] = None
first_full_by class done (c ∷ classes) =
    option_or (option_map (λ indices. (class, indices)) (full_by (own c done) c)) (first_full_by (class + 1) (others c done) classes)

-- a refusal names this class
abbrev pub IsFullBy : Option (ℕ × ℕ) → RewriteFail → Type 0
IsFullBy full (fail.PoolFull class indices) = full ≡ Some (class.0, indices)
IsFullBy full fail.NoMemory = Unit {0}
IsFullBy full e = ⊥

-- ---- classes

-- a class, which stays as it is where no method is changed
abbrev pub rewritten_by : List Planned → ClassDef → ClassDef
rewritten_by done c = if changes_by done then class_by done c else c

-- each class
abbrev pub classes_by : List Planned → List ClassDef → List ClassDef
classes_by done [] = []
classes_by done (c ∷ classes) = rewritten_by (own c done) c ∷ classes_by (others c done) classes

-- the first method of a changed class that would be too long, by its number, and how many bytes it would have
abbrev pub long_by : (method : ℕ) → List Planned → ClassDef → Option (ℕ × ℕ)
long_by method done c = if changes_by done then first_long (calls_for (has_chains done) c.pool.entries) method done c.methods else None

-- of all classes
abbrev pub first_long_by : (method : ℕ) → List Planned → List ClassDef → Option (ℕ × ℕ)
first_long_by method done [] = None
first_long_by method done (c ∷ classes) = option_or (long_by method (own c done) c) (first_long_by (method + length c.methods) (others c done) classes)

-- a refusal names this method
abbrev pub IsLongBy : Option (ℕ × ℕ) → RewriteFail → Type 0
IsLongBy long (fail.MethodTooLong method bytes) = long ≡ Some (method.0, bytes)
IsLongBy long fail.NoMemory = Unit {0}
IsLongBy long e = ⊥

-- there is a flag for each holder of a method that is woven
abbrev pub HasFlags : Planned → Type 0
HasFlags (planned.Woven p) = p.plan.holders ≤ length p.looped
HasFlags p = Unit {0}

-- so there is in each class
abbrev pub HaveFlags : List Planned → List ClassDef → Type 0
HaveFlags done [] = Unit {0}
HaveFlags done (c ∷ classes) = AllByRecursion HasFlags (own c done) × HaveFlags (others c done) classes

-- what is to be done with the methods of each class may be done, by whichever entries
abbrev pub MayDoEach : List Planned → List ClassDef → Type 0
MayDoEach done [] = Unit {0}
MayDoEach done (c ∷ classes) = ((calls : Calls) → CallsFit calls → MayDoAll calls (own c done) c.methods) × MayDoEach (others c done) classes

-- ---- counts

-- how many sites are held in a method
abbrev pub sites_of_one : Planned → ℕ
sites_of_one (planned.Woven p) = p.plan.holders
sites_of_one p = 0

-- how many frees are inserted in it
abbrev pub frees_of_one : Planned → ℕ
frees_of_one (planned.Woven p) = length p.plan.before.items
frees_of_one p = 0

-- the sites of methods
abbrev pub sites_by : List Planned → ℕ
sites_by [] = 0
sites_by (p ∷ done) = sites_of_one p + sites_by done

-- their frees
abbrev pub frees_by : List Planned → ℕ
frees_by [] = 0
frees_by (p ∷ done) = frees_of_one p + frees_by done

-- the counts of each class
abbrev pub counts_by : List Planned → List ClassDef → List Count
counts_by done [] = []
counts_by done (c ∷ classes) = record { sites = sites_by (own c done); frees = frees_by (own c done) } ∷ counts_by (others c done) classes

-- the counts of these methods fit a word of 32 bits
pub record HasCounts (done : List Planned) : Type 0 where
  pub sites : sites_by done < 2 ^ 32
  pub frees : frees_by done < 2 ^ 32

-- those of each class do
abbrev pub HaveCounts : List Planned → List ClassDef → Type 0
HaveCounts done [] = Unit {0}
HaveCounts done (c ∷ classes) = HasCounts (own c done) × HaveCounts (others c done) classes

-- ---- all of it

-- the classes, with the counts of each, where there is no cause against them
pub record AreMadeBy (class method : ℕ) (done : List Planned) (given : List ClassDef) (made : Rewritten) : Type 0 where
  pub fit : first_full_by class done given ≡ None
  pub short : first_long_by method done given ≡ None
  pub classes : made.classes.items ≡ classes_by done given
  pub counts : made.counts.items ≡ counts_by done given

-- classes of these numbers, or why there are none
abbrev pub ComesBy : (class method : ℕ) → List Planned → List ClassDef → Result Rewritten RewriteFail → Type 0
ComesBy class method done given (Ok made) = AreMadeBy class method done given made
ComesBy class method done given (Err fail.NoMemory) = Unit {0}
ComesBy class method done given (Err (fail.PoolFull c indices)) = first_full_by class done given ≡ Some (c.0, indices)
ComesBy class method done given (Err (fail.MethodTooLong m bytes)) =
    (first_full_by class done given ≡ None) × (first_long_by method done given ≡ Some (m.0, bytes))
ComesBy class method done given (Err (fail.CallsFree m offset)) = ⊥
