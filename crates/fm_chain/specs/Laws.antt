-- What follows of the definitions.
use Rattle.std.specs.Prelude.{◌≡◌, ℕ, ◌+◌, ◌<◌, ◌≤◌, ◌^◌, false, List, length, Option, Some, Contains, slice_get}
use Rattle.std.specs.List.{AllByRecursion}
use Rattle.fm_base.specs.declared.limits.TheConstants.{MAX_LOCAL_WORDS}
use Rattle.fm_code.specs.ClassBytes.{pool_bytes}
use Rattle.fm_code.specs.ConstantPool.{method_ref_at, SpellsPool}
use Rattle.fm_code.specs.Fits.{FitsTwo}
use Rattle.fm_code.specs.FreeEntries.{free_method, sought_free}
use Rattle.fm_code.specs.Profile.{EntryIsSupported}
use Rattle.fm_code.specs.declared.class_file.ClassDef.{ClassDef}
use Rattle.fm_code.specs.declared.code_array.Code.{Code}
use Rattle.fm_code.specs.declared.constant_pool.Entry.{Entry}
use Rattle.fm_code.specs.declared.constant_pool.Pool.{Pool}
use Rattle.fm_layout.specs.Conditions.{AreNewItems, AreOldItems}
use Rattle.fm_layout.specs.Laid.{laid_of}
use Rattle.fm_layout.specs.Tables.{AreAnchors}
use Rattle.fm_layout.specs.declared.laying.TheConstants.{MAX_NEW_ITEMS}
use Rattle.fm_place.specs.Insertions.{before_at, Holder, Insertions}
use Rattle.fm_place.specs.PlansBy.{IsPlanOf}
use Rattle.fm_place.specs.declared.plans.Plan.{Plan}
use Rattle.fm_place.specs.Rewriting.{marks_with, Plans, rewritten}
use Rattle.fm_place.specs.Woven.{woven_code, woven_marks}
use Rattle.fm_world.specs.Programs.{Program}
use Rattle.fm_chain.specs.ChainEntries.{chain_method, link_method, sought_chain, sought_link, with_chains}
use Rattle.fm_chain.specs.Chained.{anchors_of, chained, chained_code, chained_marks, has_chain}
use Rattle.fm_chain.specs.Chaining.{chained_classes, chained_marks_with, plan_has_chain}
use Rattle.fm_chain.specs.Planned.{chain_flags, IsChainPlanOf}
use Rattle.fm_chain.specs.Planned as planned
use Rattle.fm_chain.specs.SafeChains.{FullChainsOf, SafeChainsOf, with_loops}
use Rattle.fm_chain.specs.declared.plans.ChainPlan.{ChainPlan}
use Rattle.fm_chain.specs.declared.calls.Calls.{Calls}

-- what a code becomes where no holder holds a chain is what it becomes without chains
pub record IsWovenCode (calls : Calls) (code : Code) (plan : Insertions) : Type 0 where
  pub code_is : chained_code calls code plan ≡ woven_code calls.free code plan
  pub marks_are : chained_marks calls code plan ≡ woven_marks calls.free code plan

-- so it is of each code
abbrev pub CodesAreWoven : Type 0
CodesAreWoven = (calls : Calls) (code : Code) (plan : Insertions) → has_chain plan ≡ false → IsWovenCode calls code plan

-- the same of class files and their marks
pub record AreRewrittenClasses (plans : Plans) (given : List ClassDef) : Type 0 where
  pub classes_are : chained_classes plans given ≡ rewritten plans given
  pub marks_are : chained_marks_with plans given ≡ marks_with plans given

-- so it is of all class files by plans of which none has a holder of a chain
abbrev pub ClassesAreRewritten : Type 0
ClassesAreRewritten = (plans : Plans) → ((method : ℕ) → plan_has_chain (plans method) ≡ false) → (given : List ClassDef) → AreRewrittenClasses plans given

-- all held sites and all places together are among what `SafeChainsOf` names, whatever the program is
abbrev pub FullChainsAreSafe : Type 0
FullChainsAreSafe =
    (p : Program) (given written : List ClassDef) (marks : List (List (Option ℕ)))
    → FullChainsOf p given written marks → SafeChainsOf p given written marks

-- ---- layout

-- there is room for a plan's holders, and what it frees are its holders; and the entries of the methods fit an instruction
pub record CallsSuit (calls : Calls) (code : Code) (plan : Insertions) : Type 0 where
  pub free : FitsTwo calls.free
  pub link : FitsTwo calls.link
  pub free_chain : FitsTwo calls.free_chain
  pub room : code.max_locals + length plan.holders ≤ MAX_LOCAL_WORDS
  pub before : (j number : ℕ) → Contains (before_at plan j) number → number < length plan.holders

-- the new items are what layout requires
abbrev pub ChainedIsLaidOut : Type 0
ChainedIsLaidOut =
    (calls : Calls) (code : Code) (plan : Insertions) → AreOldItems code.items → CallsSuit calls code plan
    → length (chained calls code plan) < MAX_NEW_ITEMS → AreNewItems code.items (chained calls code plan)

-- and the anchors are what tables move by
abbrev pub ChainedAnchorsAreAnchors : Type 0
ChainedAnchorsAreAnchors =
    (calls : Calls) (code : Code) (plan : Insertions) → AreAnchors code (laid_of code.items (chained calls code plan)) (anchors_of plan code.items)

-- ---- plans

-- by the pairs of a plan the flags are those of the holders whose sites lie in loops
abbrev pub ChainPlansAreLooped : Type 0
ChainPlansAreLooped =
    (code : Code) (insertions : Insertions) (plan : Plan) → IsPlanOf insertions plan
    → ((number : ℕ) (h : Holder) → slice_get insertions.holders number ≡ Some h → h.site < length insertions.before)
    → IsChainPlanOf (with_loops code insertions) (record { plan = plan; looped = chain_flags code plan })

-- a plan has a holder of a chain where its insertions have one
abbrev pub PlansHaveTheChains : Type 0
PlansHaveTheChains = (insertions : Insertions) (p : ChainPlan) → IsChainPlanOf insertions p → planned.has_chain p ≡ has_chain insertions

-- ---- pools

-- with the entries that were missing the three indices name the methods of FreeMe
pub record AreNamed (entries : List Entry) : Type 0 where
  pub free : method_ref_at (with_chains entries) (sought_free entries).index ≡ Some free_method
  pub link : method_ref_at (with_chains entries) (sought_link entries).index ≡ Some link_method
  pub free_chain : method_ref_at (with_chains entries) (sought_chain entries).index ≡ Some chain_method

-- so they do in each pool
abbrev pub CallsAreNamed : Type 0
CallsAreNamed = (entries : List Entry) → AreNamed entries

-- none of them is of a sort that isn't supported
abbrev pub EntriesAreSupported : Type 0
EntriesAreSupported = (entries : List Entry) → AllByRecursion EntryIsSupported entries → AllByRecursion EntryIsSupported (with_chains entries)

-- some bytes spell the pool with them, where it has room (JVMS 4.1)
abbrev pub PoolsAreSpelled : Type 0
PoolsAreSpelled =
    (pool : Pool) → SpellsPool (pool_bytes pool) pool → length (with_chains pool.entries) < 2 ^ 16
    → SpellsPool (pool_bytes (record { entries = with_chains pool.entries })) (record { entries = with_chains pool.entries })
