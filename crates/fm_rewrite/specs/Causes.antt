-- The causes for which the class files of a program can't be written by plans: a pool that is full, and a method that is too long.
use Rattle.std.specs.Prelude.{◌≡◌, ℕ, ◌+◌, ◌&&◌, Bool, List, [], ◌∷◌, length, Option, Some, None, option_and_then, nat_lt, if◌then◌else◌}
use Rattle.std.specs.Option.{option_map, option_or}
use Rattle.fm_code.specs.Members.{code_of}
use Rattle.fm_code.specs.declared.class_file.ClassDef.{ClassDef}
use Rattle.fm_code.specs.declared.class_file.Member.{Member}
use Rattle.fm_code.specs.declared.code_array.Code.{Code}
use Rattle.fm_code.specs.declared.code_array.TheConstants.{MAX_CODE_BYTES}
use Rattle.fm_conn.specs.Facts.{AreFacts, Facts}
use Rattle.fm_layout.specs.Laid.{laid_length, refused_length}
use Rattle.fm_place.specs.Insertions.{Insertions}
use Rattle.fm_place.specs.Rewriting.{changes, first_given, Plans}
use Rattle.fm_place.specs.Safe.{full_plans}
use Rattle.fm_chain.specs.Chained.{chained}
use Rattle.fm_chain.specs.Chaining.{class_calls, class_has_chain, entries_for}
use Rattle.fm_chain.specs.SafeChains.{full_chains}
use Rattle.fm_chain.specs.declared.calls.Calls.{Calls}
use Rattle.fm_rewrite.specs.FreeCalls.{first_call}
use Rattle.fm_rewrite.specs.declared.error.RewriteFail.{RewriteFail}
use Rattle.fm_rewrite.specs.declared.error.RewriteFail.TheVariants as fail
use Rattle.fm_summ_shapes.specs.Analysed.{AreLeastTypings}
use Rattle.fm_world.specs.BuiltIns.{built_in}
use Rattle.fm_world.specs.Programs.{Program}

-- ---- pools that are full

-- the most indices that a constant pool may have (JVMS 4.1)
abbrev pub max_pool_indices : ℕ
max_pool_indices = 65535

-- how many indices the pool of a changed class would have, where these are too many
abbrev pub full_pool : Plans → (first : ℕ) → ClassDef → Option ℕ
full_pool plans first c =
    let entries = entries_for (class_has_chain plans first c) c.pool.entries in
    if changes plans first c && nat_lt max_pool_indices (length entries) then Some (length entries) else None

-- the number of the first such class, and how many; the first of these classes has this number, and its first method that one
abbrev pub full_from : Plans → (class first : ℕ) → List ClassDef → Option (ℕ × ℕ)
full_from plans class first [] = None
full_from plans class first (c ∷ classes) =
    option_or (option_map (λ indices. (class, indices)) (full_pool plans first c)) (full_from plans (class + 1) (first + length c.methods) classes)

-- ---- methods that are too long

-- how many bytes a code would have, where these are too many (JVMS 4.7.3)
abbrev pub long_code : Calls → Insertions → Code → Option ℕ
long_code calls plan code =
    if nat_lt MAX_CODE_BYTES (laid_length code.items (chained calls code plan)) then Some (refused_length code.items (chained calls code plan)) else None

-- the same of a method with its plan, if it has one
abbrev pub long_method : Calls → Option Insertions → Member → Option ℕ
long_method calls plan m = option_and_then (λ (own : Insertions). option_and_then (long_code calls own) (code_of m)) plan

-- the number of the first such method of a class, and how many; its first method has this number
abbrev pub long_among : Plans → Calls → (first : ℕ) → List Member → Option (ℕ × ℕ)
long_among plans calls first [] = None
long_among plans calls first (m ∷ methods) =
    option_or (option_map (λ bytes. (first, bytes)) (long_method calls (plans first) m)) (long_among plans calls (first + 1) methods)

-- of these classes
abbrev pub long_from : Plans → (first : ℕ) → List ClassDef → Option (ℕ × ℕ)
long_from plans first [] = None
long_from plans first (c ∷ classes) =
    option_or (long_among plans (class_calls plans first c) first c.methods) (long_from plans (first + length c.methods) classes)

-- ---- causes

-- the pool of the class of this number would have this many indices
abbrev pub pool_full : ℕ × ℕ → RewriteFail
pool_full full = fail.PoolFull (record { 0 = full.0 }) full.1

-- the method of this number would have this many bytes
abbrev pub method_too_long : ℕ × ℕ → RewriteFail
method_too_long long = fail.MethodTooLong (record { 0 = long.0 }) long.1

-- the first cause for which the given classes can't be written by these plans: a pool that is full, else a method that is too long
abbrev pub first_cause : Plans → List ClassDef → Option RewriteFail
first_cause plans given =
    option_or (option_map pool_full (full_from plans (length built_in) first_given given)) (option_map method_too_long (long_from plans first_given given))

-- ---- of a program

-- all that is inserted into the methods of a program, with chains or without
abbrev pub plans_for : (chains : Bool) → Program → Facts → Plans
plans_for chains p facts = if chains then full_chains p facts else full_plans p facts

-- the program doesn't call FreeMe, and by exact facts, over least typings, this is the first cause
pub record AreNotWoven (chains : Bool) (p : Program) (given : List ClassDef) (cause : RewriteFail) : Type 0 where
  pub no_call : first_call p ≡ None
  pub facts : Facts
  pub exact : AreFacts p facts
  pub least : AreLeastTypings p facts.typing
  pub first : first_cause (plans_for chains p facts) given ≡ Some cause
