-- Which insertions keep a program's meaning, and which of these is made. The program may be narrowed: then it is said by which of its classes objects are made.
use Rattle.std.specs.Prelude.{◌≡◌, ◌+◌, ℕ, ◌<◌, ◌≤◌, Bool, true, false, List, length, map, Option, Some, option_and_then, option_map, Contains, nat_eq, slice_get}
use Rattle.std.specs.List.{AllByRecursion, IsDistinct}
use Rattle.fm_base.specs.declared.limits.TheConstants.{MAX_LOCAL_WORDS}
use Rattle.fm_code.specs.declared.class_file.ClassDef.{ClassDef}
use Rattle.fm_conn.specs.Facts.{AreFacts, Facts}
use Rattle.fm_conn.specs.Links.{typed_method}
use Rattle.fm_conn.specs.Nodes.{TypedMethod}
use Rattle.fm_world.specs.Programs.{code_at, Program, program_of}
use Rattle.fm_place.specs.Insertions.{before_at, full_insertions, Holder, Insertions}
use Rattle.fm_place.specs.Places.{is_busy, MayHold}
use Rattle.fm_place.specs.Rewriting.{marks_with, Plans, rewritten}
use Rattle.fm_place.specs.Sites.{is_captured_site, site_class}

-- ---- narrowed programs

-- the program with these as the classes of which objects are made, or with all of its classes
abbrev pub narrowed_to : Program → Option (List Bool) → Program
narrowed_to p made = record p { made = made }

-- the program is that of these class files with this main class, narrowed or not
abbrev pub IsProgramOf : List ClassDef → List ℕ → Program → Type 0
IsProgramOf given main p = p ≡ narrowed_to (program_of given main) p.made

-- ---- one method

-- a holder's site is captured, and its class is that of the site's object
pub record IsSafeHolder (facts : Facts) (x : TypedMethod) (h : Holder) : Type 0 where
  pub captured : is_captured_site facts x h.site ≡ true
  pub class : h.class ≡ site_class facts x h.site

-- a holder that is freed before item j is there, and its class isn't busy at j
pub record MayFree (facts : Facts) (x : TypedMethod) (plan : Insertions) (j number : ℕ) : Type 0 where
  pub holder : Holder
  pub is : slice_get plan.holders number ≡ Some holder
  pub quiet : is_busy facts x holder.class j ≡ false

-- Before item j each holder is freed at most once, and only where its class isn't busy; and each one is freed that may hold something there. The order is
-- left open, and a holder that can't hold anything may be freed too: it is null then.
pub record IsSafeAt (facts : Facts) (x : TypedMethod) (plan : Insertions) (j : ℕ) : Type 0 where
  pub once : IsDistinct nat_eq (before_at plan j)
  pub may : (number : ℕ) → Contains (before_at plan j) number → MayFree facts x plan j number
  pub must : (number : ℕ) (holder : Holder) → slice_get plan.holders number ≡ Some holder → is_busy facts x holder.class j ≡ false
      → MayHold facts x holder.site holder.class j → Contains (before_at plan j) number

-- what is inserted into a method keeps its meaning: there are holders, as many as there are locals left for, each one of a site of its own
pub record AreSafe (facts : Facts) (x : TypedMethod) (plan : Insertions) : Type 0 where
  pub some : 0 < length plan.holders
  pub room : x.code.max_locals + length plan.holders ≤ MAX_LOCAL_WORDS
  pub holders : AllByRecursion (IsSafeHolder facts x) plan.holders
  pub own_sites : IsDistinct nat_eq (map (λ (h : Holder). h.site) plan.holders)
  pub one_each : length plan.before ≡ length x.code.items
  pub items : (j : ℕ) → j < length x.code.items → IsSafeAt facts x plan j

-- ---- a program

-- a method that has code, as the facts have it
abbrev pub method_in_facts : Program → Facts → ℕ → Option TypedMethod
method_in_facts p facts method = option_map (typed_method p facts.typing method) (code_at p method)

-- no holder holds a chain
abbrev pub HoldsNoChain : Insertions → Type 0
HoldsNoChain plan = AllByRecursion (λ (h : Holder). h.looped ≡ false) plan.holders

-- a method that is changed has code, and what is inserted is safe, without chains
pub record IsSafeMethod (p : Program) (facts : Facts) (method : ℕ) (plan : Insertions) : Type 0 where
  pub x : TypedMethod
  pub is : method_in_facts p facts method ≡ Some x
  pub safe : AreSafe facts x plan
  pub plain : HoldsNoChain plan

-- The classes written are those given with insertions that are safe in this program of the classes given, and the marks say which items are inserted.
pub record SafeOf (p : Program) (given written : List ClassDef) (marks : List (List (Option ℕ))) : Type 0 where
  pub facts : Facts
  pub exact : AreFacts p facts
  pub plans : Plans
  pub methods : (method : ℕ) (plan : Insertions) → plans method ≡ Some plan → IsSafeMethod p facts method plan
  pub written_is : written ≡ rewritten plans given
  pub marks_are : marks ≡ marks_with plans given

-- the same by the program that isn't narrowed
abbrev pub Safe : (given : List ClassDef) (main : List ℕ) (written : List ClassDef) (marks : List (List (Option ℕ))) → Type 0
Safe given main written marks = SafeOf (program_of given main) given written marks

-- ---- all held sites and all places

-- of each method that has code, all that can be inserted
abbrev pub full_plans : Program → Facts → Plans
full_plans p facts method = option_and_then (full_insertions facts) (method_in_facts p facts method)

-- In this program of the classes given exactly the held sites have holders, and each is freed exactly at its places: whatever the numbers of classes, one
-- result.
pub record FullOf (p : Program) (given written : List ClassDef) (marks : List (List (Option ℕ))) : Type 0 where
  pub facts : Facts
  pub exact : AreFacts p facts
  pub written_is : written ≡ rewritten (full_plans p facts) given
  pub marks_are : marks ≡ marks_with (full_plans p facts) given

-- the same by the program that isn't narrowed
abbrev pub Full : (given : List ClassDef) (main : List ℕ) (written : List ClassDef) (marks : List (List (Option ℕ))) → Type 0
Full given main written marks = FullOf (program_of given main) given written marks
