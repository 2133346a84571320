-- Which insertions with chains are called safe: those whose plans are safe without chains; and the full ones.
use Rattle.std.specs.Prelude.{◌≡◌, ℕ, List, map, Option, Some, None}
use Rattle.fm_code.specs.declared.class_file.ClassDef.{ClassDef}
use Rattle.fm_code.specs.declared.code_array.Code.{Code}
use Rattle.fm_conn.specs.Facts.{AreFacts, Facts}
use Rattle.fm_place.specs.Insertions.{Holder, Insertions}
use Rattle.fm_place.specs.Rewriting.{Plans}
use Rattle.fm_place.specs.Safe.{full_plans, IsSafeMethod}
use Rattle.fm_world.specs.Programs.{code_at, Program}
use Rattle.fm_chain.specs.Chaining.{chained_classes, chained_marks_with}
use Rattle.fm_chain.specs.Loops.{is_looped}

-- ---- which holders hold chains

-- the holders of sites that lie in loops
abbrev pub with_loops : Code → Insertions → Insertions
with_loops code plan = record plan { holders = map (λ (h : Holder). record h { looped = is_looped code h.site }) plan.holders }

-- so it is of the plan of a method that has code, if it has one
abbrev pub looped_plan : Option Code → Option Insertions → Option Insertions
looped_plan None plan = None
looped_plan (Some code) None = None
looped_plan (Some code) (Some plan) = Some (with_loops code plan)

-- and of the plans of all methods of a program
abbrev pub looped_plans : Program → Plans → Plans
looped_plans p plans method = looped_plan (code_at p method) (plans method)

-- ---- a program

-- The classes written are those given with insertions that are safe in this program of the classes given, where holders of sites in loops hold chains; the
-- marks say which items are inserted. The program may be narrowed.
pub record SafeChainsOf (p : Program) (given written : List ClassDef) (marks : List (List (Option ℕ))) : Type 0 where
  pub facts : Facts
  pub exact : AreFacts p facts
  pub plans : Plans
  pub methods : (method : ℕ) (plan : Insertions) → plans method ≡ Some plan → IsSafeMethod p facts method plan
  pub written_is : written ≡ chained_classes (looped_plans p plans) given
  pub marks_are : marks ≡ chained_marks_with (looped_plans p plans) given

-- of each method that has code, all that can be inserted
abbrev pub full_chains : Program → Facts → Plans
full_chains p facts = looped_plans p (full_plans p facts)

-- in this program of the classes given exactly the held sites have holders, and each is freed exactly at its places
pub record FullChainsOf (p : Program) (given written : List ClassDef) (marks : List (List (Option ℕ))) : Type 0 where
  pub facts : Facts
  pub exact : AreFacts p facts
  pub written_is : written ≡ chained_classes (full_chains p facts) given
  pub marks_are : marks ≡ chained_marks_with (full_chains p facts) given
