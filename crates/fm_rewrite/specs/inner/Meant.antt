-- What is to be done with methods is what the definitions insert, also where a method is too long already while no branch is widened.
use Rattle.std.specs.Prelude.{◌≡◌, ℕ, ◌+◌, Bool, List, [], ◌∷◌, length, Option, Some, None}
use Rattle.std.specs.List.{AllByRecursion}
use Rattle.fm_chain.specs.Chained.{has_chain}
use Rattle.fm_chain.specs.Planned.{IsChainPlanOf}
use Rattle.fm_chain.specs.declared.calls.Calls.{Calls}
use Rattle.fm_chain.specs.declared.plans.ChainPlan.{ChainPlan}
use Rattle.fm_code.specs.declared.class_file.ClassDef.{ClassDef}
use Rattle.fm_code.specs.declared.class_file.Member.{Member}
use Rattle.fm_conn.specs.Facts.{Facts}
use Rattle.fm_place.specs.Insertions.{Insertions}
use Rattle.fm_place.specs.Rewriting.{Plans}
use Rattle.fm_rewrite.specs.Alike.{ArePlannedFrom}
use Rattle.fm_rewrite.specs.Causes.{long_method}
use Rattle.fm_rewrite.specs.inner.ByPlans.{others, own}
use Rattle.fm_place_weave.specs.ClassByPlan.{long_attributes}
use Rattle.fm_place_weave.specs.ClassLaws.{IsPlanIn}
use Rattle.fm_place_weave.specs.declared.planned.Planned.{Planned}
use Rattle.fm_place_weave.specs.declared.planned.Planned.TheVariants as planned
use Rattle.fm_world.specs.Programs.{Program}

-- the plan is that of the insertions, for each attribute that is code, and by both the method is too long or not
pub record IsWovenAs (ins : Insertions) (plan : ChainPlan) (m : Member) : Type 0 where
  pub plan_is : IsChainPlanOf ins plan
  pub attributes : AllByRecursion (IsPlanIn ins plan) m.attributes
  pub long : (calls : Calls) → long_attributes calls plan m.attributes ≡ long_method calls (Some ins) m

-- how long a method would be that is too long, and whether it would have a holder of a chain
pub record IsTooLongAs (ins : Insertions) (bytes : ℕ) (chains : Bool) (m : Member) : Type 0 where
  pub long : (calls : Calls) → long_method calls (Some ins) m ≡ Some bytes
  pub chains_are : chains ≡ has_chain ins

-- what is to be done with a method is what is inserted into it
abbrev pub IsMeant : Option Insertions → Planned → Member → Type 0
IsMeant None planned.Same m = Unit {0}
IsMeant (Some ins) (planned.Woven plan) m = IsWovenAs ins plan m
IsMeant (Some ins) (planned.TooLong bytes chains) m = IsTooLongAs ins bytes chains m
IsMeant o p m = ⊥

-- the same of the methods of a class, of which the first has this number
abbrev pub AreMeant : Plans → (first : ℕ) → List Planned → List Member → Type 0
AreMeant plans first [] [] = Unit {0}
AreMeant plans first (p ∷ done) (m ∷ methods) = IsMeant (plans first) p m × AreMeant plans (first + 1) done methods
AreMeant plans first done methods = ⊥

-- the same of classes
abbrev pub AreAllMeant : Plans → (first : ℕ) → List Planned → List ClassDef → Type 0
AreAllMeant plans first done [] = Unit {0}
AreAllMeant plans first done (c ∷ classes) =
    AreMeant plans first (own c done) c.methods × AreAllMeant plans (first + length c.methods) (others c done) classes

-- ---- by the facts of a program

-- the methods of classes are planned by the facts, of which the first has this number
abbrev pub AreAllPlanned : Program → Facts → (chains : Bool) → (first : ℕ) → List Planned → List ClassDef → Type 0
AreAllPlanned p facts chains first done [] = Unit {0}
AreAllPlanned p facts chains first done (c ∷ classes) =
    ArePlannedFrom p facts chains first (own c done) c.methods × AreAllPlanned p facts chains (first + length c.methods) (others c done) classes
