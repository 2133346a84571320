-- What classes by plans have to do with the definitions of rewritten classes.
use Rattle.std.specs.Prelude.{◌≡◌, ℕ, ◌+◌, true, List, [], ◌∷◌, Option, Some, None}
use Rattle.std.specs.List.{AllByRecursion}
use Rattle.fm_chain.specs.Chaining.{chained_class}
use Rattle.fm_chain.specs.Planned.{IsChainPlanOf}
use Rattle.fm_chain.specs.declared.plans.ChainPlan.{ChainPlan}
use Rattle.fm_code.specs.declared.class_file.ClassDef.{ClassDef}
use Rattle.fm_code.specs.declared.class_file.Member.{Member}
use Rattle.fm_code.specs.declared.class_file.MemberAttr.{MemberAttr}
use Rattle.fm_code.specs.declared.class_file.MemberAttr.TheVariants as attribute
use Rattle.fm_place.specs.Insertions.{Insertions}
use Rattle.fm_place.specs.Rewriting.{changes, Plans}
use Rattle.fm_place_weave.specs.ClassByPlan.{class_by}
use Rattle.fm_place_weave.specs.Laws.{IsWholePlan}
use Rattle.fm_place_weave.specs.declared.planned.Planned.{Planned}
use Rattle.fm_place_weave.specs.declared.planned.Planned.TheVariants as planned

-- the plan is that of these insertions for an attribute that is code
abbrev pub IsPlanIn : Insertions → ChainPlan → MemberAttr → Type 0
IsPlanIn ins plan (attribute.Coded name code) = IsWholePlan code ins plan
IsPlanIn ins plan a = Unit {0}

-- what is to be done with a method is what the definitions insert: nothing, or what the plan lists
abbrev pub IsAlike : Option Insertions → Planned → Member → Type 0
IsAlike None planned.Same m = Unit {0}
IsAlike (Some ins) (planned.Woven plan) m = IsChainPlanOf ins plan × AllByRecursion (IsPlanIn ins plan) m.attributes
IsAlike o p m = ⊥

-- the same of all methods of a class, whose first one has this number
abbrev pub AreAlike : Plans → (first : ℕ) → List Planned → List Member → Type 0
AreAlike plans first [] [] = Unit {0}
AreAlike plans first (p ∷ planned) (m ∷ methods) = IsAlike (plans first) p m × AreAlike plans (first + 1) planned methods
AreAlike plans first planned methods = ⊥

-- a changed class by plans is the one that the definitions give
abbrev pub ClassesAreChained : Type 0
ClassesAreChained =
    (plans : Plans) (first : ℕ) (planned : List Planned) (c : ClassDef) → AreAlike plans first planned c.methods → changes plans first c ≡ true
    → class_by planned c ≡ chained_class plans first c
