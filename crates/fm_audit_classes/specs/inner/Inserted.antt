-- What is to be done with methods by insertions that have room.
use Rattle.std.specs.Prelude.{◌≡◌, ℕ, ◌+◌, ◌<◌, ◌≤◌, false, List, [], ◌∷◌, length, Contains, Option, Some, None}
use Rattle.std.specs.List.{AllByRecursion}
use Rattle.fm_base.specs.declared.limits.TheConstants.{MAX_LOCAL_WORDS}
use Rattle.fm_chain.specs.Chained.{has_chain}
use Rattle.fm_chain.specs.declared.plans.ChainPlan.{ChainPlan}
use Rattle.fm_code.specs.Edges.{MeetsCodeRules}
use Rattle.fm_code.specs.Members.{code_of}
use Rattle.fm_code.specs.declared.class_file.ClassDef.{ClassDef}
use Rattle.fm_code.specs.declared.class_file.Member.{Member}
use Rattle.fm_code.specs.declared.code_array.Code.{Code}
use Rattle.fm_layout.specs.Conditions.{AreOldItems}
use Rattle.fm_place.specs.Insertions.{before_at, Insertions}
use Rattle.fm_place.specs.Rewriting.{Plans}
use Rattle.fm_place_weave.specs.Laws.{IsWholePlan}
use Rattle.fm_place_weave.specs.declared.planned.Planned.{Planned}
use Rattle.fm_place_weave.specs.declared.planned.Planned.TheVariants as planned
use Rattle.fm_rewrite.specs.Alike.{IsOwnCode}
use Rattle.fm_rewrite.specs.inner.ByPlans.{others, own}

-- the plan lists the insertions, of which no holder holds a chain and for which there is room, in the only code of the method
pub record HasInsertions (ins : Insertions) (plan : ChainPlan) (m : Member) : Type 0 where
  pub code : Code
  pub coded : code_of m ≡ Some code
  pub own : AllByRecursion (IsOwnCode code) m.attributes
  pub whole : IsWholePlan code ins plan
  pub plain : has_chain ins ≡ false
  pub old_items : AreOldItems code.items
  pub rules : MeetsCodeRules code
  pub room : code.max_locals + length ins.holders ≤ MAX_LOCAL_WORDS
  pub before : (j number : ℕ) → Contains (before_at ins j) number → number < length ins.holders

-- what is to be done with a method is what is inserted into it: nothing, or what the plan lists
abbrev pub IsInserted : Option Insertions → Planned → Member → Type 0
IsInserted None planned.Same m = Unit {0}
IsInserted (Some ins) (planned.Woven plan) m = HasInsertions ins plan m
IsInserted o d m = ⊥

-- this holds of each method of a class with what is to be done with it and its number, of which the first is this
abbrev pub AreEachMethod : (ℕ → Planned → Member → Type 0) → (first : ℕ) → List Planned → List Member → Type 0
AreEachMethod P first [] [] = Unit {0}
AreEachMethod P first (d ∷ done) (m ∷ methods) = P first d m × AreEachMethod P (first + 1) done methods
AreEachMethod P first done methods = ⊥

-- of classes
abbrev pub AreEachClass : (ℕ → Planned → Member → Type 0) → (first : ℕ) → List Planned → List ClassDef → Type 0
AreEachClass P first done [] = Unit {0}
AreEachClass P first done (c ∷ classes) =
    AreEachMethod P first (own c done) c.methods × AreEachClass P (first + length c.methods) (others c done) classes

-- what is to be done with the methods of a class is what is inserted into them
abbrev pub AreInserted : Plans → (first : ℕ) → List Planned → List Member → Type 0
AreInserted plans first done methods = AreEachMethod (λ n d m. IsInserted (plans n) d m) first done methods

-- of classes
abbrev pub AreAllInserted : Plans → (first : ℕ) → List Planned → List ClassDef → Type 0
AreAllInserted plans first done classes = AreEachClass (λ n d m. IsInserted (plans n) d m) first done classes
