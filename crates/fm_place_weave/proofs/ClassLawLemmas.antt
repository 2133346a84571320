-- Changed classes by plans are those that the definitions give.
use Rattle.std.proofs.Common.{◌≡◌, ℕ, ◌+◌, ◌||◌, Bool, true, false, List, [], ◌∷◌, length, map, Option, Some, None, refl, sym, ap, ◌∙◌, if◌then◌else◌}
use Rattle.std.specs.List.{AllByRecursion, list_any, range_with_len}
use Rattle.fm_chain.proofs.PlanLaws.{plans_have_the_chains}
use Rattle.fm_chain.specs.Chaining.{calls_for, chained_attribute, chained_method, chained_methods, changed_class, class_calls, class_has_chain, entries_for, plan_has_chain}
use Rattle.fm_chain.specs.declared.calls.Calls.{Calls}
use Rattle.fm_chain.specs.declared.plans.ChainPlan.{ChainPlan}
use Rattle.fm_code.specs.FreeEntries.{with_free}
use Rattle.fm_code.specs.declared.class_file.ClassDef.{ClassDef}
use Rattle.fm_code.specs.declared.class_file.Member.{Member}
use Rattle.fm_code.specs.declared.class_file.MemberAttr.{MemberAttr}
use Rattle.fm_code.specs.declared.class_file.MemberAttr.TheVariants as attribute
use Rattle.fm_place.specs.Insertions.{Insertions}
use Rattle.fm_place.specs.Rewriting.{changes, free_index, Plans, rewritten_class, rewritten_major, rewritten_methods}
use Rattle.fm_place_weave.proofs.PlanLemmas.{code-is}
use Rattle.fm_place_weave.specs.ClassByPlan.{attribute_by, chains_in, method_by, methods_by}
use Rattle.fm_place_weave.specs.ClassLaws.{AreAlike, ClassesAreChained, IsAlike, IsPlanIn}
use Rattle.fm_place_weave.specs.declared.planned.Planned.{Planned}
use Rattle.fm_place_weave.specs.declared.planned.Planned.TheVariants as planned

attribute-same : (calls : Calls) (ins : Insertions) (plan : ChainPlan) (a : MemberAttr) → IsPlanIn ins plan a
    → attribute_by calls plan a ≡ chained_attribute calls ins a
attribute-same calls ins plan (attribute.Coded name code) is = ap (λ c. attribute.Coded name c) (code-is calls code ins plan is)
attribute-same calls ins plan (attribute.Constant name value) is = refl
attribute-same calls ins plan (attribute.Other raw) is = refl

attributes-same : (calls : Calls) (ins : Insertions) (plan : ChainPlan) (attributes : List MemberAttr) → AllByRecursion (IsPlanIn ins plan) attributes
    → map (attribute_by calls plan) attributes ≡ map (chained_attribute calls ins) attributes
attributes-same calls ins plan [] all = refl
attributes-same calls ins plan (a ∷ attributes) (one, rest) =
    λ k. attribute-same calls ins plan a one k ∷ attributes-same calls ins plan attributes rest k

method-same : (calls : Calls) (o : Option Insertions) (p : Planned) (m : Member) → IsAlike o p m → method_by calls p m ≡ chained_method calls o m
method-same calls None planned.Same m alike = refl
method-same calls None (planned.Woven plan) m alike = absurd alike
method-same calls None (planned.TooLong bytes chains) m alike = absurd alike
method-same calls (Some ins) planned.Same m alike = absurd alike
method-same calls (Some ins) (planned.Woven plan) m alike =
    ap (λ (attributes : List MemberAttr). record m { attributes = attributes }) (attributes-same calls ins plan m.attributes alike.1)
method-same calls (Some ins) (planned.TooLong bytes chains) m alike = absurd alike

methods-same : (plans : Plans) (calls : Calls) (first : ℕ) (planned : List Planned) (methods : List Member) → AreAlike plans first planned methods
    → methods_by calls planned methods ≡ chained_methods plans calls first methods
methods-same plans calls first [] [] alike = refl
methods-same plans calls first [] (m ∷ methods) alike = absurd alike
methods-same plans calls first (p ∷ planned) [] alike = absurd alike
methods-same plans calls first (p ∷ planned) (m ∷ methods) (one, rest) =
    λ k. method-same calls (plans first) p m one k ∷ methods-same plans calls (first + 1) planned methods rest k

-- ---- chains

-- a plan has a holder of a chain where its insertions have one
chain-same : (o : Option Insertions) (p : Planned) (m : Member) → IsAlike o p m → chains_in p ≡ plan_has_chain o
chain-same None planned.Same m alike = refl
chain-same None (planned.Woven plan) m alike = absurd alike
chain-same None (planned.TooLong bytes chains) m alike = absurd alike
chain-same (Some ins) planned.Same m alike = absurd alike
chain-same (Some ins) (planned.Woven plan) m alike = plans_have_the_chains ins plan alike.0
chain-same (Some ins) (planned.TooLong bytes chains) m alike = absurd alike

chains-same : (plans : Plans) (first : ℕ) (planned : List Planned) (methods : List Member) → AreAlike plans first planned methods
    → list_any chains_in planned ≡ list_any (λ method. plan_has_chain (plans method)) (range_with_len first (length methods))
chains-same plans first [] [] alike = refl
chains-same plans first [] (m ∷ methods) alike = absurd alike
chains-same plans first (p ∷ planned) [] alike = absurd alike
chains-same plans first (p ∷ planned) (m ∷ methods) (one, rest) =
    λ k. chain-same (plans first) p m one k || chains-same plans (first + 1) planned methods rest k

pub classes_are_chained : ClassesAreChained
classes_are_chained plans first planned c alike changed =
    let chains = chains-same plans first planned c.methods alike in
    (λ k. record c {
      minor = 0;
      major = rewritten_major;
      pool = record { entries = entries_for (chains k) c.pool.entries };
      methods = methods_by (calls_for (chains k) c.pool.entries) planned c.methods;
    })
    ∙ ap (λ (methods : List Member). record c {
      minor = 0;
      major = rewritten_major;
      pool = record { entries = entries_for (class_has_chain plans first c) c.pool.entries };
      methods = methods;
    }) (methods-same plans (class_calls plans first c) first planned c.methods alike)
    ∙ sym (ap (λ (b : Bool). if b then changed_class plans first c else c) changed)

-- ---- without chains

-- the class, as it is or changed
abbrev pub by_change : Plans → (first : ℕ) → ClassDef → Bool → ClassDef
by_change plans first c false = c
by_change plans first c true = record c {
  minor = 0;
  major = rewritten_major;
  pool = record { entries = with_free c.pool.entries };
  methods = rewritten_methods plans (free_index c) first c.methods;
}

pub rewritten-is : (plans : Plans) (first : ℕ) (c : ClassDef) → rewritten_class plans first c ≡ by_change plans first c (changes plans first c)
rewritten-is plans first c = refl
