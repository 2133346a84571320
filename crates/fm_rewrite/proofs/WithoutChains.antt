-- Where no holder holds a chain, what comes of weaving is what comes of rewriting.
use Rattle.std.proofs.Common.{◌≡◌, refl, ◌∙◌, ℕ, false, List, [], ◌∷◌, map, Option, Some, None, Result, Ok, Err}
use Rattle.std.specs.Prelude.{option_and_then}
use Rattle.std.specs.List.{list_any}
use Rattle.fm_chain.proofs.WithoutChains.{classes_are_rewritten}
use Rattle.fm_chain.specs.Chaining.{plan_has_chain}
use Rattle.fm_code.specs.declared.class_file.ClassDef.{ClassDef}
use Rattle.fm_conn.specs.Facts.{Facts}
use Rattle.fm_conn.specs.Nodes.{TypedMethod}
use Rattle.fm_place.specs.Insertions.{all_insertions, full_insertions, Holder, Insertions}
use Rattle.fm_place.specs.Rewriting.{marks_with}
use Rattle.fm_place.specs.Safe.{full_plans, method_in_facts}
use Rattle.fm_place.specs.Sites.{held_sites, site_class}
use Rattle.fm_rewrite.specs.Rewritten.{ComesOfRewritingOf}
use Rattle.fm_rewrite.specs.RewrittenWithChains.{ComesOfWeaving}
use Rattle.fm_rewrite.specs.declared.error.RewriteFail.{RewriteFail}
use Rattle.fm_rewrite.specs.declared.error.RewriteFail.TheVariants as fail
use Rattle.fm_rewrite.specs.declared.rewriting.Rewritten.{Rewritten}
use Rattle.fm_world.specs.Programs.{Program}

-- ---- plans

-- all that can be inserted into a method has no holder of a chain
no_chain : (facts : Facts) (x : TypedMethod) (sites : List ℕ)
    → list_any (λ (h : Holder). h.looped) (map (λ j. record { site = j; class = site_class facts x j; looped = false }) sites) ≡ false
no_chain facts x [] = refl
no_chain facts x (j ∷ sites) = no_chain facts x sites

full_plain : (facts : Facts) (x : TypedMethod) → plan_has_chain (full_insertions facts x) ≡ false
full_plain facts x = of_sites (held_sites facts x) where
  plan_of : List ℕ → Option Insertions
  plan_of [] = None
  plan_of (site ∷ sites) = Some (all_insertions facts x)

  of_sites : (sites : List ℕ) → plan_has_chain (plan_of sites) ≡ false
  of_sites [] = refl
  of_sites (site ∷ sites) = no_chain facts x (held_sites facts x)

pub plans_plain : (p : Program) (facts : Facts) (method : ℕ) → plan_has_chain (full_plans p facts method) ≡ false
plans_plain p facts method = by_method (method_in_facts p facts method) where
  by_method : (found : Option TypedMethod) → plan_has_chain (option_and_then (full_insertions facts) found) ≡ false
  by_method None = refl
  by_method (Some x) = full_plain facts x

-- ---- what becomes of the classes

pub comes_plain : (p : Program) (given : List ClassDef) (result : Result Rewritten RewriteFail) → ComesOfWeaving false p given result
    → ComesOfRewritingOf p given result
comes_plain p given (Ok made) by = record {
  no_call = by.no_call;
  marks = marks_with (full_plans p by.facts) given;
  full = record {
    facts = by.facts;
    exact = by.exact;
    written_is = by.written_is ∙ (classes_are_rewritten (full_plans p by.facts) (plans_plain p by.facts) given).classes_are;
    marks_are = refl;
  };
  least = by.least;
  no_cause = by.no_cause;
  counts_are = by.counts_are;
}
comes_plain p given (Err (fail.CallsFree method offset)) by = by
comes_plain p given (Err (fail.PoolFull class indices)) by = by
comes_plain p given (Err (fail.MethodTooLong method bytes)) by = by
comes_plain p given (Err fail.NoMemory) by = tt
