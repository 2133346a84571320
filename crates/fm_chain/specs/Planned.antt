-- What is inserted into a method as pairs of an item and a holder, with a flag for each holder.
use Rattle.std.specs.Prelude.{◌≡◌, ◌<◌, ℕ, Bool, true, false, List, [], ◌∷◌, length, map, replicate, slice_set, if◌then◌else◌}
use Rattle.std.specs.List.{list_any, range_with_len}
use Rattle.fm_base.specs.Rows.{has}
use Rattle.fm_code.specs.declared.code_array.Code.{Code}
use Rattle.fm_place.specs.Insertions.{Holder, Insertions}
use Rattle.fm_place.specs.PlansBy.{IsPlanOf}
use Rattle.fm_place.specs.declared.plans.Plan.{Plan}
use Rattle.fm_chain.specs.Loops.{is_looped}
use Rattle.fm_chain.specs.declared.plans.ChainPlan.{ChainPlan}

-- one of the plan's holders holds a chain
abbrev pub has_chain : ChainPlan → Bool
has_chain p = list_any (has p.looped) (range_with_len 0 p.plan.holders)

-- how many words of stack what is inserted takes at most
abbrev pub added_words : ChainPlan → ℕ
added_words p = if has_chain p then 2 else 1

-- the site of a pair is an item, and its holder is one of this many
pub record IsSiteIn (code : Code) (holders : ℕ) (p : ℕ × ℕ) : Type 0 where
  pub site : p.0 < length code.items
  pub holder : p.1 < holders

-- the flags, with those of the holders of these sites that lie in loops
abbrev pub flags_with : Code → List Bool → List (ℕ × ℕ) → List Bool
flags_with code flags [] = flags
flags_with code flags (p ∷ after) = flags_with code (if is_looped code p.0 then slice_set flags p.1 true else flags) after

-- of all holders of a plan
abbrev pub chain_flags : Code → Plan → List Bool
chain_flags code plan = flags_with code (replicate plan.holders false) plan.after.items

-- the pairs and the flags are the same insertions
pub record IsChainPlanOf (insertions : Insertions) (p : ChainPlan) : Type 0 where
  pub plan_is : IsPlanOf insertions p.plan
  pub flags : p.looped ≡ map (λ (h : Holder). h.looped) insertions.holders
