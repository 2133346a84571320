-- What weaving requires of a method's code and its plan.
use Rattle.std.specs.Prelude.{◌+◌, ℕ, ◌<◌, ◌≤◌, Bool, List, length}
use Rattle.std.specs.List.{AllByRecursion}
use Rattle.fm_base.specs.declared.limits.TheConstants.{MAX_LOCAL_WORDS, MAX_STACK_WORDS}
use Rattle.fm_code.specs.Edges.{MeetsCodeRules}
use Rattle.fm_code.specs.declared.code_array.Code.{Code}
use Rattle.fm_layout.specs.Conditions.{AreNewItems, AreOldItems}
use Rattle.fm_layout.specs.Laid.{laid_of}
use Rattle.fm_layout.specs.Tables.{AreAnchors}
use Rattle.fm_chain.specs.Planned.{added_words}
use Rattle.fm_chain.specs.declared.calls.Calls.{Calls}
use Rattle.fm_chain.specs.declared.plans.ChainPlan.{ChainPlan}
use Rattle.fm_place_weave.specs.ByPlan.{anchors_by, items_by}

-- the holder of a pair has a local, which is this many after the first one that is added
abbrev pub IsLocal : ℕ → (ℕ × ℕ) → Type 0
IsLocal first p = first + p.1 < MAX_LOCAL_WORDS

-- the holders of all pairs have
abbrev pub AreLocals : ℕ → List (ℕ × ℕ) → Type 0
AreLocals first pairs = AllByRecursion (IsLocal first) pairs

-- there is a flag for the holder of a pair
abbrev pub IsFlagged : List Bool → (ℕ × ℕ) → Type 0
IsFlagged looped p = p.1 < length looped

-- there is one for the holders of all pairs
abbrev pub AreFlagged : List Bool → List (ℕ × ℕ) → Type 0
AreFlagged looped pairs = AllByRecursion (IsFlagged looped) pairs

-- there are locals and flags for all holders, and those of the pairs are among them
pub record HasRoom (code : Code) (p : ChainPlan) : Type 0 where
  pub holders : code.max_locals + p.plan.holders ≤ MAX_LOCAL_WORDS
  pub flags : p.plan.holders ≤ length p.looped
  pub before : AreLocals code.max_locals p.plan.before.items
  pub after : AreLocals code.max_locals p.plan.after.items
  pub freed : AreFlagged p.looped p.plan.before.items
  pub taken : AreFlagged p.looped p.plan.after.items

-- the code may be woven by the plan: its result may be laid out, and there is room for what is put
-- on its stack besides
pub record MayBeWoven (calls : Calls) (code : Code) (plan : ChainPlan) : Type 0 where
  pub old_items : AreOldItems code.items
  pub rules : MeetsCodeRules code
  pub room : HasRoom code plan
  pub stack : code.max_stack + added_words plan ≤ MAX_STACK_WORDS
  pub new_items : AreNewItems code.items (items_by calls code plan)
  pub anchors : AreAnchors code (laid_of code.items (items_by calls code plan)) (anchors_by code plan)
