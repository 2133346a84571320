-- The lists of targets, and the calls of all methods by them.
use Rattle.std.specs.Prelude.{◌≡◌, ℕ, List, map}
use Rattle.std.specs.List.{flat_map}
use Rattle.fm_flow.specs.inner.LiveWalks.{list_of}
use Rattle.fm_world.specs.Programs.{targets, Program}
use Rattle.fm_conn.specs.declared.shapes.Shape.{Shape}
use Rattle.fm_summ.specs.declared.calls.Calls.{Calls}
use Rattle.fm_summ.specs.declared.target_lists.TargetLists.{TargetLists}
use Rattle.fm_summ.specs.inner.Callers.{called_by, lists_of, shape_targets, HasCallers}

-- each list has the targets of its call
abbrev pub KnowsCalls : Program → TargetLists → Type 0
KnowsCalls p known = lists_of known.lists.items ≡ map (targets p) known.calls.items

-- the targets of each call of a method
abbrev pub targets_of : Calls → ℕ → List (List ℕ)
targets_of calls method = called_by (lists_of calls.known.lists.items) (list_of (lists_of calls.of_methods.items) method)

-- the targets of each call of each method
abbrev pub targets_in : Calls → List (List (List ℕ))
targets_in calls = map (called_by (lists_of calls.known.lists.items)) (lists_of calls.of_methods.items)

-- for each method those that call it, by the lists that have it
abbrev pub callers_in : Calls → List (List ℕ)
callers_in calls = map (flat_map (list_of (lists_of calls.callers.items))) (lists_of calls.leading.items)

-- the targets are those of the calls of these shapes, and the callers those of the targets
pub record AreCallsOf (p : Program) (shapes : List Shape) (calls : Calls) : Type 0 where
  pub targets_are : targets_in calls ≡ shape_targets p shapes
  pub callers : HasCallers (targets_in calls) (callers_in calls)
