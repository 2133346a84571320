-- A cheap instruction that is next: its step costs 1, and what its row asks is there.
use Rattle.std.proofs.Common.{◌≡◌, ℕ, ◌^◌, ◌<◌, Some, None, option_map, slice_get, arith}
use Rattle.fm_code.specs.declared.code_array.Code.{Code}
use Rattle.fm_code.specs.declared.code_array.Item.{Item}
use Rattle.fm_frames.specs.Runs.{Goes}
use Rattle.fm_frames.specs.States.{State}
use Rattle.fm_frames.specs.Steps.{cost}
use Rattle.fm_frames.specs.inner.Frames.{place_of, topmost}
use Rattle.fm_exec_nests.proofs.CostSteps.{cost-cheap, insn-found, IsOnTop, on-top}
use Rattle.fm_exec_nests.specs.inner.Costs.{nest_of}
use Rattle.fm_law_can_step.proofs.Standing.{can_step}
use Rattle.fm_law_can_step.specs.Ready.{CanRun}
use Rattle.fm_run.proofs.Ranging.{keeps-going}
use Rattle.fm_run.specs.inner.Going.{IsCheapNext, Keeps}
use Rattle.fm_world.specs.Programs.{code_at, Program}

pub cheap-is : (p : Program) (budget : ℕ) (x : State) (method item : ℕ) (code : Code) (found : Item) → CanRun p → budget < 2 ^ 64 → Keeps p budget x
    → x.ended ≡ None → x.steps < budget → Some (method, item) ≡ option_map place_of (topmost x.frames) → Some code ≡ code_at p method
    → slice_get code.items item ≡ Some found → nest_of found.insn ≡ None → IsCheapNext p budget x method found.insn
cheap-is p budget x method item code found run few keeps on less place_is code_is item_is other =
    let top : IsOnTop x.frames method item = on-top x.frames method item place_is in
    let insn_is = insn-found p x.frames method item top code found code_is item_is in
    let one : cost p x ≡ 1 =
    cost-cheap p x top.frame top.callers found.insn run.steps.calls.runnable top.frames_are insn_is other in
    let goes : Goes p budget x = record { not_ended = on; within = omega (arith, one) } in
    let going = keeps-going p budget x few keeps goes in
    record {
      at = record {
        at = record { frame = top.frame; callers = top.callers; frames_is = top.frames_are; insn_is = insn_is };
        method_is = top.method_is;
      };
      goes = goes;
      going = going;
      can = can_step p x run going;
    }
