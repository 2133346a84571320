use Rattle.std.proofs.Common.{◌≡◌, map, take}
use Rattle.fm_base.specs.declared.ids.ClassId.{ClassId}
use Rattle.fm_frames.proofs.actions.start_actions.Given as goal
use Rattle.fm_frames.specs.Starts.{start_actions}
use Rattle.fm_frames.specs.inner.StartActions.{action_of}

abbrev pub invariant-loop-class : goal.invariant-loop-class
invariant-loop-class l = map action_of l.actions.items ≡ start_actions l.program.outline (map (λ (c : ClassId). c.0) (take l.class-index l.classes))
