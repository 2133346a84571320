use Rattle.std.proofs.Common.{◌++◌, ap, map, ℤ, ◌∙◌}
use Rattle.std.specs.Int.{w64}
use Rattle.std.proofs.lemmas.Int.{to_z-of_z}
use Rattle.std.proofs.lemmas.List.{map-append}
use Rattle.fm_frames.proofs.actions.add_long.Goals as goal
use Rattle.fm_frames.specs.inner.StartActions.{action_of, actions_by}
use Rattle.fm_world.specs.declared.uses.Use.TheVariants as used

pub returns : goal.returns
returns c =
    ap (map action_of) c.in_ok-push.ensures.items ∙ map-append action_of c.args.actions.now.items _
    ∙ ap (λ (n : ℤ). map action_of c.args.actions.now.items ++ actions_by c.args.slot c.args.kind (used.OfLong n)) (to_z-of_z w64 c.args.n c.ranges.n)
