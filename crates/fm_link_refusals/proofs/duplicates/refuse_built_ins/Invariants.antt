use Rattle.std.proofs.Common.{◌≡◌, drop}
use Rattle.std.specs.List.{flat_map}
use Rattle.fm_world.specs.Causes.{built_in_named}
use Rattle.fm_world.specs.Linking.{refused_built_ins}
use Rattle.fm_link_refusals.proofs.duplicates.refuse_built_ins.Given as goal

abbrev pub invariant-loop-class : goal.invariant-loop-class
invariant-loop-class l = refused_built_ins l.given ≡ flat_map built_in_named (drop l.class-index l.given)
