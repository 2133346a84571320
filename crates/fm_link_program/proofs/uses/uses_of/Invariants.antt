use Rattle.std.proofs.Common.{◌≡◌, ◌++◌, [], length, map, replicate, take}
use Rattle.fm_link_refusals.specs.inner.GivenClasses.{given_in}
use Rattle.fm_link_program.specs.inner.Resolved.{outline_by}
use Rattle.fm_world.specs.BuiltIns.{built_in}
use Rattle.fm_world.specs.Programs.{class_uses}
use Rattle.fm_link_program.proofs.uses.uses_of.Given as goal

abbrev pub invariant-loop-file : goal.invariant-loop-file
invariant-loop-file l =
    l.uses.items ≡ replicate (length built_in) [] ++ map (class_uses (outline_by l.resolving)) (given_in (take l.file-index l.files))
