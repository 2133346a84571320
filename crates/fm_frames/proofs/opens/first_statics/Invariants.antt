use Rattle.std.proofs.Common.{◌≡◌, take}
use Rattle.std.specs.List.{flat_map}
use Rattle.fm_frames.proofs.FirstValues.{firsts_in}
use Rattle.fm_frames.proofs.opens.first_statics.Given as goal
use Rattle.fm_world.specs.Members.{fields_of}

-- those of the fields before this one
abbrev pub invariant-loop-field : goal.invariant-loop-field
invariant-loop-field l = l.statics.items ≡ flat_map (firsts_in l.program.outline) (take l.field (fields_of l.program.outline.classes))
