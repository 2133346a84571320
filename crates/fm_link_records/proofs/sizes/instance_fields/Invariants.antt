use Rattle.std.proofs.Common.{◌≡◌, take}
use Rattle.fm_world.specs.Members.{instance_fields}
use Rattle.fm_link_records.proofs.sizes.instance_fields.Given as goal

abbrev pub invariant-loop-field : goal.invariant-loop-field
invariant-loop-field l = l.count ≡ instance_fields (take l.field-index l.fields)
