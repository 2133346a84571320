use Rattle.std.proofs.Common.{◌≡◌, drop}
use Rattle.std.specs.List.{list_any}
use Rattle.fm_code.specs.declared.class_file.Member.{Member}
use Rattle.fm_link_refusals.proofs.duplicates.has_instance_field.Given as goal
use Rattle.fm_world.specs.Members.{is_instance}

abbrev pub invariant-loop-field : goal.invariant-loop-field
invariant-loop-field l = list_any (λ (f : Member). is_instance f.flags) (drop l.field-index l.class.fields) ≡ list_any (λ (f : Member). is_instance f.flags) l.class.fields
