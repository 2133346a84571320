use Rattle.std.proofs.Common.{◌≡◌, map, take}
use Rattle.fm_link_names.specs.inner.Declaring.{HasTexts}
use Rattle.fm_world.specs.Declarations.{declared_field}
use Rattle.fm_link_names.proofs.declared.declared_fields.Given as goal

abbrev pub invariant-loop-field : goal.invariant-loop-field
invariant-loop-field l =
    HasTexts l.shared l.file → l.declared.items ≡ map (declared_field l.file.class.now.pool.entries) (take l.field-index l.fields)
