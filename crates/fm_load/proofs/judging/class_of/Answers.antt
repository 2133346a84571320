use Rattle.std.proofs.Common.{Err, ap, ◌∙◌}
use Rattle.fm_load.proofs.judging.class_of.Goals as goal

pub returns-in-Err-Version-clause-fails : goal.returns-in-Err-Version-clause-fails
returns-in-Err-Version-clause-fails c =
    rw (c.in-Err-Version.major-is, c.in-Err-Version.minor-is) (c.read_class.ensures.version c.in-Err-Version.major c.in-Err-Version.minor (c.in-Err-Version.is ∙ ap Err c.in-Err-Version.field-0-is))
