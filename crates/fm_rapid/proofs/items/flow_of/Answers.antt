use Rattle.std.proofs.Common.{Err, ◌∙◌, ap}
use Rattle.fm_rapid.proofs.items.flow_of.Goals as goal

pub of-requires-clause-spelled : goal.of-requires-clause-spelled
of-requires-clause-spelled c = c.requires.spelled

pub of-requires-clause-supported : goal.of-requires-clause-supported
of-requires-clause-supported c = c.requires.supported

pub unreachable-requires : goal.unreachable-requires
unreachable-requires c = c.requires.stays (c.of.ensures.falls_off (c.in-Err-FallsOff.is ∙ ap Err c.in-Err-FallsOff.field-0-is))
