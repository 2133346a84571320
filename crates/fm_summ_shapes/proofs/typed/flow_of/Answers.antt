use Rattle.std.proofs.Common.{Err, ◌∙◌, ap}
use Rattle.fm_summ_shapes.proofs.ShapesLemmas.{code_facts, never_falls}
use Rattle.fm_summ_shapes.proofs.typed.flow_of.Goals as goal

pub of-requires-clause-spelled : goal.of-requires-clause-spelled
of-requires-clause-spelled c = (code_facts c.args.program.now c.args.method.0 c.args.code.now c.requires.analysable c.requires.code).0.spelled

pub of-requires-clause-supported : goal.of-requires-clause-supported
of-requires-clause-supported c = c.requires.analysable.supported c.args.method.0 c.args.code.now c.requires.code

pub unreachable-requires : goal.unreachable-requires
unreachable-requires c =
    never_falls c.args.program.now c.args.method.0 c.args.code.now c.requires.analysable c.requires.code
    (c.of.ensures.falls_off (c.in-Err-FallsOff.is ∙ ap Err c.in-Err-FallsOff.field-0-is))
