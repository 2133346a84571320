use Rattle.std.proofs.Common.{Err, ◌∙◌, ap}
use Rattle.fm_check_program.proofs.UntypedLemmas.{may_check, not_wide}
use Rattle.fm_summ_shapes.proofs.typed.typing_of.Goals as goal

pub check-requires-clause-code : goal.check-requires-clause-code
check-requires-clause-code c = may_check c.args.program.now c.args.method.0 c.requires.analysable.checkable c.requires.coded

pub unreachable-requires : goal.unreachable-requires
unreachable-requires c =
    not_wide c.args.program.now c.args.method.0 c.in-Err-TooWide.field-0-0 c.requires.analysable.checkable
    (c.check.ensures.wide c.in-Err-TooWide.field-0-0 (c.in-Err-TooWide.is ∙ ap Err c.in-Err-TooWide.field-0-is))

pub unreachable-requires-in-Err-NotTyped : goal.unreachable-requires-in-Err-NotTyped
unreachable-requires-in-Err-NotTyped c =
    c.check.ensures.untyped (c.in-Err-NotTyped.is ∙ ap Err c.in-Err-NotTyped.field-0-is) (c.requires.analysable.typed c.args.method.0 c.requires.coded)
