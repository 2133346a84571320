use Rattle.std.proofs.Common.{Err, sym, ap, ◌∙◌}
use Rattle.fm_check_program.proofs.UntypedLemmas.{has_some, may_check, not_wide}
use Rattle.fm_check_program.proofs.untyped.is_accepted.Goals as goal
use Rattle.fm_check_program.proofs.untyped.is_accepted.Goals.{in-Ok, in-Err-TooWide, in-Err-NotTyped, in-Err-NoMemory}

pub check-requires-clause-code : goal.check-requires-clause-code
check-requires-clause-code c =
    let p = c.args.program.now in
    let m = c.args.method.0 in
    may_check p m c.requires.checkable (has_some p m (sym c.has_code.ensures ∙ c.if-not-has_code.false))

pub returns : goal.returns
returns c =
    let p = c.args.program.now in
    let m = c.args.method.0 in
    elim c.match-check.branch [
      | in-Ok w ↦ rw w.result-is (λ some. (_, w.in-Ok.ensures.least.typing))
      | in-Err-TooWide w ↦ absurd (not_wide p m w.in-Err-TooWide.field-0-0 c.requires.checkable (c.check.ensures.wide w.in-Err-TooWide.field-0-0 (w.in-Err-TooWide.is ∙ ap Err w.in-Err-TooWide.field-0-is)))
      | in-Err-NotTyped w ↦ rw w.result-is (record { coded = has_some p m (sym c.has_code.ensures ∙ c.if-not-has_code.false); untyped = c.check.ensures.untyped (w.in-Err-NotTyped.is ∙ ap Err w.in-Err-NotTyped.field-0-is) })
      | in-Err-NoMemory w ↦ rw w.result-is tt
    ]
