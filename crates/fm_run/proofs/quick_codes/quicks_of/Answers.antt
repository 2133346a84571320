use Rattle.std.proofs.Common.{◌≡◌, List, Option, Some, None, IfOk, option_copied, ap, sym, subst, ◌∙◌}
use Rattle.fm_code.specs.declared.code_array.Code.{Code}
use Rattle.fm_code.specs.declared.code_array.Item.{Item}
use Rattle.fm_run.proofs.quick_codes.quicks_of.Goals as goal
use Rattle.fm_run.specs.inner.Quicks.{quicks_for, quicks_in}
use Rattle.fm_world.specs.Programs.{code_at}

pub returns-in-Some : goal.returns-in-Some
returns-in-Some c =
    let some : Some c.in-Some.code.now ≡ code_at c.args.program.now c.args.method.0 =
    sym (ap option_copied c.in-Some.is) ∙ c.code_of.ensures c.requires.runnable in
    subst (λ (code : Option Code). IfOk c.quicks_in.result (λ quicks. quicks ≡ quicks_in c.args.program.now c.args.method.0 code)) some
    (subst (λ (items : List Item). IfOk c.quicks_in.result (λ quicks. quicks ≡ quicks_for c.args.program.now c.args.method.0 items)) c.as_slice.ensures
    c.quicks_in.ensures)

pub returns-in-None : goal.returns-in-None
returns-in-None c =
    let none : None ≡ code_at c.args.program.now c.args.method.0 = sym (ap option_copied c.in-None.is) ∙ c.code_of.ensures c.requires.runnable in
    c.empty.ensures ∙ ap (quicks_in c.args.program.now c.args.method.0) none
