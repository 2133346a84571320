use Rattle.fm_check.proofs.CheckLemmas.{found_code, judged_least, judged_narrow, judged_untyped, judged_untyped_narrow, judged_wide, method_there, no_code, sound_task}
use Rattle.fm_check.proofs.checking.check.Goals as goal

pub code_of-requires : goal.code_of-requires
code_of-requires c = method_there c.args.program.now c.args.method.0 c.requires.code

pub returns-in_default : goal.returns-in_default
returns-in_default c = absurd (no_code c.args.program.now c.args.method.0 c.requires.code c.in_default.ensures)

pub judge-requires : goal.judge-requires
judge-requires c =
    sound_task c.args.program.now c.args.method.0 c.in-Some.code.now c.requires.linked
    (found_code c.args.program.now c.args.method.0 c.in-Some.code.now c.requires.code c.in-Some.ensures)

pub returns-clause-least : goal.returns-clause-least
returns-clause-least c =
    judged_least c.args.program.now c.args.method.0 c.in-Some.code.now
    (found_code c.args.program.now c.args.method.0 c.in-Some.code.now c.requires.code c.in-Some.ensures) c.judge.result c.judge.ensures

pub returns-clause-narrow : goal.returns-clause-narrow
returns-clause-narrow c =
    judged_narrow c.args.program.now c.args.method.0 c.in-Some.code.now
    (found_code c.args.program.now c.args.method.0 c.in-Some.code.now c.requires.code c.in-Some.ensures) c.judge.result c.judge.ensures

pub returns-clause-wide : goal.returns-clause-wide
returns-clause-wide c =
    judged_wide c.args.program.now c.args.method.0 c.in-Some.code.now
    (found_code c.args.program.now c.args.method.0 c.in-Some.code.now c.requires.code c.in-Some.ensures) c.judge.result c.judge.ensures

pub returns-clause-untyped : goal.returns-clause-untyped
returns-clause-untyped c =
    judged_untyped c.args.program.now c.args.method.0 c.in-Some.code.now
    (found_code c.args.program.now c.args.method.0 c.in-Some.code.now c.requires.code c.in-Some.ensures) c.judge.result c.judge.ensures

pub returns-clause-untyped_narrow : goal.returns-clause-untyped_narrow
returns-clause-untyped_narrow c =
    judged_untyped_narrow c.args.program.now c.args.method.0 c.in-Some.code.now
    (found_code c.args.program.now c.args.method.0 c.in-Some.code.now c.requires.code c.in-Some.ensures) c.judge.result c.judge.ensures
