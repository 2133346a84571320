use Rattle.std.proofs.lemmas.Result.{err_from_is_err_and}
use Rattle.fm_load.proofs.CheckLemmas.{comes_typed, comes_unlinked, comes_untyped, may_be_checked}
use Rattle.fm_load.proofs.checking.judge_program.Goals as goal

pub refuse_untyped-requires : goal.refuse_untyped-requires
refuse_untyped-requires c = may_be_checked c.args.classes.now _ c.in_ok-program.program c.requires.spelled c.requires.within c.in_ok-program.ensures

pub returns-in_err-program : goal.returns-in_err-program
returns-in_err-program c =
    let handed = err_from_is_err_and c.from_residual.result c.from_residual.ensures.1 in
    rw (handed.1, handed.2) (comes_unlinked c.args.classes.now _ c.in_err-program.field-0.0 c.in_err-program.ensures)

pub returns-in_err-refuse_untyped : goal.returns-in_err-refuse_untyped
returns-in_err-refuse_untyped c =
    let handed = err_from_is_err_and c.from_residual-in_err-refuse_untyped.result c.from_residual-in_err-refuse_untyped.ensures.1 in
    rw (handed.1, handed.2) (comes_untyped c.args.classes.now _ c.in_ok-program.program c.in_ok-program.ensures c.in_err-refuse_untyped.field-0.0 c.in_err-refuse_untyped.ensures)

pub returns : goal.returns
returns c = comes_typed c.args.classes.now _ c.in_ok-program.program c.in_ok-program.ensures c.in_ok-refuse_untyped.ensures
