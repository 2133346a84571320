use Rattle.freeme.proofs.FreeingLemmas.{cause_there, cause_reported}
use Rattle.freeme.proofs.freeing.freed_classes.Goals as goal

pub cause_name-requires : goal.cause_name-requires
cause_name-requires c =
    let judged = c.requires in
    cause_there c.args.classes.now judged.main c.args.program.now judged.program_is c.args.chains c.in-Err.fail c.in-Err.ensures

pub returns-in_ok-name-in-Err : goal.returns-in_ok-name-in-Err
returns-in_ok-name-in-Err c =
    cause_reported c.args.chains c.args.classes.now c.args.program.now c.in-Err.fail c.in_ok-name-in-Err.name c.in-Err.ensures c.in_ok-name-in-Err.ensures
