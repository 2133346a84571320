use Rattle.fm_link_program.proofs.UseSteps.{resolved-is}
use Rattle.fm_link_program.proofs.uses.use_at.Goals as goal

pub returns : goal.returns
returns c =
    resolved-is c.args.resolving c.args.file.now c.args.index c.type_number_at-named.result c.found_at-found.result c.text_number_at-text.result
    c.use_of_entry.result c.requires.resolving c.requires.numbered c.requires.spelled c.type_number_at-named.ensures c.found_at-found.ensures
    c.text_number_at-text.ensures c.use_of_entry.ensures
