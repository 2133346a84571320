use Rattle.fm_summ.proofs.ProgramLemmas.{have_bare_built_ins, have_uses_in}
use Rattle.fm_summ.proofs.laws.law_programs.Goals as goal

pub returns : goal.returns
returns c = record { uses = have_uses_in; built_ins = have_bare_built_ins }
