use Rattle.std.proofs.Common.{ap, sym, ◌∙◌, option_copied}
use Rattle.std.proofs.lemmas.Option.{none-some}
use Rattle.fm_run.proofs.names.code_in.Goals as goal

pub unreachable-requires : goal.unreachable-requires
unreachable-requires c =
    none-some c.requires.coded.0 (sym (ap option_copied c.in-None.is) ∙ c.code_of.ensures c.requires.runnable ∙ c.requires.coded.1)
