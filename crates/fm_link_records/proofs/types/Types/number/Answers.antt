use Rattle.std.proofs.Common.{sym, ◌∙◌}
use Rattle.fm_world.proofs.TypeTests.{index_of_type}
use Rattle.fm_link_records.proofs.types.Types.number.Goals as goal

pub returns-in-Some : goal.returns-in-Some
returns-in-Some c = sym c.in-Some.is ∙ c.get_index_of.ensures.index ∙ index_of_type c.args.self.now.types.keys c.args.named

pub returns-in-None : goal.returns-in-None
returns-in-None c = sym c.in-None.is ∙ c.get_index_of.ensures.index ∙ index_of_type c.args.self.now.types.keys c.args.named
