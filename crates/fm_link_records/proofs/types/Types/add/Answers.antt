use Rattle.std.proofs.Common.{◌∙◌}
use Rattle.fm_link_records.proofs.TypeSteps.{inserted}
use Rattle.fm_link_records.proofs.types.Types.add.Goals as goal

pub returns : goal.returns
returns c = c.in_ok-insert.ensures.keys ∙ inserted c.args.self.now.types.keys c.args.named
