use Rattle.fm_frames.proofs.FirstValues.{zero-fits}
use Rattle.fm_frames.proofs.opens.add_first.Goals as goal

pub read-requires : goal.read-requires
read-requires c = zero-fits c.args.field.now.kind
