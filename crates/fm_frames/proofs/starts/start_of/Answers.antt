use Rattle.fm_frames.proofs.ClassStarts.{start-found}
use Rattle.fm_frames.proofs.starts.start_of.Goals as goal

pub returns : goal.returns
returns c = start-found c.args.program.now.outline c.args.class.0 c.class.result.now c.class.ensures
