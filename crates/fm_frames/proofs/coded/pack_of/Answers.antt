use Rattle.std.proofs.Common.{◌∙◌}
use Rattle.fm_frames.proofs.Programs.{pack-is}
use Rattle.fm_frames.proofs.coded.pack_of.Goals as goal

pub returns-clause-value : goal.returns-clause-value
returns-clause-value c runnable = c.pack_by.ensures.value ∙ pack-is c.args.program.now c.args.t runnable
