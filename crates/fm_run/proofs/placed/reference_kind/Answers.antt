use Rattle.std.proofs.Common.{refl}
use Rattle.fm_run.proofs.placed.reference_kind.Goals as goal

pub returns : goal.returns
returns c = (c.type_of_class.result, refl)
