use Rattle.std.proofs.Common.{refl}
use Rattle.fm_decode.proofs.shapes.constant_shape.Goals as goal

pub returns-in-2 : goal.returns-in-2
returns-in-2 c = rw c.in-2.is refl
