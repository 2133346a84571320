use Rattle.std.proofs.Common.{refl}
use Rattle.fm_frames.proofs.Acting.{literal-kept}
use Rattle.fm_frames.proofs.machine.Machine.keep_literal.Goals as goal

pub returns-then-place-len : goal.returns-then-place-len
returns-then-place-len g c = literal-kept _ c.args.self.now c.self.inside.literals.items c.args.place c.args.cell c.self.view_is refl
