use Rattle.std.proofs.Common.{refl}
use Rattle.fm_frames.proofs.Acting.{input-skipped}
use Rattle.fm_frames.proofs.machine.Machine.skip_byte.Goals as goal

pub returns-then-self-len : goal.returns-then-self-len
returns-then-self-len g c = input-skipped _ c.args.self.now c.self.inside.input.items c.self.inside.taken c.self.view_is refl
