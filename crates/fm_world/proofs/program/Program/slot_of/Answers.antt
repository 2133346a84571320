use Rattle.std.proofs.Common.{◌∙◌, ap}
use Rattle.fm_world.proofs.Told.{field_info-slot}
use Rattle.fm_world.proofs.program.Program.slot_of.Goals as goal

pub returns : goal.returns
returns c = ap (λ f. f.slot) c.field.ensures ∙ field_info-slot c.args.self.now.outline c.args.f.0
