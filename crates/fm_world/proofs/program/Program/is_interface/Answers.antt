use Rattle.std.proofs.Common.{◌∙◌, ap}
use Rattle.fm_code.specs.AccessFlags.{is_interface}
use Rattle.fm_world.proofs.Told.{class_info-flags}
use Rattle.fm_world.proofs.program.Program.is_interface.Goals as goal

pub returns : goal.returns
returns c =
    c.has_flag.ensures ∙ ap (λ i. is_interface i.flags) c.class.ensures ∙ ap is_interface (class_info-flags c.args.self.now.outline c.args.c.0)
