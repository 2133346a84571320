use Rattle.std.proofs.Common.{◌∙◌, ap, Some}
use Rattle.fm_world.proofs.Narrowed.{narrowed_tables}
use Rattle.fm_world.specs.Programs.{Program}
use Rattle.fm_world.proofs.program.Program.narrowed.Goals as goal

pub new-requires : goal.new-requires
new-requires c = narrowed_tables c.self.inside.parts c.args.made c.self.invariant

pub returns : goal.returns
returns c = c.new.ensures ∙ ap (λ (p : Program). record p { made = Some c.args.made }) c.self.view_is
