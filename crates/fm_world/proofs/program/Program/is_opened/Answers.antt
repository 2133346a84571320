use Rattle.std.proofs.Common.{◌∙◌, ap}
use Rattle.std.specs.List.{list_any}
use Rattle.fm_world.specs.Chains.{chain_of}
use Rattle.fm_world.specs.Lookups.{opens}
use Rattle.fm_world.specs.Members.{method_at}
use Rattle.fm_world.proofs.Displays.{list_any-reverse}
use Rattle.fm_world.proofs.program.Program.is_opened.Goals as goal

pub returns : goal.returns
returns c =
    let classes = c.args.self.now.outline.classes in
    let passes = opens classes (method_at classes c.args.m.0) in
    c.is_opened_in.ensures ∙ ap (list_any passes) c.display.ensures.value ∙ list_any-reverse passes (chain_of classes c.args.c.0)
