use Rattle.std.proofs.Common.{◌∙◌, ap}
use Rattle.fm_world.specs.Chains.{chain_of, is_among}
use Rattle.fm_world.proofs.program.Program.is_below.Goals as goal

pub returns : goal.returns
returns c = c.is_in_chain.ensures ∙ ap (λ d. is_among d (chain_of c.args.self.now.outline.classes c.args.c.0)) c.owner_of.ensures.value
