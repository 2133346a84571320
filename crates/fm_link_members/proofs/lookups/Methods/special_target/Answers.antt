use Rattle.std.proofs.Common.{◌∙◌}
use Rattle.fm_link_members.proofs.LookupLemmas.{special-is}
use Rattle.fm_link_members.proofs.lookups.Methods.special_target.Goals as goal

pub returns : goal.returns
returns c = λ texts classes are is caller method.
    c.special.ensures
    ∙ special-is texts classes c.args.self.now c.args.hierarchy.now c.args.caller c.args.named c.args.method are is caller method
