use Rattle.std.proofs.Common.{◌∙◌}
use Rattle.fm_link_members.proofs.LookupLemmas.{method_found-is}
use Rattle.fm_link_members.proofs.lookups.Methods.resolved.Goals as goal

pub returns : goal.returns
returns c = λ texts classes member are is named searched name descriptor.
    c.found.ensures
    ∙ method_found-is texts classes c.args.self.now c.args.hierarchy.now c.args.named c.args.searched c.args.name c.args.descriptor member are is
    named
    searched name descriptor
