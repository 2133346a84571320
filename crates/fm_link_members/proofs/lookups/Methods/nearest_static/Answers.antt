use Rattle.std.proofs.Common.{◌∙◌, ap}
use Rattle.fm_link_members.proofs.StaticLemmas.{nearest_static-is}
use Rattle.fm_link_members.specs.inner.FoundMembers.{static_among_in}
use Rattle.fm_link_members.proofs.lookups.Methods.nearest_static.Goals as goal

pub returns : goal.returns
returns c = λ texts classes n d are is within name descriptor.
    c.static_among.ensures
    ∙ ap (λ xs. static_among_in c.args.self.now xs c.args.name c.args.descriptor) c.chain.ensures
    ∙ nearest_static-is texts classes c.args.self.now c.args.hierarchy.now c.args.class c.args.name c.args.descriptor n d are is within name
    descriptor
