use Rattle.std.proofs.Common.{◌∙◌}
use Rattle.fm_link_members.proofs.LookupLemmas.{field_found-is}
use Rattle.fm_link_members.proofs.lookups.Fields.resolved.Goals as goal

pub returns : goal.returns
returns c = λ texts classes member are is named name descriptor.
    c.found.ensures
    ∙ field_found-is texts classes c.args.self.now c.args.hierarchy.now c.args.class c.args.name c.args.descriptor member are is named name descriptor
