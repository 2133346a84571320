use Rattle.std.proofs.Common.{◌∙◌}
use Rattle.fm_link_members.proofs.OverridingLemmas.{selected-is}
use Rattle.fm_link_members.proofs.lookups.Methods.select.Goals as goal

pub returns : goal.returns
returns c = λ texts classes are is class method.
    c.selected.ensures ∙ selected-is texts classes c.args.self.now c.args.hierarchy.now c.args.class c.args.method are is class method
