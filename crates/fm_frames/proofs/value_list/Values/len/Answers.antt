use Rattle.std.proofs.Common.{◌∙◌, sym}
use Rattle.fm_frames.proofs.ValueLists.{long-as}
use Rattle.fm_frames.proofs.value_list.Values.len.Goals as goal

pub returns-clause-value : goal.returns-clause-value
returns-clause-value c = c.len.ensures ∙ c.self.inside.kinds.ok.0 ∙ sym (long-as c.self.inside.kinds.items c.self.inside.bits.items c.args.self.now c.self.invariant c.self.view_is)
