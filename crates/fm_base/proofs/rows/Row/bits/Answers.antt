use Rattle.std.proofs.Common.{sym, ◌∙◌, ap, length}
use Rattle.fm_base.proofs.RowsLemmas.{length-bits_of}
use Rattle.fm_base.proofs.rows.Row.bits.Goals as goal

pub returns : goal.returns
returns c = sym (length-bits_of _ _) ∙ ap length c.self.view_is
