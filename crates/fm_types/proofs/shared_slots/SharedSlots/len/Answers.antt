use Rattle.std.proofs.Common.{◌∙◌, ap, sym, length}
use Rattle.std.proofs.lemmas.List.{length-take-le}
use Rattle.fm_types.specs.inner.Pieces.{in_one}
use Rattle.fm_types.proofs.shared_slots.SharedSlots.len.Goals as goal

pub returns : goal.returns
returns c = sym (length-take-le c.self.inside.len (in_one c.self.inside.pieces.items) c.self.invariant.1) ∙ ap length c.self.view_is
