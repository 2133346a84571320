use Rattle.std.proofs.Common.{◌∙◌, ap, take}
use Rattle.fm_types.specs.inner.Pieces.{in_one}
use Rattle.fm_types.proofs.shared_slots.SharedSlots.to_vec.Goals as goal

pub returns : goal.returns
returns c =
    c.truncate.ensures.items
    ∙ ap (take c.self.inside.len) (c.in_ok-slots.ensures ∙ ap in_one c.as_slice.ensures.value)
    ∙ c.self.view_is
