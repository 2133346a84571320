use Rattle.std.proofs.Common.{◌^◌, ◌<◌, ◌∙◌, ap, sym, subst}
use Rattle.fm_cells.specs.Sizes.{element_bits}
use Rattle.fm_cells.specs.Stores.{pack_at}
use Rattle.fm_frames.proofs.machine.Machine.copy_element.Goals as goal
use Rattle.fm_frames.specs.States.{State}

pub put-requires-clause-fits : goal.put-requires-clause-fits
put-requires-clause-fits g c =
    let from = ap (λ (x : State). pack_at x.areas.store c.args.from.0) c.self.view_is in
    let to = ap (λ (x : State). pack_at x.areas.store c.args.to.0) c.self.view_is in
    subst (λ pack. c.get-element.result < 2 ^ element_bits pack) (from ∙ c.requires.packs ∙ sym to) c.get-element.ensures.fits
