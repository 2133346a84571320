use Rattle.std.proofs.Common.{ap, sym, ◌∙◌}
use Rattle.fm_native.proofs.HidingTypes.{throwable-is}
use Rattle.fm_native.proofs.hidden.is_thrown.Goals as goal
use Rattle.fm_types.specs.Fits.{fits_type}

pub returns : goal.returns
returns c runnable =
    let p = c.args.program.now in
    c.fits_type.ensures ∙ ap (fits_type p.outline.classes c.args.t) (c.type_of_class.ensures ∙ sym (throwable-is p runnable))
