use Rattle.std.proofs.Common.{sym, ◌∙◌}
use Rattle.std.proofs.lemmas.Option.{get_or_from_slice_get}
use Rattle.fm_fast.proofs.fields.fits_by_table.Goals as goal
use Rattle.fm_types.specs.Fits.{fits_type}
use Rattle.fm_world.specs.Numbers.{type_of_class}

pub returns : goal.returns
returns c =
    let o = c.args.program.now.outline in
    let named = get_or_from_slice_get o.types c.args.named.0 c.type_of.result (type_of_class 0) c.type_of.ensures in
    c.fits_type.ensures ∙ (λ i. fits_type o.classes (c.type_numbered-t.ensures.value i) (sym named i))
