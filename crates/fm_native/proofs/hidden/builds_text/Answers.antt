use Rattle.std.proofs.Common.{◌≡◌, ◌||◌, codes, ap, sym, ◌∙◌}
use Rattle.fm_native.proofs.HidingTypes.{buffer-is, builder-is}
use Rattle.fm_native.proofs.hidden.builds_text.Goals as goal
use Rattle.fm_types.specs.Fits.{fits_type}
use Rattle.fm_types.specs.Named.{built_in_type}

pub returns-then-fits_type : goal.returns-then-fits_type
returns-then-fits_type c runnable =
    let p = c.args.program.now in
    let second = fits_type p.outline.classes c.args.t (built_in_type p.outline (codes "java/lang/StringBuffer")) in
    let first : fits_type p.outline.classes c.args.t (built_in_type p.outline (codes "java/lang/StringBuilder")) ≡ c.fits_type.result =
    ap (fits_type p.outline.classes c.args.t) (builder-is p runnable ∙ sym c.type_of_class.ensures) ∙ sym c.fits_type.ensures in
    c.if-fits_type.true ∙ sym (ap (λ b. b || second) (first ∙ c.if-fits_type.true))

pub returns-else-fits_type : goal.returns-else-fits_type
returns-else-fits_type c runnable =
    let p = c.args.program.now in
    let second = fits_type p.outline.classes c.args.t (built_in_type p.outline (codes "java/lang/StringBuffer")) in
    let first : fits_type p.outline.classes c.args.t (built_in_type p.outline (codes "java/lang/StringBuilder")) ≡ c.fits_type.result =
    ap (fits_type p.outline.classes c.args.t) (builder-is p runnable ∙ sym c.type_of_class.ensures) ∙ sym c.fits_type.ensures in
    c.fits_type-else-fits_type.ensures
    ∙ ap (fits_type p.outline.classes c.args.t) (c.type_of_class-else-fits_type.ensures ∙ sym (buffer-is p runnable))
    ∙ sym (ap (λ b. b || second) (first ∙ c.if-fits_type.false))
