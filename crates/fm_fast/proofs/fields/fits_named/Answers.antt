use Rattle.std.proofs.Common.{◌≡◌, true, refl, sym, subst, arith}
use Rattle.fm_fast.proofs.fields.fits_named.Goals as goal
use Rattle.fm_frames.proofs.Programs.{built_in-inside}
use Rattle.fm_frames.specs.Sights.{type_numbered}
use Rattle.fm_types.proofs.Order.{base-refl, level-fits}
use Rattle.fm_types.specs.Fits.{fits_type}

pub returns-then-class-named : goal.returns-then-class-named
returns-then-class-named c =
    let p = c.args.program.now in
    let o = p.outline in
    let t = type_numbered o c.args.named.0 in
    let same : c.args.class ≡ c.args.named.0 = omega (arith, c.if-class-named.true) in
    subst (λ n. true ≡ fits_type o.classes (type_numbered o n) t) (sym same)
    (sym (level-fits o.classes t t refl (base-refl o.classes (built_in-inside p 0 c.requires.runnable (omega arith)) t.base)))
