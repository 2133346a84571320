use Rattle.std.proofs.Common.{◌≡◌, true, refl, sym, ◌∙◌, subst, arith}
use Rattle.std.proofs.lemmas.Option.{get_or_from_slice_get}
use Rattle.fm_frames.proofs.Programs.{built_in-inside}
use Rattle.fm_frames.specs.Sights.{type_numbered}
use Rattle.fm_types.proofs.Order.{base-refl, level-fits}
use Rattle.fm_types.specs.Fits.{fits_type}
use Rattle.fm_world.specs.Numbers.{type_of_class}
use Rattle.fm_exec.proofs.held.fits_named.Goals as goal

pub returns-then-head-named : goal.returns-then-head-named
returns-then-head-named c =
    let p = c.args.program.now in
    let o = p.outline in
    let t = type_numbered o c.args.named.0 in
    let same : c.args.head.class ≡ c.args.named.0 = omega (arith, c.if-head-named.true) in
    subst (λ n. true ≡ fits_type o.classes (type_numbered o n) t) (sym same)
    (sym (level-fits o.classes t t refl (base-refl o.classes (built_in-inside p 0 c.requires.runnable (omega arith)) t.base)))

pub returns : goal.returns
returns c =
    let o = c.args.program.now.outline in
    let named = get_or_from_slice_get o.types c.args.named.0 c.type_of.result (type_of_class 0) c.type_of.ensures in
    c.fits_type.ensures ∙ (λ i. fits_type o.classes (c.type_in.ensures.value i) (sym named i))
