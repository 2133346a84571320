use Rattle.std.proofs.Common.{ap, sym, ◌∙◌, subst}
use Rattle.fm_frames.specs.Runnable.{IsUseIn}
use Rattle.fm_run.proofs.quick.quick_of.Goals as goal
use Rattle.fm_run.specs.inner.Operands.{quick_checkcast, quick_getfield, quick_getstatic, quick_putfield, quick_special, quick_static, quick_virtual}
use Rattle.fm_run.specs.inner.Quicks.{quick_of}
use Rattle.fm_types.specs.Named.{class_of_method}

pub quick_getfield-requires : goal.quick_getfield-requires
quick_getfield-requires c =
    subst (λ u. IsUseIn c.args.program.now.outline u) (sym c.used.ensures)
    (c.requires.runnable.uses (class_of_method c.args.program.now.outline c.args.method.0) c.in-GetField.index)

pub returns-in-GetField : goal.returns-in-GetField
returns-in-GetField c =
    c.quick_getfield.ensures ∙ ap (λ u. quick_getfield c.args.program.now.outline u c.in-GetField.index) c.used.ensures ∙ ap (quick_of c.args.program.now c.args.method.0) (sym c.in-GetField.is)

pub quick_putfield-requires : goal.quick_putfield-requires
quick_putfield-requires c =
    subst (λ u. IsUseIn c.args.program.now.outline u) (sym c.used-in-PutField.ensures)
    (c.requires.runnable.uses (class_of_method c.args.program.now.outline c.args.method.0) c.in-PutField.index)

pub returns-in-PutField : goal.returns-in-PutField
returns-in-PutField c =
    c.quick_putfield.ensures ∙ ap (λ u. quick_putfield c.args.program.now.outline u c.in-PutField.index) c.used-in-PutField.ensures ∙ ap (quick_of c.args.program.now c.args.method.0) (sym c.in-PutField.is)

pub quick_getstatic-requires : goal.quick_getstatic-requires
quick_getstatic-requires c =
    subst (λ u. IsUseIn c.args.program.now.outline u) (sym c.used-in-GetStatic.ensures)
    (c.requires.runnable.uses (class_of_method c.args.program.now.outline c.args.method.0) c.in-GetStatic.index)

pub returns-in-GetStatic : goal.returns-in-GetStatic
returns-in-GetStatic c =
    c.quick_getstatic.ensures ∙ ap (λ u. quick_getstatic c.args.program.now.outline u c.in-GetStatic.index) c.used-in-GetStatic.ensures ∙ ap (quick_of c.args.program.now c.args.method.0) (sym c.in-GetStatic.is)

pub quick_virtual-requires : goal.quick_virtual-requires
quick_virtual-requires c =
    subst (λ u. IsUseIn c.args.program.now.outline u) (sym c.used-in-Virtual.ensures)
    (c.requires.runnable.uses (class_of_method c.args.program.now.outline c.args.method.0) c.in-Virtual.index)

pub returns-in-Virtual : goal.returns-in-Virtual
returns-in-Virtual c =
    c.quick_virtual.ensures ∙ ap (λ u. quick_virtual c.args.program.now.outline u) c.used-in-Virtual.ensures ∙ ap (quick_of c.args.program.now c.args.method.0) (sym c.in-Virtual.is)

pub quick_special-requires-clause-inside : goal.quick_special-requires-clause-inside
quick_special-requires-clause-inside c =
    subst (λ u. IsUseIn c.args.program.now.outline u) (sym c.used-in-Special.ensures)
    (c.requires.runnable.uses (class_of_method c.args.program.now.outline c.args.method.0) c.in-Special.index)

pub returns-in-Special : goal.returns-in-Special
returns-in-Special c =
    c.quick_special.ensures ∙ ap (λ u. quick_special c.args.program.now.outline c.args.method.0 u) c.used-in-Special.ensures ∙ ap (quick_of c.args.program.now c.args.method.0) (sym c.in-Special.is)

pub quick_static-requires : goal.quick_static-requires
quick_static-requires c =
    subst (λ u. IsUseIn c.args.program.now.outline u) (sym c.used-in-Static.ensures)
    (c.requires.runnable.uses (class_of_method c.args.program.now.outline c.args.method.0) c.in-Static.index)

pub returns-in-Static : goal.returns-in-Static
returns-in-Static c =
    c.quick_static.ensures ∙ ap (λ u. quick_static c.args.program.now.outline u) c.used-in-Static.ensures ∙ ap (quick_of c.args.program.now c.args.method.0) (sym c.in-Static.is)

pub returns-in-Cast : goal.returns-in-Cast
returns-in-Cast c = c.quick_checkcast.ensures ∙ ap quick_checkcast c.used-in-Cast.ensures ∙ ap (quick_of c.args.program.now c.args.method.0) (sym c.in-Cast.is)
