use Rattle.std.proofs.Common.{◌≡◌, ap, sym, ◌∙◌, subst}
use Rattle.fm_exec.proofs.FieldSteps.{field-kind}
use Rattle.fm_exec_calls.proofs.UseSteps.{field-class}
use Rattle.fm_frames.specs.ObjectRows.{class_of_field, kind_of_field}
use Rattle.fm_frames.specs.Runnable.{IsUseIn}
use Rattle.fm_run.proofs.quick_operands.quick_getstatic.Goals as goal
use Rattle.fm_run.specs.inner.Operands.{as_short, getstatic_at, quick_getstatic}
use Rattle.fm_world.specs.Members.{slot_of}
use Rattle.fm_world.specs.declared.records.FieldInfo.{FieldInfo}

pub field-field-requires : goal.field-field-requires
field-field-requires c = (subst (λ u. IsUseIn c.args.program.now.outline u) c.in-OfField.is c.requires).0

pub slot_of-requires : goal.slot_of-requires
slot_of-requires c = (subst (λ u. IsUseIn c.args.program.now.outline u) c.in-OfField.is c.requires).0

pub returns-in-OfField : goal.returns-in-OfField
returns-in-OfField c =
    let o = c.args.program.now.outline in
    let f = c.in-OfField.f in
    let kind_is : c.field-field.result.now.kind ≡ kind_of_field o f.0 = ap (λ (i : FieldInfo). i.kind) c.field-field.ensures ∙ field-kind o f.0 in
    let class_is : c.field-field.result.now.class.0 ≡ class_of_field o f.0 = ap (λ (i : FieldInfo). i.class.0) c.field-field.ensures ∙ field-class o f.0 in
    let short_is : c.as_short-place.result ≡ as_short (slot_of o.classes f.0) = c.as_short-place.ensures ∙ ap as_short c.slot_of.ensures in
    c.getstatic_at.ensures ∙ (λ i. getstatic_at (kind_is i) (class_is i) c.args.index (short_is i)) ∙ ap (λ u. quick_getstatic o u c.args.index) (sym c.in-OfField.is)
