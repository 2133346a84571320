use Rattle.std.proofs.Common.{◌≡◌, ap, sym, ◌∙◌, subst}
use Rattle.fm_exec.proofs.FieldSteps.{field-kind}
use Rattle.fm_frames.specs.ObjectRows.{kind_of_field}
use Rattle.fm_frames.specs.Runnable.{IsUseIn}
use Rattle.fm_run.proofs.quick_operands.quick_putfield.Goals as goal
use Rattle.fm_run.specs.inner.Operands.{as_short, putfield_at, quick_putfield}
use Rattle.fm_world.specs.Members.{slot_of}
use Rattle.fm_world.specs.declared.records.FieldInfo.{FieldInfo}

pub field-requires : goal.field-requires
field-requires c = (subst (λ u. IsUseIn c.args.program.now.outline u) c.in-OfField.is c.requires).0

pub slot_of-requires : goal.slot_of-requires
slot_of-requires c = (subst (λ u. IsUseIn c.args.program.now.outline u) c.in-OfField.is c.requires).0

pub returns-in-OfField : goal.returns-in-OfField
returns-in-OfField c =
    let o = c.args.program.now.outline in
    let kind_is : c.field.result.now.kind ≡ kind_of_field o c.in-OfField.f.0 = ap (λ (i : FieldInfo). i.kind) c.field.ensures ∙ field-kind c.args.program.now.outline c.in-OfField.f.0 in
    let short_is : c.as_short.result ≡ as_short (slot_of o.classes c.in-OfField.f.0) = c.as_short.ensures ∙ ap as_short c.slot_of.ensures in
    c.putfield_at.ensures ∙ (λ i. putfield_at (kind_is i) c.in-OfField.named c.args.index (short_is i)) ∙ ap (λ u. quick_putfield o u c.args.index) (sym c.in-OfField.is)
