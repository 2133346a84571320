use Rattle.std.proofs.Common.{◌≡◌, ◌<◌, length, ap, sym, ◌∙◌, subst}
use Rattle.fm_exec_calls.proofs.UseSteps.{field-class, field-owner}
use Rattle.fm_exec.proofs.FieldSteps.{field-kind}
use Rattle.fm_fast.proofs.Likes.{like-self}
use Rattle.fm_fast.proofs.statics.get_static.Goals as goal
use Rattle.fm_frames.specs.ObjectRows.{kind_of_field}
use Rattle.fm_world.specs.declared.records.FieldInfo.{FieldInfo}

pub get_static_at-requires-clause-class : goal.get_static_at-requires-clause-class
get_static_at-requires-clause-class g c =
    let o = c.args.program.now.outline in
    subst (λ n. n < length o.classes) (sym (ap (λ (i : FieldInfo). i.class.0) c.field-field.ensures ∙ field-class o c.args.f.0))
    (field-owner o c.args.f.0 c.requires.field)

pub returns-clause-did : goal.returns-clause-did
returns-clause-did g c told =
    let o = c.args.program.now.outline in
    let kind_is = ap (λ (i : FieldInfo). i.kind) c.field-field.ensures ∙ field-kind o c.args.f.0 in
    c.get_static_at.ensures.did told c.args.f c.args.named c.requires.named (record {
      at = record { place_is = sym c.slot_of.ensures; kind_is = like-self c.field-field.result.now.kind (kind_of_field o c.args.f.0) (sym kind_is) };
      class_is = sym (ap (λ (i : FieldInfo). i.class.0) c.field-field.ensures ∙ field-class o c.args.f.0);
    })
