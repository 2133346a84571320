use Rattle.std.proofs.Common.{ap, sym, ◌∙◌, subst}
use Rattle.fm_exec.proofs.FieldSteps.{field-kind}
use Rattle.fm_fast.proofs.Likes.{like-self}
use Rattle.fm_fast.proofs.fields.put_field.Given.{Over}
use Rattle.fm_fast.proofs.fields.put_field.Goals as goal
use Rattle.fm_fast.proofs.fields.put_field.Goals.{After-slot_of}
use Rattle.fm_fast.specs.FieldPlaces.{IsFieldAt}
use Rattle.fm_fast.specs.Operands.{AsksOfPut}
use Rattle.fm_frames.specs.ObjectRows.{kind_of_field}
use Rattle.fm_world.specs.declared.records.FieldInfo.{FieldInfo}

-- where the field lies
place : (g : Over) (c : After-slot_of g) → IsFieldAt c.args.program.now.outline c.args.f.0 c.field.result.now.kind c.slot_of.result
place g c = record {
  place_is = sym c.slot_of.ensures;
  kind_is = like-self c.field.result.now.kind (kind_of_field c.args.program.now.outline c.args.f.0)
      (sym (ap (λ (i : FieldInfo). i.kind) c.field.ensures ∙ field-kind c.args.program.now.outline c.args.f.0));
}

pub put_field_at-requires-clause-asks : goal.put_field_at-requires-clause-asks
put_field_at-requires-clause-asks g c =
    subst (λ k. AsksOfPut k c.args.frames.now) (sym (ap (λ (i : FieldInfo). i.kind) c.field.ensures ∙ field-kind c.args.program.now.outline c.args.f.0)) c.requires.asks

pub put_field_at-requires-clause-takes : goal.put_field_at-requires-clause-takes
put_field_at-requires-clause-takes g c = (c.args.f, place g (goal.at.put_field_at-requires-clause-takes g c).After-slot_of, c.requires.takes)

pub returns-clause-did : goal.returns-clause-did
returns-clause-did g c told = c.put_field_at.ensures.did told c.args.f (place g (goal.at.returns-clause-did g c).After-slot_of)
