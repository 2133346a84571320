use Rattle.std.proofs.Common.{ap, sym, ◌∙◌}
use Rattle.fm_exec.proofs.FieldSteps.{field-kind}
use Rattle.fm_fast.proofs.Likes.{like-self}
use Rattle.fm_fast.proofs.fields.get_field.Given.{Over}
use Rattle.fm_fast.proofs.fields.get_field.Goals as goal
use Rattle.fm_fast.proofs.fields.get_field.Goals.{After-slot_of}
use Rattle.fm_fast.specs.FieldPlaces.{IsFieldAt}
use Rattle.fm_frames.specs.ObjectRows.{kind_of_field}
use Rattle.fm_world.specs.declared.records.FieldInfo.{FieldInfo}

-- where the field lies
place : (g : Over) (c : After-slot_of g) → IsFieldAt c.args.program.now.outline c.args.f.0 c.field.result.now.kind c.slot_of.result
place g c = record {
  place_is = sym c.slot_of.ensures;
  kind_is = like-self c.field.result.now.kind (kind_of_field c.args.program.now.outline c.args.f.0)
      (sym (ap (λ (i : FieldInfo). i.kind) c.field.ensures ∙ field-kind c.args.program.now.outline c.args.f.0));
}

pub get_field_at-requires-clause-holds : goal.get_field_at-requires-clause-holds
get_field_at-requires-clause-holds g c = (c.args.f, place g (goal.at.get_field_at-requires-clause-holds g c).After-slot_of, c.requires.holds)

pub returns-clause-did : goal.returns-clause-did
returns-clause-did g c told = c.get_field_at.ensures.did told c.args.f (place g (goal.at.returns-clause-did g c).After-slot_of)
