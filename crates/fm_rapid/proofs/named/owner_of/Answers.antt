use Rattle.std.proofs.Common.{◌<◌, length, subst, sym, ap}
use Rattle.fm_types.specs.Named.{NamesMember}
use Rattle.fm_rapid.proofs.NamedLemmas.{field_owner_within}
use Rattle.fm_world.specs.Programs.{field_info}
use Rattle.fm_world.specs.declared.records.FieldInfo.{FieldInfo}
use Rattle.fm_rapid.proofs.named.owner_of.Goals as goal

pub returns-in-OfField-clause-within : goal.returns-in-OfField-clause-within
unfolding field_info
returns-in-OfField-clause-within c =
    let o = c.args.program.now.outline in
    let there = subst (NamesMember o) c.in-OfField.is c.requires in
    subst (λ n. n < length o.classes) (sym (ap (λ (i : FieldInfo). i.class.0) c.field.ensures)) (field_owner_within o.classes c.in-OfField.field.0 there)
