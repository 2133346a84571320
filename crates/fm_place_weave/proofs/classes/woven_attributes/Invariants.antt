use Rattle.std.proofs.Common.{◌≡◌, ◌++◌, drop, map}
use Rattle.fm_place_weave.specs.ClassByPlan.{attribute_by, long_attributes}
use Rattle.fm_place_weave.proofs.classes.woven_attributes.Given as goal

abbrev pub invariant-loop-attribute : goal.invariant-loop-attribute
invariant-loop-attribute l = record {
  made : l.woven.items ++ map (attribute_by l.calls l.plan) (drop l.attribute-index l.attributes) ≡ map (attribute_by l.calls l.plan) l.attributes;
  none : long_attributes l.calls l.plan (drop l.attribute-index l.attributes) ≡ long_attributes l.calls l.plan l.attributes;
}
