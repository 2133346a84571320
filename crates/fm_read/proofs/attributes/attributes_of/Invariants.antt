use Rattle.std.proofs.Common.{map, take}
use Rattle.fm_read.specs.inner.MemberRules.{AreAttributesOf}
use Rattle.fm_code.specs.inner.Reading.{attribute_view}
use Rattle.fm_read.proofs.attributes.attributes_of.Given as goal

abbrev pub invariant-loop-part : goal.invariant-loop-part
invariant-loop-part l = AreAttributesOf l.kind l.known.entries (map attribute_view (take l.part-index l.parts)) l.attributes.items
