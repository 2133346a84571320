use Rattle.std.proofs.Common.{map, take}
use Rattle.fm_read.specs.inner.MemberRules.{AreMembersOf}
use Rattle.fm_read.specs.inner.Parts.{member_view}
use Rattle.fm_read.proofs.members.members_of.Given as goal

abbrev pub invariant-loop-part : goal.invariant-loop-part
invariant-loop-part l = AreMembersOf l.kind l.in_interface l.known.entries (map member_view (take l.part-index l.parts)) l.members.items
