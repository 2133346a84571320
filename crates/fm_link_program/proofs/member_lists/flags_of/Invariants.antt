use Rattle.std.proofs.Common.{◌≡◌, take}
use Rattle.fm_link_program.specs.inner.MemberLists.{flags_in}
use Rattle.fm_link_program.proofs.member_lists.flags_of.Given as goal

abbrev pub invariant-loop-row : goal.invariant-loop-row
invariant-loop-row l = l.flags.items ≡ flags_in (take l.row-index l.rows)
