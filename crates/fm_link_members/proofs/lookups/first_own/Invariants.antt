use Rattle.std.proofs.Common.{◌≡◌, drop}
use Rattle.fm_world.specs.Chains.{first_found}
use Rattle.fm_link_members.specs.inner.MemberTables.{own_in}
use Rattle.fm_link_members.proofs.lookups.first_own.Given as goal

abbrev pub invariant-loop-class : goal.invariant-loop-class
invariant-loop-class l =
    first_found (own_in l.nearest l.members.rows.items l.signature) (drop l.class-index l.classes)
    ≡ first_found (own_in l.nearest l.members.rows.items l.signature) l.classes
