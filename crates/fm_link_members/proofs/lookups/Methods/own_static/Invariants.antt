use Rattle.std.proofs.Common.{◌≡◌, ◌-◌}
use Rattle.fm_code.specs.AccessFlags.{is_static}
use Rattle.fm_link_members.specs.inner.MemberTables.{first_from}
use Rattle.fm_link_members.specs.inner.NearestSteps.{is_signed}
use Rattle.fm_link_members.proofs.lookups.Methods.own_static.Given as goal

abbrev pub invariant-loop-method : goal.invariant-loop-method
invariant-loop-method l =
    first_from (is_signed l.self.members.rows.items l.self.signatures.of_members.items is_static l.signature) (l.end - l.method) l.method
    ≡ first_from (is_signed l.self.members.rows.items l.self.signatures.of_members.items is_static l.signature) (l.end - l.start) l.start
