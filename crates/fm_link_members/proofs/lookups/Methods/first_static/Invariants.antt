use Rattle.std.proofs.Common.{◌≡◌, drop}
use Rattle.fm_world.specs.Chains.{first_found}
use Rattle.fm_link_members.specs.inner.FoundMembers.{own_static_in}
use Rattle.fm_link_members.proofs.lookups.Methods.first_static.Given as goal

abbrev pub invariant-loop-class : goal.invariant-loop-class
invariant-loop-class l =
    first_found (own_static_in l.self l.signature) (drop l.class-index l.classes) ≡ first_found (own_static_in l.self l.signature) l.classes
