use Rattle.std.proofs.Common.{◌≡◌, drop}
use Rattle.fm_world.specs.Chains.{first_found}
use Rattle.fm_link_members.specs.inner.Overriding.{overriding_in}
use Rattle.fm_link_members.proofs.overriding.first_overriding.Given as goal

abbrev pub invariant-loop-class : goal.invariant-loop-class
invariant-loop-class l =
    first_found (overriding_in l.methods l.hierarchy l.method l.signature) (drop l.class-index l.classes)
    ≡ first_found (overriding_in l.methods l.hierarchy l.method l.signature) l.classes
