use Rattle.std.proofs.Common.{◌≡◌, drop}
use Rattle.std.specs.List.{list_any}
use Rattle.fm_link_members.specs.inner.Overriding.{opens_in}
use Rattle.fm_link_members.proofs.overriding.is_opened.Given as goal

abbrev pub invariant-loop-class : goal.invariant-loop-class
invariant-loop-class l =
    list_any (opens_in l.methods l.hierarchy l.method l.signature) (drop l.class-index l.classes)
    ≡ list_any (opens_in l.methods l.hierarchy l.method l.signature) l.classes
