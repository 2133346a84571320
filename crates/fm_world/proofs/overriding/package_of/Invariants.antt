use Rattle.std.proofs.Common.{◌≡◌, length}
use Rattle.fm_world.specs.Lookups.{package_of}
use Rattle.fm_world.proofs.overriding.package_of.Given as goal

abbrev pub invariant-loop-last : goal.invariant-loop-last
invariant-loop-last l = package_of l.name ≡ package_of l.rest

abbrev pub decreases-loop-last : goal.decreases-loop-last
decreases-loop-last l = length l.rest
