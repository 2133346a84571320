use Rattle.std.proofs.Common.{◌≡◌, ◌<◌, ◌^◌, ◌++◌, length}
use Rattle.std.specs.List.{All}
use Rattle.fm_base.specs.Texts.{units}
use Rattle.fm_base.proofs.texts.Units.from_modified_utf8.Given as goal

-- the rest has the further units
abbrev pub invariant-loop-unit : goal.invariant-loop-unit
invariant-loop-unit l = record { few : All (λ unit. unit < 2 ^ 16) (units l.rest); whole : l.units.items ++ units l.rest ≡ units l.text }

abbrev pub decreases-loop-unit : goal.decreases-loop-unit
decreases-loop-unit l = length l.rest
