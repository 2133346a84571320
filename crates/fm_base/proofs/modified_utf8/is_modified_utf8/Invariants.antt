use Rattle.std.proofs.Common.{◌↔◌, length}
use Rattle.fm_base.specs.Texts.{IsModifiedUtf8}
use Rattle.fm_base.proofs.UnitFronts.{HasUnits}
use Rattle.fm_base.proofs.modified_utf8.is_modified_utf8.Given as goal

-- the rest decides
abbrev pub invariant-loop-after : goal.invariant-loop-after
invariant-loop-after l = IsModifiedUtf8 l.text ↔ HasUnits l.rest

abbrev pub decreases-loop-after : goal.decreases-loop-after
decreases-loop-after l = length l.rest
