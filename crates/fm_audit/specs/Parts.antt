-- The parts of what makes written classes safe insertions, and what is to be done with a method that was judged by them.
use Rattle.std.specs.Prelude.{ℕ, Option, Some, None}
use Rattle.fm_place_weave.specs.declared.planned.Planned.{Planned}
use Rattle.fm_place_weave.specs.declared.planned.Planned.TheVariants as planned
use Rattle.fm_audit.specs.declared.parts.Part.{Part}
use Rattle.fm_audit.specs.declared.parts.Part.TheVariants as part
use Rattle.fm_audit.specs.declared.plans.Judged.{Judged}
use Rattle.fm_audit.specs.declared.plans.Judged.TheVariants as judged

-- the number of a part
abbrev pub part_number : Part → ℕ
part_number part.Classes = 1
part_number part.Items = 2
part_number part.Holders = 3
part_number part.Uses = 4
part_number part.Frees = 5
part_number part.Layout = 6

-- what is to be done with a method
abbrev pub planned_of : Judged → Planned
planned_of (judged.Safe done) = done
planned_of (judged.Fails part done) = done

-- the part that a method is found to fail, if it is found to fail one
abbrev pub failed_in : Judged → Option Part
failed_in (judged.Safe done) = None
failed_in (judged.Fails failed done) = Some failed

-- the least part that a method fails whose items are these, if its new code isn't as it has to be: it has no holders where nothing is to be done with it
abbrev pub part_left : Planned → Part
part_left planned.Same = part.Holders
part_left (planned.Woven plan) = part.Layout
part_left (planned.TooLong bytes chains) = part.Layout

-- the least part that a method fails, if its new code isn't as it has to be
abbrev pub part_in : Judged → Part
part_in (judged.Safe done) = part_left done
part_in (judged.Fails failed done) = failed
