use Rattle.std.proofs.Common.{◌≡◌, drop}
use Rattle.fm_link_records.specs.inner.Firsts.{first_by}
use Rattle.fm_link_records.proofs.firsts.first_by.Given as goal

abbrev pub invariant-loop-attribute : goal.invariant-loop-attribute
invariant-loop-attribute l = first_by l.uses (drop l.attribute-index l.attributes) ≡ first_by l.uses l.attributes
