use Rattle.std.proofs.Common.{◌≡◌, replicate}
use Rattle.fm_world.specs.declared.uses.Use.TheVariants as resolved
use Rattle.fm_link_records.proofs.firsts.firsts_of.Given as goal

abbrev pub invariant-loop : goal.invariant-loop
invariant-loop l = l.firsts.items ≡ replicate l.counter resolved.Unused
