use Rattle.std.proofs.Common.{◌≡◌, ◌-◌}
use Rattle.fm_decode.specs.inner.Switches.{jumps_at}
use Rattle.fm_decode.proofs.SwitchesLoops.{behind}
use Rattle.fm_decode.proofs.switches.jumps_at.Given as goal

abbrev pub invariant-loop : goal.invariant-loop
invariant-loop l = jumps_at l.fn.at l.fn.count l.fn.bytes ≡ behind l.targets.items (jumps_at l.fn.at (l.fn.count - l.counter) l.rest)
