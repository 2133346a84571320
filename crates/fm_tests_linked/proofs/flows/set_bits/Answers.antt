use Rattle.std.proofs.Common.{arith}
use Rattle.fm_tests_linked.proofs.flows.set_bits.Goals as goal

pub get-requires : goal.get-requires
get-requires c = omega (arith, c.loop-i-test.true, c.bits-i-end.ensures)
