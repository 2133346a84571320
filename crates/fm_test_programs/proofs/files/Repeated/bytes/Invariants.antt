use Rattle.std.proofs.Common.{◌≡◌, ◌++◌}
use Rattle.fm_test_programs.specs.Files.{pieces}
use Rattle.fm_test_programs.proofs.files.Repeated.bytes.Given as goal

-- the start and the pieces so far are there
abbrev pub invariant-loop : goal.invariant-loop
invariant-loop l = l.bytes.items ≡ l.self.start.now ++ pieces l.counter l.self.piece.now
