use Rattle.fm_law_two_memories.proofs.Twins.{cell_same, tests_agree}
use Rattle.fm_law_two_memories.proofs.laws.law_values.Goals as goal

pub returns : goal.returns
returns c = record { cells = cell_same; tests = tests_agree }
