use Rattle.fm_cells.specs.Choices.{lawful}
use Rattle.fm_same.proofs.CallsCovered.{state_covers}
use Rattle.fm_same.proofs.CoveredFrames.{opening_covered, step_covered}
use Rattle.fm_same.proofs.ProgramNumbers.{holds_numbers}
use Rattle.fm_same.proofs.SoundFrames.{stand_soundly}
use Rattle.fm_same.proofs.laws.law_calls.Goals as goal

pub returns : goal.returns
returns c = record {
  numbers = holds_numbers;
  stand = λ p facts exact ready x sound covered. stand_soundly p facts exact ready x.frames sound.frames covered;
  covered = state_covers;
  stays = λ p facts choose x stand covered owes. step_covered p facts (lawful choose) x stand covered owes;
  opening = λ p facts choose job store. opening_covered p facts (lawful choose) job store;
}
