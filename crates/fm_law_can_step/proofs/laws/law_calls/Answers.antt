use Rattle.fm_law_can_step.proofs.Constants.{rows, suit}
use Rattle.fm_law_can_step.proofs.Serving.{serves}
use Rattle.fm_law_can_step.proofs.Standing.{births}
use Rattle.fm_law_can_step.proofs.laws.law_calls.Goals as goal

pub returns : goal.returns
returns c = record {
  built_ins = λ p can. (rows p can, λ x going. serves p x can going);
  starts = λ p x can going. (suit p x can going, births p x can going);
}
