use Rattle.fm_frames.specs.Acts.{cell_of}
use Rattle.fm_law_holders.proofs.Apart.{items_same}
use Rattle.fm_law_holders.proofs.Below.{all_below}
use Rattle.fm_law_holders.proofs.OpeningMade.{opening_made}
use Rattle.fm_law_holders.proofs.StepsMade.{step_made}
use Rattle.fm_law_holders.proofs.laws.law_uninitialised.Goals as goal

pub returns-clause-opening : goal.returns-clause-opening
returns-clause-opening c = λ p typings choose job store made sound. opening_made p typings choose job store made sound

pub returns-clause-steps : goal.returns-clause-steps
returns-clause-steps c = λ p typings linked steps makes cells free choose x made whole few are.
    step_made p typings whole.sound.typed steps makes cells linked.constants free choose x made whole few are

pub returns-clause-apart : goal.returns-clause-apart
returns-clause-apart c = λ store made item other v w one two apart same. apart (items_same store made item other (cell_of v) (cell_of w) one two same)

pub returns-clause-below : goal.returns-clause-below
returns-clause-below c = λ p facts x colour made coloured are. all_below p facts x colour made coloured are
