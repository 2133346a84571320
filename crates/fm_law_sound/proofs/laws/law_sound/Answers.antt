use Rattle.fm_law_sound.proofs.NextActs.{next_acts_fit}
use Rattle.fm_law_sound.proofs.RunsSound.{runs_sound, sound_while_few}
use Rattle.fm_law_sound.proofs.StepsSound.{step_sound}
use Rattle.fm_law_sound.proofs.laws.law_sound.Goals as goal

pub returns : goal.returns
returns c = record {
  steps = λ p typings ready made choose x sound few. (
    next_acts_fit p typings ready made x sound few,
    step_sound p typings ready choose x sound (λ running. next_acts_fit p typings ready made x sound few),
  );
  while_few = sound_while_few;
  runs = runs_sound;
}
