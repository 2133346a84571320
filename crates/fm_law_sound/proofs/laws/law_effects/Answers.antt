use Rattle.fm_law_sound.proofs.BuiltInRows.{native_leads}
use Rattle.fm_law_sound.proofs.Rows.{effect_leads}
use Rattle.fm_law_sound.proofs.laws.law_effects.Goals as goal

pub returns : goal.returns
returns c = record {
  instructions = λ o s after f i u news byte sights h whole names call row. effect_leads o s f h after i u news byte sights whole names call row;
  built_ins = λ o f row byte sights have. native_leads o f row byte sights have;
}
