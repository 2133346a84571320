use Rattle.std.proofs.Common.{refl}
use Rattle.fm_code.proofs.Example.{example_spelled, short_length_not_spelled, wrong_tag_not_spelled, longer_not_spelled}
use Rattle.fm_code.proofs.laws.law_example.Goals as goal

pub returns : goal.returns
returns c = record {
  size = refl;
  spelled = example_spelled;
  short_length = short_length_not_spelled;
  wrong_tag = wrong_tag_not_spelled;
  longer = longer_not_spelled;
}
