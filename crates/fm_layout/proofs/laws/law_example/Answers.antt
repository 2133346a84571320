use Rattle.std.proofs.Common.{refl}
use Rattle.fm_code.specs.Numbers.{two, four, signed_four}
use Rattle.fm_layout.specs.Laid.{laid_of}
use Rattle.fm_layout.proofs.laws.law_example.Goals as goal

pub returns : goal.returns
unfolding laid_of two four signed_four
returns c = record {
  loop_laid = refl;
  switch_laid = refl;
  reaches = refl;
  over = refl;
  reaches_back = refl;
  back = refl;
  rounds = refl;
  one_round = refl;
  wide = refl;
  wide_last = refl;
}
