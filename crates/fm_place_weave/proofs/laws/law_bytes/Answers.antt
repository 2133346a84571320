use Rattle.fm_place_weave.proofs.NarrowLemmas.{narrow-is}
use Rattle.fm_place_weave.proofs.laws.law_bytes.Goals as goal

pub returns : goal.returns
returns c = narrow-is
