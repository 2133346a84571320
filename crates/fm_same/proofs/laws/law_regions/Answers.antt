use Rattle.fm_same.proofs.CallRegions.{region_call, region_return}
use Rattle.fm_same.proofs.CapturedClasses.{captured_is_own}
use Rattle.fm_same.proofs.RegionLemmas.{region_within}
use Rattle.fm_same.proofs.laws.law_regions.Goals as goal

pub returns : goal.returns
returns c = record { within = region_within; captured = captured_is_own; calls = region_call; returns = region_return }
