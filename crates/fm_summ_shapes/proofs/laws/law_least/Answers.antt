use Rattle.fm_summ_shapes.proofs.LeastLemmas.{least_link_alike, least_make_one_shape}
use Rattle.fm_summ_shapes.proofs.laws.law_least.Goals as goal

pub returns : goal.returns
returns c = record { shapes = least_make_one_shape; links = least_link_alike }
