use Rattle.fm_types.proofs.Order.{fits-refl, fits-trans}
use Rattle.fm_types.proofs.laws.law_fits.Goals as goal

pub returns-clause-reflexive : goal.returns-clause-reflexive
returns-clause-reflexive c = fits-refl

pub returns-clause-transitive : goal.returns-clause-transitive
returns-clause-transitive c = fits-trans
