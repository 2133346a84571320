use Rattle.fm_cells.proofs.StoreLaws.{IsOrderly-make, IsOrderly-free, IsOrderly-put, IsOrderly-chain}
use Rattle.fm_cells.proofs.Soundness.{IsOrderly-opened}
use Rattle.fm_cells.proofs.laws.law_orderly.Goals as goal

pub returns-clause-opened : goal.returns-clause-opened
returns-clause-opened c = λ free budget limit. IsOrderly-opened budget limit free

pub returns-clause-made : goal.returns-clause-made
returns-clause-made c = IsOrderly-make

pub returns-clause-freed : goal.returns-clause-freed
returns-clause-freed c = IsOrderly-free

pub returns-clause-put : goal.returns-clause-put
returns-clause-put c = IsOrderly-put

pub returns-clause-chained : goal.returns-clause-chained
returns-clause-chained c = IsOrderly-chain
