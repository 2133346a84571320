use Rattle.fm_cells.proofs.StoreLaws.{IsLastReused-make, IsLastReused-free, IsLastReused-put, IsLastReused-chain}
use Rattle.fm_cells.proofs.LastReused.{IsLastReused-opened}
use Rattle.fm_cells.proofs.laws.law_last_reused.Goals as goal

pub returns-clause-opened : goal.returns-clause-opened
returns-clause-opened c = IsLastReused-opened

pub returns-clause-made : goal.returns-clause-made
returns-clause-made c = IsLastReused-make

pub returns-clause-freed : goal.returns-clause-freed
returns-clause-freed c = IsLastReused-free

pub returns-clause-put : goal.returns-clause-put
returns-clause-put c = IsLastReused-put

pub returns-clause-chained : goal.returns-clause-chained
returns-clause-chained c = IsLastReused-chain
