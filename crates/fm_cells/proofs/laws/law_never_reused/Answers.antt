use Rattle.fm_cells.proofs.StoreLaws.{IsNeverReused-make, IsNeverReused-free, IsNeverReused-put, IsNeverReused-chain}
use Rattle.fm_cells.proofs.NeverReused.{IsNeverReused-opened}
use Rattle.fm_cells.proofs.laws.law_never_reused.Goals as goal

pub returns-clause-opened : goal.returns-clause-opened
returns-clause-opened c = IsNeverReused-opened

pub returns-clause-made : goal.returns-clause-made
returns-clause-made c = IsNeverReused-make

pub returns-clause-freed : goal.returns-clause-freed
returns-clause-freed c = IsNeverReused-free

pub returns-clause-put : goal.returns-clause-put
returns-clause-put c = IsNeverReused-put

pub returns-clause-chained : goal.returns-clause-chained
returns-clause-chained c = IsNeverReused-chain
