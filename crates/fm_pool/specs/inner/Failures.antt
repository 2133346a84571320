-- Why a constant pool isn't read, by why a piece of it isn't.
use Rattle.fm_code.specs.declared.error.PieceFail.{PieceFail}
use Rattle.fm_code.specs.declared.error.PieceFail.TheVariants as piece
use Rattle.fm_pool.specs.declared.error.PoolFail.{PoolFail}
use Rattle.fm_pool.specs.declared.error.PoolFail.TheVariants as pool

abbrev pub pool_failure : PieceFail → PoolFail
pool_failure piece.Malformed = pool.Malformed
pool_failure piece.NoMemory = pool.NoMemory
