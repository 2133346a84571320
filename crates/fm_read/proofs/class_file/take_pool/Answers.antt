use Rattle.std.proofs.Common.{length, rules}
use Rattle.fm_code.specs.ClassBytes.{pool_bytes}
use Rattle.fm_read.proofs.PoolLemmas.{prefix_spells}
use Rattle.fm_read.proofs.class_file.take_pool.Goals as goal

pub returns-in-Err-Malformed-clause-malformed : goal.returns-in-Err-Malformed-clause-malformed
returns-in-Err-Malformed-clause-malformed c = λ e pool rest starts.
    c.in-Err-Malformed.ensures.malformed (search rules) pool (length (pool_bytes pool)) (prefix_spells c.args.bytes.now pool rest starts)
