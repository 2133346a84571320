use Rattle.fm_code.specs.ConstantPool.{utf8_at}
use Rattle.fm_pool.proofs.RulesLemmas.{pair_decides}
use Rattle.fm_pool.proofs.rules.names_pair.Goals as goal

pub returns-in-Some-Some : goal.returns-in-Some-Some
returns-in-Some-Some c =
    pair_decides (utf8_at c.args.known.entries.now c.args.name) (utf8_at c.args.known.entries.now c.args.descriptor) c.in-Some-Some.name c.in-Some-Some.descriptor c.is_pair.result
    c.in-Some-Some.ensures c.in-Some-Some.ensures' c.is_pair.ensures
