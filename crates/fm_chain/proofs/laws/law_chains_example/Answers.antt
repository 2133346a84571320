use Rattle.fm_chain.proofs.ChainsExample.{items, loops, read, written}
use Rattle.fm_chain.proofs.laws.law_chains_example.Goals as goal

pub returns : goal.returns
returns c = record { loops = loops; items = items; read = read; written = written }
