use Rattle.fm_code.proofs.Bytes.{big_bytes-big_number}
use Rattle.fm_code.proofs.laws.law_number_bytes.Goals as goal

pub returns : goal.returns
returns c = big_bytes-big_number
