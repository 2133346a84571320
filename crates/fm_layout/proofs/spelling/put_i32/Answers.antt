use Rattle.std.proofs.Common.{rules}
use Rattle.fm_code.proofs.Bytes.{signed_four-bytes}
use Rattle.fm_layout.proofs.spelling.put_i32.Goals as goal

pub returns : goal.returns
returns c = rw signed_four-bytes (search rules)
