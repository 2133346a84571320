use Rattle.std.proofs.Common.{rules}
use Rattle.fm_code.proofs.Bytes.{signed_four-bytes}
use Rattle.fm_layout.proofs.spelling.long_jump.Goals as goal

pub returns : goal.returns
returns c = simp signed_four-bytes (search rules)
