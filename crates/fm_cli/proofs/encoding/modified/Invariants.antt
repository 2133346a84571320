use Rattle.std.proofs.Common.{◌≡◌}
use Rattle.fm_cli.proofs.EncodingLemmas.{spelled}
use Rattle.fm_cli.proofs.encoding.modified.Given as goal

abbrev pub invariant-loop-character : goal.invariant-loop-character
invariant-loop-character l = l.bytes.items ≡ spelled l.yielded
