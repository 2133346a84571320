use Rattle.std.proofs.Common.{◌≡◌, replicate}
use Rattle.fm_base.specs.declared.characters.TheConstants.{LEFT_BRACKET}
use Rattle.fm_frames.proofs.names.brackets.Given as goal

abbrev pub invariant-loop : goal.invariant-loop
invariant-loop l = l.bytes.items ≡ replicate l.counter LEFT_BRACKET
