use Rattle.std.proofs.Common.{◌≡◌, ◌-◌, length}
use Rattle.std.specs.List.{range_with_len}
use Rattle.fm_rewrite.specs.FreeCalls.{call_among}
use Rattle.fm_world.specs.Members.{methods_of}
use Rattle.fm_rewrite.proofs.free_calls.first_free_call.Given as goal

abbrev pub invariant-loop-number : goal.invariant-loop-number
invariant-loop-number l =
    call_among l.program (range_with_len l.number (length (methods_of l.program.outline.classes) - l.number))
    ≡ call_among l.program (range_with_len 0 (length (methods_of l.program.outline.classes)))
