use Rattle.std.proofs.Common.{◌≡◌, drop}
use Rattle.fm_rewrite.specs.FreeCalls.{call_in_items}
use Rattle.fm_rewrite.proofs.free_calls.first_in_items.Given as goal

abbrev pub invariant-loop-item : goal.invariant-loop-item
invariant-loop-item l = call_in_items l.program l.method.0 (drop l.item-index l.items) ≡ call_in_items l.program l.method.0 l.items
