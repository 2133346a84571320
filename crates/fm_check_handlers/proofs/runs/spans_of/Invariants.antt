use Rattle.std.proofs.Common.{◌≡◌, map, take}
use Rattle.fm_check_handlers.specs.inner.Runs.{span_of}
use Rattle.fm_check_handlers.proofs.runs.spans_of.Given as goal

abbrev pub invariant-loop-handler : goal.invariant-loop-handler
invariant-loop-handler l = l.spans.items ≡ map span_of (take l.handler-index l.handlers)
