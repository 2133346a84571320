use Rattle.std.proofs.Common.{◌≡◌, drop}
use Rattle.fm_frames.specs.Steps.{handler_among}
use Rattle.fm_frames.specs.inner.Catching.{placed}
use Rattle.fm_frames.proofs.throws.handler_among.Given as goal

abbrev pub invariant-loop-h : goal.invariant-loop-h
invariant-loop-h l =
    handler_among l.program (placed l.method.0 l.item) l.t l.handlers
    ≡ handler_among l.program (placed l.method.0 l.item) l.t (drop l.h-index l.handlers)
