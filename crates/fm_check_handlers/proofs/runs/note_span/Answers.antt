use Rattle.std.proofs.Common.{◌-◌}
use Rattle.fm_check_handlers.proofs.RunLemmas.{on_ok, Puts-both}
use Rattle.fm_check_handlers.specs.inner.Runs.{IsOneMore, Puts}
use Rattle.fm_check_handlers.proofs.runs.note_span.Goals as goal

pub returns : goal.returns
returns c =
    let span = c.args.span in
    let first = c.note.new.runs.items in
    let last = c.note-2.new.runs.items in
    on_ok (IsOneMore (span.end - 1) span.entry first last) (Puts span c.args.runs.now.items last) c.note-2.result
    (λ one. Puts-both span c.args.runs.now.items first last c.if-span.false c.in_ok-note.ensures one) c.note-2.ensures
