use Rattle.std.proofs.Common.{◌≡◌, Some, option_copied, slice_get, sym, ap, ◌∙◌}
use Rattle.std.specs.Option.{option_map}
use Rattle.fm_frames.specs.inner.Frames.{place}
use Rattle.fm_run.proofs.QuickSteps.{next-quicks}
use Rattle.fm_run.proofs.flats.quicks_next.Goals as goal

pub returns : goal.returns
returns c =
    let at = place c.in-Some.place in
    let found : slice_get c.args.codes.now at.0 ≡ Some c.in-Some-quicks.quicks.now = sym c.quicks.ensures ∙ ap option_copied c.in-Some-quicks.is in
    next-quicks c.args.program.now c.args.codes.now c.args.frames.now at c.in-Some-quicks.quicks.now c.requires
    (sym (ap (option_map place) c.in-Some.is) ∙ c.topmost.ensures) found
