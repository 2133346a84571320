use Rattle.std.proofs.Common.{ap, sym, ◌∙◌, option_map}
use Rattle.fm_frames.specs.inner.Frames.{place}
use Rattle.fm_run.proofs.Standing.{no-place}
use Rattle.fm_run.proofs.names.next_place.Goals as goal

pub unreachable-requires : goal.unreachable-requires
unreachable-requires g c =
    no-place c.args.machine.now.frames c.requires.0 c.requires.1 c.requires.2 (sym (ap (option_map place) c.in-None.is) ∙ c.topmost.ensures)
