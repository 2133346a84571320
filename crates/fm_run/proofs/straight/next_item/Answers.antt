use Rattle.fm_run.proofs.FlatSteps.{item-none, item-there}
use Rattle.fm_run.proofs.straight.next_item.Goals as goal
use Rattle.fm_frames.specs.inner.Frames.{place}
use Rattle.std.proofs.Common.{ap, sym, ◌∙◌, option_map}

pub returns-in-Some : goal.returns-in-Some
returns-in-Some c = item-there c.args.frames.now (place c.in-Some.place) (sym (ap (option_map place) c.in-Some.is) ∙ c.topmost.ensures)

pub returns-in-None : goal.returns-in-None
returns-in-None c = item-none c.args.frames.now (sym (ap (option_map place) c.in-None.is) ∙ c.topmost.ensures)
