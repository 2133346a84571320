use Rattle.std.proofs.Common.{◌≡◌, Some, sym, ap, ◌∙◌, rules}
use Rattle.std.specs.Option.{option_map}
use Rattle.fm_frames.specs.inner.Frames.{place}
use Rattle.fm_run.proofs.QuickSteps.{method-there}
use Rattle.fm_run.proofs.flats.is_in.Goals as goal

pub returns-in-Some : goal.returns-in-Some
returns-in-Some c told =
    let same : c.in-Some.place.method ≡ c.args.method = search rules in
    method-there c.args.frames.now (place c.in-Some.place) (sym (ap (option_map place) c.in-Some.is) ∙ c.topmost.ensures) ∙ ap (λ m. Some m.0) same
