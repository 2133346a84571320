use Rattle.std.proofs.Common.{◌≡◌, ap, ◌∙◌, subst, unwrap_or}
use Rattle.std.proofs.lemmas.Option.{unwrap_or-slice_get}
use Rattle.fm_frames.proofs.machine.Machine.word.Goals as goal
use Rattle.fm_frames.specs.States.{State, word_at}
use Rattle.fm_frames.specs.declared.values.Value.TheVariants as value
use Rattle.fm_frames.specs.inner.Frames.{stack_in}

pub returns-in-None : goal.returns-in-None
returns-in-None g c =
    subst (λ (x : State). value.Top ≡ word_at (stack_in x.frames) c.args.place) c.self.view_is
    (ap (λ found. unwrap_or found value.Top) c.in-None.ensures ∙ unwrap_or-slice_get (stack_in c.self.inside.frames) c.args.place value.Top)
