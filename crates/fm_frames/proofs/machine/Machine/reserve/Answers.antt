use Rattle.std.proofs.Common.{arith}
use Rattle.fm_frames.proofs.Underways.{exhausted}
use Rattle.fm_frames.proofs.machine.Machine.reserve.Goals as goal

pub returns-then-words-saturating_sub-clause-told : goal.returns-then-words-saturating_sub-clause-told
returns-then-words-saturating_sub-clause-told g c p choose e deep many =
    exhausted p choose _ c.args.self.now e c.live_words-live.result c.args.words c.self.view_is deep many c.live_words-live.ensures
    (omega (arith, c.if-words-saturating_sub.true))
    (omega (arith, c.if-words-saturating_sub.true, c.saturating_sub.ensures, c.budget.ensures))
