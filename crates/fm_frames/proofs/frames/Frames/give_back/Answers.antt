use Rattle.std.proofs.Common.{ap, ◌∙◌, option_to_list}
use Rattle.fm_frames.proofs.FrameValues.{gave-back}
use Rattle.fm_frames.proofs.frames.Frames.give_back.Goals as goal
use Rattle.fm_frames.specs.inner.Frames.{on_top, with_words}

pub returns : goal.returns
returns c =
    gave-back c.args.words c.args.self.now c.pop.new.self c.advance.new.self c.push_if.new.self c.push_if-2.new.self c.requires.few c.pop.ensures
    c.advance.ensures
    (c.in_ok-push_if.ensures ∙ ap (λ v. on_top (with_words (option_to_list v)) c.advance.new.self) c.result_word-below.ensures)
    (c.in_ok-push_if-2.ensures ∙ ap (λ v. on_top (with_words (option_to_list v)) c.push_if.new.self) c.result_word-top.ensures)
