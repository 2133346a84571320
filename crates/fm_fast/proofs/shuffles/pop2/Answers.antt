use Rattle.std.proofs.Common.{refl}
use Rattle.fm_fast.proofs.shuffles.pop2.Goals as goal
use Rattle.fm_fast.specs.Flows.{on}
use Rattle.fm_frames.proofs.Finishes.{took}
use Rattle.fm_frames.specs.NumberRows.{move_effect}

pub returns : goal.returns
unfolding move_effect
returns c p choose x =
    took p choose (on x c.args.frames.now) (on x c.args.frames.now) c.advance.new.self c.drop_words.new.self 2 refl c.requires c.advance.ensures
    c.drop_words.ensures
