use Rattle.std.proofs.Common.{◌∙◌}
use Rattle.std.proofs.lemmas.Iterator.{YieldsList-from_chars}
use Rattle.std.proofs.lemmas.Iterator.Consumers.{YieldsList-end}
use Rattle.fm_cli.proofs.EncodingLemmas.{spelled_more, all_spelled}
use Rattle.fm_cli.proofs.encoding.modified.Goals as goal

pub loop-character-preserved : goal.loop-character-preserved
loop-character-preserved c = spelled_more c.loop-character.yielded c.in-Some.character _ _ c.loop-character.invariant c.in_ok-put_character.ensures

pub returns : goal.returns
returns c =
    let t = YieldsList-end (YieldsList-from_chars c.args.text.now c.utf8.text cc) c.loop-character.yielded _ c.loop-character.yielded_by _ _ c.in-None.is c.next.ensures.steps in
    all_spelled c.args.text.now c.loop-character.yielded _ t.0 (c.new.ensures ∙ c.loop-character.invariant)
