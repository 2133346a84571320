use Rattle.fm_base.proofs.UnitFronts.{triple_decided}
use Rattle.fm_base.proofs.modified_utf8.after_triple.Goals as goal

pub returns-then-is_triple : goal.returns-then-is_triple
returns-then-is_triple c = λ rest.
    triple_decided c.args.first c.args.bytes.now c.in_ok-second.rest.now c.in_ok-third.rest.now rest c.in_ok-second.second.now c.in_ok-third.third.now c.in_ok-second.ensures.cases.0 c.in_ok-third.ensures.cases.0
    (c.is_triple.ensures.0 c.if-is_triple.true)
