use Rattle.fm_base.proofs.UnitFronts.{pair_decided}
use Rattle.fm_base.proofs.modified_utf8.after_pair.Goals as goal

pub returns-then-is_pair : goal.returns-then-is_pair
returns-then-is_pair c = λ rest.
    pair_decided c.args.first c.args.bytes.now c.in_ok-second.rest.now rest c.in_ok-second.second.now c.in_ok-second.ensures.cases.0 (c.is_pair.ensures.0 c.if-is_pair.true)
