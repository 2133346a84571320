use Rattle.std.proofs.Common.{sym, ◌∙◌}
use Rattle.fm_link_refusals.proofs.EarlierNames.{duplicate_here, earlier-more, earlier-none, known_of}
use Rattle.fm_link_refusals.proofs.duplicates.refuse_duplicates.Goals as goal

pub loop-class-init : goal.loop-class-init
loop-class-init c = earlier-none c.args.given.now c.new-earlier.result c.new-earlier.ensures.empty

pub returns-then-contains_key : goal.returns-then-contains_key
returns-then-contains_key c =
    duplicate_here c.args.given.now c.loop-class.class-index c.class-item.result
    (known_of c.loop-class.earlier) c.own_name-name.result.now c.in_ok-bad_of.field-0
    c.loop-class.invariant c.loop-class-test.true c.class-item.is c.own_name-name.ensures (sym c.contains_key.ensures ∙ c.if-contains_key.true)
    c.in_ok-bad_of.ensures.0 c.in_ok-bad_of.ensures.1

pub loop-class-preserved : goal.loop-class-preserved
loop-class-preserved c =
    earlier-more c.args.given.now c.loop-class.class-index c.class-item.result c.loop-class.earlier c.insert.new.self c.own_name-name.result.now
    c.loop-class.invariant c.loop-class-test.true c.class-item.is c.own_name-name.ensures (sym c.contains_key.ensures ∙ c.if-contains_key.false)
    c.in_ok-insert.ensures.updates
