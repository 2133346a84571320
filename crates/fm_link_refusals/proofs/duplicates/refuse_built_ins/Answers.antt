use Rattle.std.proofs.Common.{refl, sym, ◌∙◌, Some}
use Rattle.fm_link_refusals.proofs.EarlierNames.{built_in_here, built_in_other}
use Rattle.fm_link_refusals.proofs.FirstRefusals.{refuses_first, refuses_none}
use Rattle.fm_link_refusals.specs.Refused.{refusal_as}
use Rattle.fm_world.specs.Causes.{BuiltIn, built_in_named}
use Rattle.fm_world.specs.Linking.{refused_built_ins}
use Rattle.fm_link_refusals.proofs.duplicates.refuse_built_ins.Goals as goal

pub loop-class-init : goal.loop-class-init
unfolding refused_built_ins
loop-class-init c = refl

pub returns-then-is_built_in : goal.returns-then-is_built_in
returns-then-is_built_in c =
    let bad = c.in_ok-bad_of.field-0 in
    refuses_first built_in_named c.args.given.now c.loop-class.class-index c.class-item.result (refused_built_ins c.args.given.now)
    (Some (refusal_as BuiltIn bad))
    c.loop-class-test.true c.class-item.is
    (built_in_here c.class-item.result c.own_name-name.result.now bad c.own_name-name.ensures
    (sym c.is_built_in.ensures ∙ c.if-is_built_in.true) c.in_ok-bad_of.ensures.0 c.in_ok-bad_of.ensures.1)
    c.loop-class.invariant

pub loop-class-preserved : goal.loop-class-preserved
loop-class-preserved c =
    refuses_none built_in_named c.args.given.now c.loop-class.class-index c.class-item.result
    (refused_built_ins c.args.given.now) c.loop-class-test.true c.class-item.is
    (built_in_other c.class-item.result c.own_name-name.result.now c.own_name-name.ensures (sym c.is_built_in.ensures ∙ c.if-is_built_in.false))
    c.loop-class.invariant
