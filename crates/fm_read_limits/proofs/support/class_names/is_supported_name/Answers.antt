use Rattle.std.proofs.Common.{sym, ap, ◌∙◌, false, not}
use Rattle.fm_base.specs.Texts.{units}
use Rattle.fm_read_limits.specs.inner.ClassNames.{are_whole}
use Rattle.fm_read_limits.proofs.SurrogateLemmas.{decided, zero_refused, alone_refused}
use Rattle.fm_read_limits.proofs.support.class_names.is_supported_name.Goals as goal

pub returns-then-unit-eq0 : goal.returns-then-unit-eq0
returns-then-unit-eq0 c =
    let here = ap (are_whole c.loop-unit.high) c.in-Some.ensures.0 ∙ zero_refused c.loop-unit.high c.in-Some.unit (units c.in-Some.after.now) c.if-unit-eq0.true in
    decided c.args.name.now false (sym c.loop-unit.invariant ∙ here)

pub returns-then-not-may_follow : goal.returns-then-not-may_follow
returns-then-not-may_follow c =
    let here = ap (are_whole c.loop-unit.high) c.in-Some.ensures.0 ∙ alone_refused c.loop-unit.high c.in-Some.unit (units c.in-Some.after.now) (sym c.if-not-may_follow.ensures) in
    decided c.args.name.now false (sym c.loop-unit.invariant ∙ here)

pub returns : goal.returns
returns c = decided c.args.name.now (not c.loop-unit.high) (sym c.loop-unit.invariant ∙ ap (are_whole c.loop-unit.high) c.in_default.ensures)
