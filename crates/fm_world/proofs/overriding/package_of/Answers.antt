use Rattle.std.proofs.Common.{sym, ◌∙◌}
use Rattle.fm_world.proofs.OverridingLemmas.{package_before, package_here, package_none}
use Rattle.fm_world.proofs.overriding.package_of.Goals as goal

pub returns-then-is_slash : goal.returns-then-is_slash
returns-then-is_slash c =
    sym (c.loop-last.invariant
    ∙ package_here c.loop-last.rest.now c.in-Some.before.now c.in-Some.last.now c.in-Some.ensures.cases.0 (sym c.is_slash.ensures ∙ c.if-is_slash.true))

pub loop-last-preserved : goal.loop-last-preserved
loop-last-preserved c =
    c.loop-last.invariant
    ∙ package_before c.loop-last.rest.now c.in-Some.before.now c.in-Some.last.now c.in-Some.ensures.cases.0 (sym c.is_slash.ensures ∙ c.if-is_slash.false)

pub returns : goal.returns
returns c = sym (c.loop-last.invariant ∙ package_none c.loop-last.rest.now c.in_default.ensures.cases)
