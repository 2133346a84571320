use Rattle.std.proofs.Common.{rules, ◌≡◌, sym, subst, ℕ, None, Some}
use Rattle.fm_rewrite.proofs.CallOffsetLemmas.{call_offset}
use Rattle.fm_rewrite.proofs.JudgedLemmas.{judged_analysable, judged_old, judged_spelled}
use Rattle.fm_rewrite.proofs.OutcomeLemmas.{comes_of}
use Rattle.fm_rewrite.specs.FreeCalls.{first_call}
use Rattle.fm_rewrite.specs.Plans.{ArePlanned}
use Rattle.fm_rewrite.proofs.rewriting.rewrite_with.Goals as goal

pub first_free_call-requires : goal.first_free_call-requires
first_free_call-requires c = (judged_analysable c.args.classes.now c.args.program.now c.requires).uses

pub calls_free-requires : goal.calls_free-requires
calls_free-requires c =
    let call : ℕ × ℕ = (c.in-Some.method.0, c.in-Some.offset) in
    let found : first_call c.args.program.now ≡ Some call = sym c.in-Some.ensures in
    call_offset c.args.program.now call (judged_analysable c.args.classes.now c.args.program.now c.requires) found

pub planned_methods-requires-clause-analysable : goal.planned_methods-requires-clause-analysable
planned_methods-requires-clause-analysable c = judged_analysable c.args.classes.now c.args.program.now c.requires

pub planned_methods-requires-clause-old : goal.planned_methods-requires-clause-old
planned_methods-requires-clause-old c = judged_old c.args.classes.now c.args.program.now c.requires

pub rewritten_by-requires-clause-planned : goal.rewritten_by-requires-clause-planned
rewritten_by-requires-clause-planned c =
    (c.args.chains, subst (ArePlanned c.args.program.now c.args.chains) (sym c.as_slice.ensures.value) c.in_ok-planned.ensures)

pub returns : goal.returns
returns c =
    let none : first_call c.args.program.now ≡ None = search rules in
    comes_of c.args.classes.now c.requires.main c.args.program.now c.requires.program_is c.args.chains c.as_slice.result.now
    (judged_spelled c.args.classes.now c.args.program.now c.requires)
    (subst (ArePlanned c.args.program.now c.args.chains) (sym c.as_slice.ensures.value) c.in_ok-planned.ensures) none c.rewritten_by.result c.rewritten_by.ensures
