use Rattle.std.proofs.Common.{sym, subst}
use Rattle.std.specs.List.{AllByRecursion}
use Rattle.fm_summ_shapes.proofs.AcceptedLemmas.{accepted_are, accepted_checkable}
use Rattle.fm_summ_shapes.specs.Analysed.{AreAnalysable, IsAccepted}
use Rattle.fm_base.proofs.ListFacts.{AllByRecursion-weaker}
use Rattle.fm_code.specs.Spells.{HasSpelling}
use Rattle.fm_check_program.specs.Untyped.{AreCheckable, AreTyped}
use Rattle.fm_tests_linked.proofs.analysis.answer.Goals as goal

pub link-requires : goal.link-requires
link-requires c =
    let accepted = subst (AllByRecursion IsAccepted) (sym c.as_slice.ensures.value) c.in_ok-given.ensures in
    AllByRecursion-weaker IsAccepted HasSpelling (λ k is. is.spelled) c.as_slice.result.now accepted

pub answer_if_typed-requires-clause-checkable : goal.answer_if_typed-requires-clause-checkable
answer_if_typed-requires-clause-checkable c =
    let accepted = subst (AllByRecursion IsAccepted) (sym c.as_slice.ensures.value) c.in_ok-given.ensures in
    subst AreCheckable (sym c.in-Ok.ensures.program) (accepted_checkable c.as_slice.result.now _ accepted c.in-Ok.ensures.refuses)

pub answer_if_typed-requires-clause-analysable : goal.answer_if_typed-requires-clause-analysable
answer_if_typed-requires-clause-analysable c = λ typed.
    let accepted = subst (AllByRecursion IsAccepted) (sym c.as_slice.ensures.value) c.in_ok-given.ensures in
    subst AreAnalysable (sym c.in-Ok.ensures.program)
    (accepted_are c.as_slice.result.now _ accepted c.in-Ok.ensures.refuses (subst AreTyped c.in-Ok.ensures.program typed))
