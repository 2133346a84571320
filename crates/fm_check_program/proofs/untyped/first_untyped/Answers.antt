use Rattle.std.proofs.Common.{below_more, arith}
use Rattle.fm_base.proofs.TestFacts.{match_false, match_true}
use Rattle.fm_check_program.specs.Untyped.{IsTypedIfCoded}
use Rattle.fm_check_program.proofs.UntypedLemmas.{all_typed}
use Rattle.fm_check_program.proofs.untyped.first_untyped.Goals as goal

pub returns-then-not-accepted : goal.returns-then-not-accepted
returns-then-not-accepted c = record {
  before = c.loop-number.invariant;
  untyped = match_false _ _ _ c.if-not-accepted.true c.in_ok-accepted.ensures;
}

pub loop-number-preserved : goal.loop-number-preserved
loop-number-preserved c =
    below_more (IsTypedIfCoded c.args.program.now) c.loop-number.number c.loop-number.invariant
    (match_true _ _ _ c.if-not-accepted.false c.in_ok-accepted.ensures)

pub returns : goal.returns
returns c = all_typed c.args.program.now c.loop-number.number c.requires (omega (arith, c.loop-number-test.false)) c.loop-number.invariant
