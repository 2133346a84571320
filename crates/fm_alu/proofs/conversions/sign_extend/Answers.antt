-- The value, and what is known of every reading with a sign.
use Rattle.std.proofs.Common.{arith, subst, sym, ◌-◌, ◌^◌, ◌≤ℤ◌, ◌<ℤ◌, pos, neg_ℤ}
use Rattle.std.proofs.lemmas.Int.{ints}
use Rattle.fm_alu.specs.Laws.{IsCongruent}
use Rattle.fm_alu.proofs.TwosComplementLemmas.{mag-signed}
use Rattle.fm_alu.proofs.ConversionsLemmas.{extension}
use Rattle.fm_alu.proofs.LawsLemmas.{signed_congruent}
use Rattle.fm_alu.proofs.conversions.sign_extend.Goals as goal

pub returns-clause-value : goal.returns-clause-value
returns-clause-value c = extension c.args.a c.args.bits c.ranges.a c.requires.some c.requires.within

pub returns-clause-congruent : goal.returns-clause-congruent
returns-clause-congruent c =
    subst (λ z. IsCongruent c.args.bits z c.args.a) (sym (returns-clause-value c)) (signed_congruent c.args.bits c.args.a)

pub returns-clause-at_least : goal.returns-clause-at_least
returns-clause-at_least c =
    let h = mag-signed c.args.bits c.args.a c.requires.some in
    subst (λ z. neg_ℤ (pos (2 ^ (c.args.bits - 1))) ≤ℤ z) (sym (returns-clause-value c)) (omega (arith, ints))

pub returns-clause-below : goal.returns-clause-below
returns-clause-below c =
    let h = mag-signed c.args.bits c.args.a c.requires.some in
    subst (λ z. z <ℤ pos (2 ^ (c.args.bits - 1))) (sym (returns-clause-value c)) (omega (arith, ints))
