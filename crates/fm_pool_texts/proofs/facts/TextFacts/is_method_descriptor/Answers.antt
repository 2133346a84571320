use Rattle.std.proofs.Common.{◌↔◌, ◌+◌, ◌-◌, ◌≤◌, ℕ, IsTrue, arith, leb}
use Rattle.std.proofs.lemmas.Bool.{false≢true, leb-true, le-leb}
use Rattle.fm_pool_texts.proofs.FactsLemmas.{few_words, no_method}
use Rattle.fm_pool_texts.proofs.facts.TextFacts.is_method_descriptor.Goals as goal

decided : (words receiver : ℕ) → words ≤ 255 → IsTrue (leb receiver (255 - words)) ↔ (words + receiver ≤ 255)
decided words receiver few = (λ t. omega (arith, leb-true _ _ t), λ le. le-leb _ _ (omega (arith, le, few)))

pub returns-then-m-le-MAX_ARGUMENT_WORDS : goal.returns-then-m-le-MAX_ARGUMENT_WORDS
returns-then-m-le-MAX_ARGUMENT_WORDS c = λ text of.
    let few = few_words text c.args.self c.in-Some.m c.args.receiver_words of c.in-Some.is in
    let sum = decided c.in-Some.m.argument_words c.args.receiver_words c.if-m-le-MAX_ARGUMENT_WORDS.true in
    (λ t. few.0 (sum.0 t), λ w. sum.1 (few.1 w))

pub returns-else-m-le-MAX_ARGUMENT_WORDS : goal.returns-else-m-le-MAX_ARGUMENT_WORDS
returns-else-m-le-MAX_ARGUMENT_WORDS c = λ text of.
    let few = few_words text c.args.self c.in-Some.m c.args.receiver_words of c.in-Some.is in
    (λ t. absurd (omega (arith, leb-true _ _ t, c.if-m-le-MAX_ARGUMENT_WORDS.false)), λ w. absurd (let le = few.1 w in omega (arith, le, c.if-m-le-MAX_ARGUMENT_WORDS.false)))

pub returns-in-None : goal.returns-in-None
returns-in-None c = λ text of. (λ t. absurd (false≢true t), λ w. absurd (no_method text c.args.self w.0 of c.in-None.is w.1.0 w.1.1.0))
