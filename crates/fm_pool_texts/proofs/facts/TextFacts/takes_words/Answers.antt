use Rattle.std.proofs.lemmas.Bool.{false≢true, ltb-true}
use Rattle.std.proofs.Common.{◌≡◌, ◌↔◌, ◌+◌, ℕ, eqb, IsTrue, sym, ◌∙◌, arith, eqb-true, eq-eqb}
use Rattle.fm_pool_texts.proofs.FactsLemmas.{these_words, no_method}
use Rattle.fm_pool_texts.proofs.facts.TextFacts.takes_words.Goals as goal

decided : (n words same : ℕ) → same ≡ words → IsTrue (eqb n same) ↔ (n ≡ words)
decided n words same is = (λ t. eqb-true n same t ∙ is, λ e. eq-eqb n same (e ∙ sym is))

pub returns-then-m-lt-MAX_ARGUMENT_WORDS : goal.returns-then-m-lt-MAX_ARGUMENT_WORDS
returns-then-m-lt-MAX_ARGUMENT_WORDS c = λ text of.
    let these = these_words text c.args.self c.in-Some.m c.args.words (omega arith) of c.in-Some.is in
    let equal = decided (c.in-Some.m.argument_words + 1) c.args.words c.from.result c.from.ensures in
    (λ t. these.0 (equal.0 t), λ w. equal.1 (these.1 w))

pub returns-else-m-lt-MAX_ARGUMENT_WORDS : goal.returns-else-m-lt-MAX_ARGUMENT_WORDS
returns-else-m-lt-MAX_ARGUMENT_WORDS c = λ text of.
    let these = these_words text c.args.self c.in-Some.m c.args.words (omega arith) of c.in-Some.is in
    (λ t. absurd (omega (arith, ltb-true _ _ t, c.if-m-lt-MAX_ARGUMENT_WORDS.false)), λ w. absurd (let is = these.1 w in omega (arith, is, c.if-m-lt-MAX_ARGUMENT_WORDS.false)))

pub returns-in-None : goal.returns-in-None
returns-in-None c = λ text of. (λ t. absurd (false≢true t), λ w. absurd (no_method text c.args.self w.0 of c.in-None.is w.1.0 w.1.1.0))
