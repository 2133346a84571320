use Rattle.std.proofs.lemmas.Bool.{false≢true}
use Rattle.fm_pool_texts.proofs.FactsLemmas.{no_result, no_method}
use Rattle.fm_pool_texts.proofs.facts.TextFacts.returns_nothing.Goals as goal

pub returns-in-Some : goal.returns-in-Some
returns-in-Some c = λ text of. no_result text c.args.self c.in-Some.m of c.in-Some.is

pub returns-in-None : goal.returns-in-None
returns-in-None c = λ text of. (λ t. absurd (false≢true t), λ w. absurd (no_method text c.args.self w.0 of c.in-None.is w.1.0 w.1.1.0))
