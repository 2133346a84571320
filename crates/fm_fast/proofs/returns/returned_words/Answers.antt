use Rattle.fm_exec.proofs.ObjectSteps.{return-nothing, return-word}
use Rattle.fm_fast.proofs.returns.returned_words.Goals as goal

pub returns-in-None-clause-effect : goal.returns-in-None-clause-effect
returns-in-None-clause-effect c = return-nothing c.args.value c.in-None.is

pub returns-in-Some-clause-effect : goal.returns-in-Some-clause-effect
returns-in-Some-clause-effect c = return-word c.args.value c.in-Some.kind c.words.result c.in-Some.is c.words.ensures.value
