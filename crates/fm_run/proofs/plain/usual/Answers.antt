use Rattle.fm_run.proofs.plain.usual.Goals as goal

pub returns : goal.returns
returns g c = c.in_ok-frequent.ensures.did (c.in_ok-frequent.ensures.all c.requires.group)
