use Rattle.fm_cells.specs.Choices.{never_choice, last_choice}
use Rattle.fm_cells.proofs.Choices.{lawful_choice-left, lawful_choice-may, MayReuse-never_choice, MayReuse-last_choice}
use Rattle.fm_cells.proofs.laws.law_lawful.Goals as goal

pub returns-clause-left : goal.returns-clause-left
returns-clause-left c = λ choose store request may. lawful_choice-left store request (choose store request) may

pub returns-clause-given : goal.returns-clause-given
returns-clause-given c = λ choose store request. lawful_choice-may store request (choose store request)

pub returns-clause-never_may : goal.returns-clause-never_may
returns-clause-never_may c = MayReuse-never_choice

pub returns-clause-never_left : goal.returns-clause-never_left
returns-clause-never_left c = λ store request never. lawful_choice-left store request (never_choice store request) (MayReuse-never_choice store request never)

pub returns-clause-last_may : goal.returns-clause-last_may
returns-clause-last_may c = MayReuse-last_choice

pub returns-clause-last_left : goal.returns-clause-last_left
returns-clause-last_left c = λ store request last. lawful_choice-left store request (last_choice store request) (MayReuse-last_choice store request last)
