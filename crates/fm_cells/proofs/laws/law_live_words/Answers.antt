use Rattle.fm_cells.proofs.Changes.{live_words-made_by}
use Rattle.fm_cells.proofs.StoreLaws.{live_words-freed_by, live_words-put_by, live_words-chained_by}
use Rattle.fm_cells.proofs.laws.law_live_words.Goals as goal

pub returns-clause-made : goal.returns-clause-made
returns-clause-made c = live_words-made_by

pub returns-clause-freed : goal.returns-clause-freed
returns-clause-freed c = live_words-freed_by

pub returns-clause-put : goal.returns-clause-put
returns-clause-put c = λ cell place element store. live_words-put_by store cell place element

pub returns-clause-chained : goal.returns-clause-chained
returns-clause-chained c = λ cell to store. live_words-chained_by store cell to
