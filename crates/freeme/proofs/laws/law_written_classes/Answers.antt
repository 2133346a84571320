use Rattle.freeme.proofs.laws.law_written_classes.Goals as goal

pub returns-clause-links : goal.returns-clause-links
returns-clause-links c = c.law_links.ensures.safe

pub returns-clause-typed : goal.returns-clause-typed
returns-clause-typed c = c.law_typed.ensures

pub returns-clause-files : goal.returns-clause-files
returns-clause-files c = c.law_written.ensures

pub returns-clause-chains_link : goal.returns-clause-chains_link
returns-clause-chains_link c = c.law_links.ensures.chains

pub returns-clause-chains_typed : goal.returns-clause-chains_typed
returns-clause-chains_typed c = c.law_chained_typed.ensures

pub returns-clause-accepted : goal.returns-clause-accepted
returns-clause-accepted c = c.law_lengths.ensures

pub returns-clause-taken : goal.returns-clause-taken
returns-clause-taken c = c.law_taken.ensures.files

pub returns-clause-same : goal.returns-clause-same
returns-clause-same c = c.law_headline.ensures

pub returns-clause-narrow : goal.returns-clause-narrow
returns-clause-narrow c = c.law_rapid.ensures

pub returns-clause-chains_same : goal.returns-clause-chains_same
returns-clause-chains_same c = c.law_chains.ensures.same

pub returns-clause-chains_all : goal.returns-clause-chains_all
returns-clause-chains_all c = c.law_chains.ensures.all
