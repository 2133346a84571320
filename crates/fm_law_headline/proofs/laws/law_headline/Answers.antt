use Rattle.fm_law_headline.proofs.Parts.{the_same}
use Rattle.fm_law_headline.proofs.laws.law_headline.Goals as goal

pub returns : goal.returns
returns c =
    the_same c.law_links.ensures.safe c.law_can_run.ensures c.law_most_held.ensures c.law_two_programs.ensures.same c.law_cleared.ensures.full
    c.law_alike.ensures c.law_cells_renamed.ensures c.law_objects_renamed.ensures
