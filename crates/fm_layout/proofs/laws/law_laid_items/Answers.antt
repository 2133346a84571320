use Rattle.fm_layout.proofs.MarksLemmas.{marks_one_each, marks_in_order}
use Rattle.fm_layout.proofs.StandsLemmas.{laid_stands}
use Rattle.fm_layout.proofs.laws.law_laid_items.Goals as goal

pub returns : goal.returns
returns c = record { stands = laid_stands; one_each = marks_one_each; in_order = marks_in_order }
