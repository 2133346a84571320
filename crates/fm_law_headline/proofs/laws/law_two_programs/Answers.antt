use Rattle.fm_law_headline.proofs.TwoPrograms.{matched_ends, same_ends}
use Rattle.fm_law_headline.proofs.laws.law_two_programs.Goals as goal

pub returns : goal.returns
returns c =
    let resolved = c.law_resolved.ensures in
    let alike = c.law_two_memories.ensures.limited in
    let faultless = c.law_linked_no_fault.ensures in
    record { same = same_ends resolved alike faultless; matched = matched_ends resolved alike faultless }
