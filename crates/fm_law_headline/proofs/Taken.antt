-- Class files that were judged are taken.
use Rattle.fm_base.proofs.ListFacts.{AllByRecursion-weaker}
use Rattle.fm_code.specs.Profile.{IsSupported, Profile}
use Rattle.fm_load.proofs.GivenLemmas.{given_accepted, given_few, given_spelled}
use Rattle.fm_load.proofs.TakenLemmas.{have_spellings}
use Rattle.fm_law_headline.proofs.FreeMeNamed.{calls_none}
use Rattle.fm_law_headline.specs.Taken.{CheckedAreTaken, FirstCallIsFound}
use Rattle.fm_law_linked.specs.Laws.{ProgramsAreLinkedWell}

pub first_call_found : ProgramsAreLinkedWell → FirstCallIsFound
first_call_found well given main spelled linked none = calls_none given main spelled (well given main spelled linked) none

pub checked_taken : ProgramsAreLinkedWell → CheckedAreTaken
checked_taken well given contents classes checked none =
    let source = checked.linked.source in
    let spelled = have_spellings classes (given_spelled source) in
    record {
      spelled = spelled;
      supported = AllByRecursion-weaker Profile IsSupported (λ c profile. profile.supported) classes (given_accepted source);
      linked = checked.linked.linked;
      few = given_few source;
      no_free = first_call_found well classes given.main spelled checked.linked.linked none;
    }
