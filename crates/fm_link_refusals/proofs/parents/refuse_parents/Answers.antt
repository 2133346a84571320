use Rattle.fm_world.specs.Linking.{refused_parents}
use Rattle.fm_world.specs.Programs.{classes_of}
use Rattle.fm_link_refusals.specs.inner.GivenClasses.{given_in}
use Rattle.fm_link_refusals.proofs.parents.refuse_parents.Goals as goal

pub returns : goal.returns
unfolding refused_parents
returns c = λ texts are ancestors numbers by_text.
    c.refuse_parents_by.ensures (classes_of (given_in c.args.files.now)) texts
    (record { ancestors = ancestors; numbers = numbers; by_text = by_text }) are
