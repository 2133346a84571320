use Rattle.fm_world.specs.Linking.{refused_methods}
use Rattle.fm_world.specs.Programs.{classes_of}
use Rattle.fm_link_refusals.specs.inner.GivenClasses.{given_in}
use Rattle.fm_link_refusals.proofs.wanted_methods.refuse_methods.Goals as goal

pub returns : goal.returns
unfolding refused_methods
returns c = λ linked. c.refuse_methods_in.ensures (classes_of (given_in c.args.files.now)) linked
