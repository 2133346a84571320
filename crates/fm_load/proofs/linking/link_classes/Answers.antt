use Rattle.fm_load.proofs.TakenLemmas.{have_spellings}
use Rattle.fm_load.proofs.linking.link_classes.Goals as goal

pub link-requires : goal.link-requires
link-requires c = have_spellings c.args.classes.now c.requires
