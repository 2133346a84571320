use Rattle.fm_link_supers.proofs.OnceEach.{lists_once}
use Rattle.fm_link_supers.proofs.interfaces.Superinterfaces.of.Goals as goal

pub returns : goal.returns
returns c = λ classes same.
    c.in_ok-found.ensures classes (lists_once classes c.args.listed.now c.in_ok-once.once.items c.as_slice.result.now c.as_slice.ensures.value c.in_ok-once.ensures same)
