use Rattle.fm_files.proofs.NamesLemmas.{remove-by_bytes}
use Rattle.fm_files.proofs.names.NameMap.remove.Goals as goal

pub returns : goal.returns
returns g c = rw (← c.self.view_is) (remove-by_bytes _ c.self.inside.entries c.remove.new.self c.remove.ensures.updates)
