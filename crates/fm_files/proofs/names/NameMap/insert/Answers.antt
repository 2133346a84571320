use Rattle.fm_files.proofs.NamesLemmas.{insert-by_bytes}
use Rattle.fm_files.proofs.names.NameMap.insert.Goals as goal

pub returns-clause-ok : goal.returns-clause-ok
returns-clause-ok g c =
    rw (← c.self.view_is, ← c.in_ok-key.ensures.ok) (insert-by_bytes _ c.self.inside.entries c.insert.new.self _ c.in_ok-insert.ensures.updates)
