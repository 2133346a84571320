use Rattle.fm_files.proofs.NamesLemmas.{insert-by_bytes, get-by_bytes}
use Rattle.fm_files.proofs.names.NameMap.replace.Goals as goal
use Rattle.fm_files.proofs.names.NameMap.replace.Goals.{in-Some, in_default}

pub returns : goal.returns
returns g c =
    let there = rw (← c.self.view_is, get-by_bytes) at c.requires in
    elim c.match-get_mut.branch [
      | in-Some w ↦ rw (w.self-inside-is, ← c.self.view_is) (insert-by_bytes _ c.self.inside.entries (c.get_mut.follows.lender c.args.value) _ ((c.get_mut.follows.holds c.args.value).3 there))
      | in_default w ↦ absurd (let lost = rw (← c.get_mut.ensures.value, w.in_default.is) at there in cc)
    ]
