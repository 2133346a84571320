use Rattle.std.proofs.Common.{map}
use Rattle.fm_load.proofs.ReadLemmas.{ReadSoFar}
use Rattle.fm_load.proofs.reading.read_classes.Given as goal

abbrev pub invariant-loop-name : goal.invariant-loop-name
invariant-loop-name g l =
    ReadSoFar (map (λ n. n.now) l.names) l.name-index l.classes.items l.total (g.F.Files.disk l.fn.files) (g.F.Files.disk l.files)
