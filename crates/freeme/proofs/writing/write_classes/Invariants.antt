use Rattle.std.proofs.Common.{take}
use Rattle.freeme.specs.Writing.{AllWritten}
use Rattle.freeme.specs.inner.Writing.{KeepsReads}
use Rattle.freeme.proofs.writing.write_classes.Given as goal

abbrev pub invariant-loop-class : goal.invariant-loop-class
invariant-loop-class g l = record {
  keeps : KeepsReads (g.F.Files.disk l.fn.files) (g.F.Files.disk l.files);
  written : AllWritten l.folder (take l.class-index l.classes) (g.F.Files.disk l.fn.files) (g.F.Files.disk l.files);
}
