use Rattle.std.proofs.Common.{take}
use Rattle.fm_link_names.proofs.FileLemmas.{AreFilesSoFar}
use Rattle.fm_link_names.proofs.given.given_files.Given as goal

abbrev pub invariant-loop-class : goal.invariant-loop-class
invariant-loop-class l = AreFilesSoFar l.initial.texts l.texts (take l.class-index l.given) l.files.items
