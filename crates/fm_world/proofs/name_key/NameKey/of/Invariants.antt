use Rattle.std.proofs.Common.{take}
use Rattle.sha2.specs.Hashers.{Holds256}
use Rattle.fm_world.specs.inner.NameKeys.{framed_texts}
use Rattle.fm_world.proofs.name_key.NameKey.of.Given as goal

-- the digest has taken the texts of the class files so far
abbrev pub invariant-loop-class : goal.invariant-loop-class
invariant-loop-class l = Holds256 l.digest (framed_texts (take l.class-index l.given))
