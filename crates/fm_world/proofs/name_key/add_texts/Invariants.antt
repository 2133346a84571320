use Rattle.std.proofs.Common.{◌++◌, ℕ, List, take}
use Rattle.std.specs.List.{flat_map}
use Rattle.sha2.specs.Hashers.{Holds256}
use Rattle.fm_world.specs.inner.NameKeys.{framed_text}
use Rattle.fm_world.proofs.name_key.add_texts.Given as goal

-- the digest has taken the texts so far
abbrev pub invariant-loop-entry : goal.invariant-loop-entry
invariant-loop-entry l =
    (m : List ℕ) → Holds256 l.initial.digest m → Holds256 l.digest (m ++ flat_map framed_text (take l.entry-index l.entries))
