-- What a write to the files of the system sets.
use Rattle.std.proofs.Common.{Result, Ok, Err}
use Rattle.fm_files.specs.Files.{Bytes}
use Rattle.fm_files.specs.Folder.{tallies_after_write}
use Rattle.fm_files.specs.Names.{ByName}
use Rattle.fm_files.specs.Tally.{no_tally, tally_of}
use Rattle.fm_files.specs.declared.tally.Tally.{Tally}
use Rattle.fm_files.specs.declared.error.WriteFail.{WriteFail}
use Rattle.fm_files.specs.declared.error.WriteFail.TheVariants as write_fail
use Rattle.fm_files.proofs.NamesLemmas.{IsSetAt, IsSetAt-insert, IsSetAt-none}
use Rattle.fm_files.proofs.TallyLemmas.{tally_after_write}

-- a write sets the numbers of its own name
pub IsSetAt-tallies_after_write : {A : Type 0} (tallies : ByName Tally) (this : Bytes) (answer : Result A WriteFail) → IsSetAt no_tally tallies (tallies_after_write tallies this answer) this (tally_after_write (tally_of tallies this) answer)
IsSetAt-tallies_after_write tallies this (Ok a) = IsSetAt-insert no_tally _ _ _
IsSetAt-tallies_after_write tallies this (Err write_fail.Failed) = IsSetAt-insert no_tally _ _ _
IsSetAt-tallies_after_write tallies this (Err write_fail.NoMemory) = IsSetAt-none no_tally _ _
