-- Why a class file isn't read, by why a piece of it isn't.
use Rattle.fm_code.specs.declared.error.PieceFail.{PieceFail}
use Rattle.fm_code.specs.declared.error.PieceFail.TheVariants as piece
use Rattle.fm_read.specs.declared.error.ReadFail.{ReadFail}
use Rattle.fm_read.specs.declared.error.ReadFail.TheVariants as read

abbrev pub read_failure : PieceFail → ReadFail
read_failure piece.Malformed = read.Malformed
read_failure piece.NoMemory = read.NoMemory
