-- What was kept so far is what the reader gave, and is within the limit.
use Rattle.std.proofs.Common.{◌≡◌, ◌≤◌, length, vec_len}
use Rattle.std.specs.Io.KnownBytes.{Consumes}
use Rattle.fm_files.proofs.transfer.read_within.Given as goal

abbrev pub invariant-loop : goal.invariant-loop
invariant-loop g l = record {
  within : vec_len l.bytes ≤ l.limit-2;
  piece : length l.piece ≡ 4096;
  read : Consumes (g.R.Read.remaining l.initial.reader) (g.R.Read.remaining l.reader) l.bytes.items;
}
