-- Files and sinks in memory, and what each call leaves there, by its result.
use Rattle.std.specs.Prelude.{◌≡◌, ◌≢◌, ◌<◌, ◌≤◌, ◌↔◌, ◌⊎◌, ℕ, ◌+◌, List, length, Result, Ok, Err, IfOk, IsErrOf, None, Some, IsSomeAnd, Vec, vec_len}
use Rattle.std.specs.FinMap.{get, insert}
use Rattle.fm_files.specs.Attempts.{Attempts, IsToFail, after_attempt}
use Rattle.fm_files.specs.Calls.{with_read}
use Rattle.fm_files.specs.Files.{Bytes, and_call}
use Rattle.fm_files.specs.History.{Past}
use Rattle.fm_files.specs.Names.{ByName}
use Rattle.fm_files.specs.Sink.{Got, got_piece}
use Rattle.fm_files.specs.Tally.{tally_of, tallies_after_read, tally_after_failed_write}
use Rattle.fm_files.specs.declared.tally.Tally.{Tally}
use Rattle.fm_files.specs.declared.error.FileFail.{FileFail}
use Rattle.fm_files.specs.declared.error.WriteFail.{WriteFail}
use Rattle.fm_files.specs.declared.error.PutFail.{PutFail}
use Rattle.fm_files.specs.declared.error.FileFail.TheVariants as file_fail
use Rattle.fm_files.specs.declared.error.WriteFail.TheVariants as write_fail
use Rattle.fm_files.specs.declared.error.PutFail.TheVariants as put_fail

-- files in memory: what each name holds, the numbers of each name, and the reads and writes
pub record MemFilesState : Type 0 where
  pub held : ByName Bytes
  pub tallies : ByName Tally
  pub attempts : Attempts
  pub past : Past

-- what a read of at most `limit` bytes returns, where memory for it can be had
pub record AnswersRead {Y : Type 0} (files : MemFilesState) (name : Bytes) (limit : ℕ) (answer : Result (Vec ℕ Y) FileFail) : Type 0 where
  -- the bytes are what the name holds
  pub held : IfOk answer (λ bytes. get files.held name ≡ Some bytes.items)
  pub within_limit : IfOk answer (λ bytes. vec_len bytes ≤ limit)
  -- the name holds more
  pub too_long : IsErrOf answer file_fail.TooLong → IsSomeAnd (get files.held name) (λ bytes. limit < length bytes)
  -- the read is to fail, or the name isn't there
  pub fails : answer ≢ Err file_fail.NoMemory → (IsErrOf answer file_fail.Failed ↔ (IsToFail files.attempts ⊎ (get files.held name ≡ None)))

-- what a read leaves, by its result: it is counted, and so is what it saw. One that is out of memory leaves
-- all as it was
abbrev pub after_read : {Y : Type 0} → MemFilesState → Bytes → ℕ → Result (Vec ℕ Y) FileFail → MemFilesState
after_read files name limit (Err file_fail.NoMemory) = files
after_read files name limit answer =
    record files {
      tallies = tallies_after_read files.tallies name limit answer;
      attempts = after_attempt files.attempts;
      past = record files.past { reads = with_read files.past.reads name answer };
    }

-- what a write leaves, by its result: where it fails the name holds what it held, and all is as it was where
-- memory ran out
abbrev pub after_write : {A : Type 0} → MemFilesState → Bytes → Bytes → Result A WriteFail → MemFilesState
after_write files name bytes (Ok _) =
    record files {
      held = insert files.held name bytes;
      attempts = after_attempt files.attempts;
      past = record files.past { writes = and_call files.past.writes name (Some bytes) };
    }
after_write files name bytes (Err write_fail.Failed) =
    record files {
      tallies = insert files.tallies name (tally_after_failed_write (tally_of files.tallies name));
      attempts = after_attempt files.attempts;
      past = record files.past { writes = and_call files.past.writes name None };
    }
after_write files name bytes (Err write_fail.NoMemory) = files

-- a sink in memory: what it got, how many puts failed, and the puts
pub record MemSinkState : Type 0 where
  pub got : Got
  pub faults : ℕ
  pub attempts : Attempts

-- what a put of a piece leaves, by its result: where it fails nothing of the piece came in, and all is as it
-- was where memory ran out
abbrev pub after_put : {A : Type 0} → MemSinkState → List ℕ → Result A PutFail → MemSinkState
after_put sink piece (Ok _) =
    record sink { got = got_piece sink.got piece; attempts = after_attempt sink.attempts }
after_put sink piece (Err put_fail.SinkFailed) = record sink { faults = sink.faults + 1; attempts = after_attempt sink.attempts }
after_put sink piece (Err put_fail.NoMemory) = sink
