-- The standard streams, and what each call leaves there, by its result.
use Rattle.std.specs.Prelude.{ℕ, ◌+◌, ◌++◌, take, List, Bool, Result, Ok, Err}
use Rattle.fm_files.specs.Sink.{Got, got_piece}
use Rattle.fm_files.specs.declared.error.PutFail.{PutFail}
use Rattle.fm_files.specs.declared.error.PutFail.TheVariants as put_fail

-- one of the streams: whether it is standard error, how many puts failed, and what was handed to it: the
-- pieces whose put was done, and the bytes that the stream took
pub record StdSinkState : Type 0 where
  pub is_error : Bool
  pub faults : ℕ
  pub got : Got

-- what a put of a piece leaves, by its result; where it fails the stream took this many of the bytes
abbrev pub after_std_put : {A : Type 0} → StdSinkState → List ℕ → ℕ → Result A PutFail → StdSinkState
after_std_put sink piece taken (Ok _) = record sink { got = got_piece sink.got piece }
after_std_put sink piece taken (Err put_fail.SinkFailed) =
    record sink { faults = sink.faults + 1; got = record sink.got { bytes = sink.got.bytes ++ take taken piece } }
after_std_put sink piece taken (Err put_fail.NoMemory) = sink
