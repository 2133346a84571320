-- What a call makes of what was asked for so far.
use Rattle.std.specs.Prelude.{◌++◌, take, Some, None}
use Rattle.fm_files.specs.Files.{and_call}
use Rattle.fm_files.specs.History.{Past}
use Rattle.fm_files.specs.Sink.{got_piece}
use Rattle.fm_files.specs.declared.history.Note.{Note}
use Rattle.fm_files.specs.declared.history.Note.TheVariants as note

-- the calls so far, and this one
abbrev pub noted : Past → Note → Past
noted past note.Nothing = past
noted past (note.Read name bytes) = record past { reads = and_call past.reads name.now (Some bytes.now) }
noted past (note.ReadFailed name) = record past { reads = and_call past.reads name.now None }
noted past (note.Written name bytes) = record past { writes = and_call past.writes name.now (Some bytes.now) }
noted past (note.WriteFailed name) = record past { writes = and_call past.writes name.now None }
noted past (note.Put piece) = record past { got = got_piece past.got piece.now }
noted past (note.PutFailed piece taken) = record past { got = record past.got { bytes = past.got.bytes ++ take taken piece.now } }
