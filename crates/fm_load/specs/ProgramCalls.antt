-- One call of a program, and what it says where its words or its class files are refused.
use Rattle.std.specs.Prelude.{◌≡◌, ℕ, List, length, Some}
use Rattle.fm_files.specs.Files.{Bytes, Disk}
use Rattle.fm_files.specs.Sink.{Output, with_piece}
use Rattle.fm_cli.specs.CommandRefusal.{read_line, words_line}
use Rattle.fm_cli.specs.Line.{Tells}
use Rattle.fm_cli.specs.declared.status.TheConstants.{DONE}
use Rattle.fm_world.specs.Causes.{Refusal}
use Rattle.fm_load.specs.ClassRefusal.{class_refusal_line, class_refusal_status}
use Rattle.fm_load.specs.Given.{AreMany, Given, IsLong, IsNotLinked, IsNotTyped, IsRefusedFile, IsUnread}
use Rattle.fm_load.specs.LinkRefusal.{link_line}
use Rattle.fm_load.specs.Refusal.{check_line, long_line, many_line}
use Rattle.fm_load.specs.declared.class_refusal.ClassRefusal.{ClassRefusal}

-- one call of a program: its words; the files, the output and the report, each before the call and after it; and the status that is returned
pub record ProgramCall : Type 0 where
  pub words : List Bytes
  pub old : Disk
  pub new : Disk
  pub before : Output
  pub after : Output
  pub report : Output
  pub reported : Output
  pub status : ℕ

-- the call with these words, files, sinks and status
abbrev pub call_of : List Bytes → Disk → Disk → Output → Output → Output → Output → ℕ → ProgramCall
call_of words old new before after report reported status = record {
  words = words;
  old = old;
  new = new;
  before = before;
  after = after;
  report = report;
  reported = reported;
  status = status;
}

-- the text is put into the output as one piece, or the put fails, or memory for it can't be had; the files and the report are as they were
pub record PutsText (text : List ℕ) (call : ProgramCall) : Type 0 where
  pub kept : call.new ≡ call.old
  pub unreported : call.reported ≡ call.report
  pub reports : Tells text DONE call.before call.after call.status

-- the output is as it was, and the line of a refusal is the one piece that the report got
pub record IsRefusedBy (line : List ℕ) (call : ProgramCall) : Type 0 where
  pub silent : call.after ≡ call.before
  pub reported : call.reported ≡ with_piece line call.report

-- ---- what is said of words and of class files

-- the words are refused, and the files are as they were
pub record SaysWords (call : ProgramCall) : Type 0 where
  pub kept : call.new ≡ call.old
  pub refused : IsRefusedBy words_line call

-- the read of a file failed, those before it are taken, nothing else failed, and no contents changed
pub record SaysRead (call : ProgramCall) (given : Given) : Type 0 where
  pub file : Bytes
  pub unread : IsUnread given.files file call.old call.new
  pub refused : IsRefusedBy (read_line file) call

-- a file is refused by its bytes with this status, where contents are known, those before it are taken, nothing failed, and no contents changed
pub record SaysRefused (status : ℕ) (call : ProgramCall) (given : Given) : Type 0 where
  pub file : Bytes
  pub refusal : ClassRefusal
  pub status_is : class_refusal_status refusal ≡ status
  pub unaccepted : IsRefusedFile given.files file refusal call.old call.new
  pub refused : IsRefusedBy (class_refusal_line file refusal) call

-- there are too many files, and they are as they were
pub record SaysMany (call : ProgramCall) (given : Given) : Type 0 where
  pub many : AreMany given.files (length given.files) call.old call.new
  pub refused : IsRefusedBy (many_line (length given.files)) call

-- a file is too long, or those up to it are, where contents are known; enough bytes were read to show it; those before it are taken, nothing
-- failed, and no contents changed
pub record SaysLong (call : ProgramCall) (given : Given) : Type 0 where
  pub file : Bytes
  pub long : IsLong given.files file call.old call.new
  pub refused : IsRefusedBy (long_line file) call

-- all files are taken, their classes make no program, nothing failed, and no contents changed; the line names the first cause
pub record SaysLink (call : ProgramCall) (given : Given) : Type 0 where
  pub cause : Refusal
  pub unlinked : IsNotLinked given (Some cause) call.old call.new
  pub refused : IsRefusedBy (link_line cause) call

-- all files are taken, their classes make a program, a method of it isn't typed, nothing failed, and no contents changed; the line names the
-- first such method
pub record SaysCheck (call : ProgramCall) (given : Given) : Type 0 where
  pub name : Bytes
  pub untyped : IsNotTyped given name call.old call.new
  pub refused : IsRefusedBy (check_line name) call
