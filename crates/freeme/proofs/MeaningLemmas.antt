-- A call that is done keeps the meaning of the classes.
use Rattle.std.proofs.Common.{◌≡◌, ◌⊎◌, ◌++◌, inl, inr, ℕ, List, [], length, Option, None, append-nil, append_assoc, refl, sym, ap, ◌∙◌, subst}
use Rattle.std.specs.List.{AllByRecursion}
use Rattle.fm_base.proofs.ListFacts.{AllByRecursion-weaker}
use Rattle.fm_cli_requests.proofs.FreemeRequestLemmas.{asks_one}
use Rattle.fm_cli_requests.specs.AuditRequest.{Audit}
use Rattle.fm_cli_requests.specs.FreemeRequest.{AskOnlyForText, FreemeJob}
use Rattle.fm_code.specs.ClassBytes.{class_bytes}
use Rattle.fm_code.specs.Spells.{HasSpelling}
use Rattle.fm_code.specs.declared.class_file.ClassDef.{ClassDef}
use Rattle.fm_files.specs.Files.{Bytes, Call, Disk}
use Rattle.fm_load.proofs.GivenLemmas.{given_spelled}
use Rattle.fm_load.proofs.ReadLemmas.{same_number}
use Rattle.fm_load.specs.Given.{AreGiven, made_classes}
use Rattle.fm_load.specs.ProgramCalls.{ProgramCall}
use Rattle.fm_load.specs.Reading.{AreRead}
use Rattle.fm_load.specs.Returned.{returned}
use Rattle.fm_load.specs.Taking.{ClassIsSpelled}
use Rattle.freeme.proofs.WrittenLemmas.{names_same}
use Rattle.freeme.specs.Audits.{IsSafe, audited_files}
use Rattle.freeme.specs.Causes.{AskFor, IsForDone, IsForSafe, SaysDone}
use Rattle.freeme.specs.Meaning.{AuditsAlike, HasAuditedAlike, HasKeptMeaning, HasRunsAlike, KeepsMeaning, RunsAlike}
use Rattle.freeme.specs.TopCall.{IsDone}

pub keeps_meaning : (call : ProgramCall) → IsForDone call → KeepsMeaning call
keeps_meaning call done is = by_said (done.only is) where
  by_said : AskFor call.words (SaysDone call) ⊎ AskOnlyForText call.words → HasKeptMeaning call ⊎ AskOnlyForText call.words
  by_said (inr text) = inr text
  by_said (inl (job, (asked, said))) = inl (record {
    job = job;
    asked = asked;
    classes = said.done.freed.classes;
    checked = said.done.freed.checked;
    reads = said.done.reads;
    program = said.done.freed.program;
    analysed = said.done.freed.analysed;
    made = said.done.made;
    rewritten = said.done.freed.rewritten;
    written = said.done.written;
    does = said.done.freed.does;
    all = said.done.freed.all;
  })

-- where no class is made, there is a class for each file
pub one_each : (files : List Bytes) (read classes : List ClassDef) (made : Option ℕ) → made ≡ None → classes ≡ read ++ made_classes made → length read ≡ length files
    → length classes ≡ length files
one_each files read classes made none are same =
    ap length are ∙ ap (λ number. length (read ++ made_classes number)) none ∙ ap length (append-nil read) ∙ same

-- what is done, of class files
done_alike : (job : FreemeJob) (lines : List ℕ) (old new : Disk) → job.made ≡ None → IsDone job lines old new → HasRunsAlike job old new
done_alike job lines old new none done =
    let given = done.freed.classes in
    let source = done.freed.checked.linked.source in
    let does = done.freed.does in
    record {
      given = given;
      one_each = one_each job.files source.read given job.made none source.classes_are (same_number old.contents job.files source.read source.taken.taken);
      spelled = given_spelled source;
      reads = done.reads;
      made = done.made.classes.items;
      names =
          names_same given done.made
          (AllByRecursion-weaker ClassIsSpelled HasSpelling (λ c spells. (class_bytes c, spells)) given (given_spelled source)) done.freed.rewritten;
      spelled_too = done.freed.spelled;
      written = done.written;
      alike = record {
        marks = done.freed.rewritten.marks;
        same = does.same;
        faultless = does.faultless;
        ends = does.ends;
        most_held = does.most_held;
      };
    }

pub runs_alike : (call : ProgramCall) → IsForDone call → RunsAlike call
runs_alike call done job asked none is = by_said (done.only is) where
  by_said : AskFor call.words (SaysDone call) ⊎ AskOnlyForText call.words → HasRunsAlike job call.old call.new
  by_said (inr text) = absurd (text.no_job job asked)
  by_said (inl (own, (own_asked, said))) =
      let P : FreemeJob → Type 0 = λ k. IsDone k said.lines call.old call.new in
      done_alike job said.lines call.old call.new none (subst P (asks_one call.words own job own_asked asked) said.done)

-- ---- audits

-- files that are read are spelled
pub read_spelled : (files : List Bytes) (classes : List ClassDef) (old new : Disk) → AreRead files classes old new → AllByRecursion ClassIsSpelled classes
read_spelled files classes old new read =
    let are : AreGiven (record { files = files; made = None; main = [] }) old.contents classes =
    record { read = classes; taken = read.taken; alone = tt; classes_are = sym (append-nil classes) } in
    given_spelled are

-- what is safe does what the program does
safe_alike : (audit : Audit) (lines : List ℕ) (old new : Disk) → IsSafe audit lines old new → HasAuditedAlike audit old new
safe_alike audit lines old new safe =
    let audited = safe.audited in
    let source = audited.judged.checked.linked.source in
    let names = audited_files audit safe.classes in
    record {
      given = safe.classes;
      one_each = one_each audit.files source.read safe.classes None refl source.classes_are (same_number old.contents audit.files source.read source.taken.taken);
      spelled = given_spelled source;
      written = safe.written;
      spelled_too = read_spelled names safe.written audited.between new audited.read;
      reads =
          audited.read.reads ∙ ap (λ (calls : List Call). calls ++ returned names safe.written) audited.judged.reads
          ∙ append_assoc old.reads (returned audit.files safe.classes) (returned names safe.written);
      marks = safe.safely.marks;
      same = safe.alike.same;
      faultless = safe.alike.faultless;
    }

pub audits_alike : (call : ProgramCall) → IsForSafe call → AuditsAlike call
audits_alike call said audit asked is = let says = said audit asked is in safe_alike audit says.lines call.old call.new says.safe
