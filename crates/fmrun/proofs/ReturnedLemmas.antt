-- What the reads of a call returned decides its status as known contents do that hold it.
use Rattle.std.proofs.Common.{◌≡◌, ◌≤◌, ◌⊎◌, ℕ, inl, inr, List, [], ◌∷◌, ◌++◌, length, Contains, Option, Some, None, Ok, Err, append_assoc, refl, sym, ap, ◌∙◌, subst, arith}
use Rattle.fm_base.proofs.OptionFacts.{Some-from_some_and}
use Rattle.fm_base.specs.declared.limits.TheConstants.{MAX_ARGUMENTS}
use Rattle.fm_code.specs.declared.class_file.ClassDef.{ClassDef}
use Rattle.fm_files.specs.Files.{Bytes, Call, Disk}
use Rattle.fm_files.specs.Sink.{Output}
use Rattle.fm_cli.proofs.LineLemmas.{instead_for_words}
use Rattle.fm_cli.specs.Encoding.{modified}
use Rattle.fm_cli.specs.declared.command_refusal.CommandRefusal.TheVariants as refusal
use Rattle.fm_cli.specs.declared.status.TheConstants.{LINK, CHECK, WRITE, OUT_OF_MEMORY}
use Rattle.fm_cli_requests.proofs.FmrunRequestLemmas.{asks_one}
use Rattle.fm_cli_requests.specs.FmrunRequest.{FmrunJob}
use Rattle.fm_link_refusals.specs.Refused.{refusal_of}
use Rattle.fm_load.proofs.GivenLemmas.{Behind, behind_once, given_passes}
use Rattle.fm_load.proofs.KnownLemmas.{bytes_stop, long_stops, not_empty, not_typed}
use Rattle.fm_load.proofs.ReturnedLemmas.{IsSeen, last_held, not_unread, returned_seen}
use Rattle.fm_load.proofs.VerdictLemmas.{Ends, EndsOnce, Links, Verdict, links_once, one_verdict}
use Rattle.fm_load.specs.Given.{AreGiven, AreNotLinked, given_program}
use Rattle.fm_load.specs.ProgramCalls.{ProgramCall}
use Rattle.fm_load.specs.Returned.{ReadsFirst, ReadsFrom, returned, with_contents}
use Rattle.fm_load.specs.declared.refusal.JobRefusal.TheVariants as job_refusal
use Rattle.fm_run_job.specs.Reading.{IsInputOf, and_input}
use Rattle.fm_world.specs.Linking.{refusals}
use Rattle.fmrun.proofs.JobLemmas.{files_first}
use Rattle.fmrun.proofs.ReportedLemmas.{reported_of_words}
use Rattle.fmrun.proofs.Verdicts.{EndsAs, ends_once}
use Rattle.fmrun.specs.Causes.{IsForReturned, IsKnownStatus}
use Rattle.fmrun.specs.Jobs.{given_of, job_arguments}
use Rattle.fmrun.specs.TopCall.{ComesOf, ComesTo, IsReported, Outcome, ReadsJob, outcome_status}
use Rattle.fmrun.specs.declared.outcome.JobFail.TheVariants as fail

module _ (job : FmrunJob) (old new : Disk) (held : Bytes → Option Bytes) (from : ReadsFrom held old new) where
  -- the outcome of classes that are given: they don't link, or a method isn't typed, or their run ends
  abbrev Last : Ends
  Last = Links (EndsAs held job) (modified job.main)

  -- the status of the files of the job
  abbrev JobEnds : ℕ → Type 0
  JobEnds status = Verdict (Behind job.made Last) held job.files status

  seen : IsSeen (given_of job) held old new
  seen = returned_seen held old new from (given_of job)

  -- the input is what its read returned
  input_seen : (classes : List ClassDef) (input : Bytes) → IsInputOf job.input old.contents input → ReadsJob job classes input old new → IsInputOf job.input (Some held) input
  input_seen classes input = go job.input where
    go : (named : Option Bytes) → IsInputOf named old.contents input → new.reads ≡ and_input (old.reads ++ returned job.files classes) named input → IsInputOf named (Some held) input
    go None is reads = is
    go (Some file) is reads =
        let call : Call = record { name = file; bytes = Some input } in
        (is.0, last_held held old new from (returned job.files classes) call (reads ∙ append_assoc old.reads (returned job.files classes) (call ∷ [])))

  -- no read failed
  none_failed : (file : Bytes) (first : List Call) → ¬ (new.reads ≡ old.reads ++ (first ++ record { name = file; bytes = None } ∷ []))
  none_failed file first is = last_held held old new from first (record { name = file; bytes = None }) is

  -- classes that are given, with their outcome
  given_ends : (classes : List ClassDef) → AreGiven (given_of job) old.contents classes → ReadsFirst job.files classes old new → (status : ℕ) → Last classes status → JobEnds status
  given_ends classes are reads status last = inr (inr (given_passes Last held refl (seen.given classes are reads) status last))

  -- the status of each cause over contents that hold what was returned
  known_ends : (status : ℕ) → IsKnownStatus status (with_contents held old) job → JobEnds status
  known_ends status (inl (inl (is, cause))) =
      subst JobEnds (sym is) (inr (inl (long_stops job.files (Some held) held refl cause.file cause.before cause.reaches cause.long)))
  known_ends status (inl (inr (inl cause))) =
      inr (inl (bytes_stop job.files (Some held) held refl status cause.file cause.before cause.refusal cause.status_is cause.reaches cause.refused))
  known_ends status (inl (inr (inr (inl (is, cause))))) = subst JobEnds (sym is) (inr (inr (given_passes Last held refl cause.source LINK (inl (cause.refused, refl)))))
  known_ends status (inl (inr (inr (inr (is, cause))))) =
      subst JobEnds (sym is) (inr (inr (given_passes Last held refl cause.linked.source CHECK (inr (cause.linked.linked, inl (cause.untyped, refl))))))
  known_ends status (inr cause) =
      let checked = cause.ready.checked in
      inr (inr (given_passes Last held refl checked.linked.source status (inr (
        checked.linked.linked,
        inr (
          checked.typed,
          record {
            input = cause.input;
            input_is = cause.ready.input_is;
            last = cause.last;
            printed = cause.printed;
            run = cause.run;
            status_is = cause.status_is;
          },
        ),
      ))))

  module _ (before after : Output) (few : length (job_arguments job) ≤ MAX_ARGUMENTS) where
    -- the status of an outcome, unless it is for a fault or for memory
    abbrev Comes : ℕ → Type 0
    Comes status = JobEnds status ⊎ ((status ≡ WRITE) ⊎ (status ≡ OUT_OF_MEMORY))

    end_of : (o : Outcome) → ComesTo job old new before after o → Comes (outcome_status o)
    end_of (Ok reported) comes =
        let checked = comes.ready.checked in
        inl (given_ends comes.classes checked.linked.source (files_first job comes.classes comes.input old new comes.reads) reported.status (inr (
          checked.linked.linked,
          inr (
            checked.typed,
            record {
              input = comes.input;
              input_is = input_seen comes.classes comes.input comes.ready.input_is comes.reads;
              last = comes.last;
              printed = comes.runs.printed;
              run = comes.runs.run;
              status_is = comes.status_is;
            },
          ),
        )))
    end_of (Err fail.Output) comes = inr (inl refl)
    end_of (Err (fail.Refused (job_refusal.Shared refusal.Words))) comes = absurd comes.0.1
    end_of (Err (fail.Refused (job_refusal.Shared (refusal.Read file)))) ((_, inl unread), same) = absurd (not_unread held old new from job.files file.now unread)
    end_of (Err (fail.Refused (job_refusal.Shared (refusal.Read file)))) ((_, inr unread), same) =
        absurd (none_failed file.now (returned job.files unread.classes) unread.last)
    end_of (Err (fail.Refused (job_refusal.Shared refusal.OutOfMemory))) comes = inr (inr refl)
    end_of (Err (fail.Refused (job_refusal.TooManyFiles count))) comes = let count = comes.0.count_is in let many = comes.0.many in inl (inl (omega arith, refl))
    end_of (Err (fail.Refused (job_refusal.TooManyArguments count))) comes = absurd (let count = comes.0.count_is in let many = comes.0.many in omega arith)
    end_of (Err (fail.Refused (job_refusal.TooLong file))) ((_, inl long), same) = inl (inr (inl (seen.long file.now long)))
    end_of (Err (fail.Refused (job_refusal.TooLong file))) ((_, inr long), same) = absurd (none_failed file.now (returned job.files long.classes) long.last)
    end_of (Err (fail.Refused (job_refusal.Class file r))) comes = inl (inr (inl (seen.refused file.now r comes.0.1)))
    end_of (Err (fail.Refused (job_refusal.Link link))) comes =
        let found = Some-from_some_and (refusal_of link) (AreNotLinked (given_of job) old new) comes.0.1.1.refused in
        let bad = found.2 in
        inl (given_ends bad.classes bad.source bad.reads LINK (inl (not_empty (refusals bad.classes (modified job.main)) found.0 bad.first, refl)))
    end_of (Err (fail.Refused (job_refusal.Check name))) comes =
        let bad = comes.0.1.1 in
        inl (given_ends bad.classes bad.linked.source bad.reads CHECK
        (inr (bad.linked.linked, inl (not_typed (given_program (given_of job) bad.classes) name bad.untyped, refl))))
    end_of (Err (fail.Refused (job_refusal.Write name))) comes = absurd comes.0.1

    -- files of this status have it, unless a put failed or memory was lacking
    ends_so : (status : ℕ) (o : Outcome) → JobEnds status → ComesTo job old new before after o → Contains (status ∷ instead_for_words) (outcome_status o)
    ends_so status o verdict comes = go (end_of o comes) where
      once : EndsOnce (Behind job.made Last)
      once = behind_once job.made Last (links_once (EndsAs held job) (modified job.main) (ends_once held job))

      go : Comes (outcome_status o) → Contains (status ∷ instead_for_words) (outcome_status o)
      go (inl own) = (0, omega arith, one_verdict (Behind job.made Last) once held job.files status (outcome_status o) verdict own)
      go (inr (inl e)) = (1, omega arith, sym e)
      go (inr (inr e)) = (2, omega arith, sym e)

pub is_for_returned : (call : ProgramCall) (o : Outcome) → ComesOf call.words call.old call.new call.before call.after o → IsReported o call.report call.reported call.status → IsForReturned call
is_for_returned call o comes reports held status from (job, (asked, (few, cause))) =
    reported_of_words call.report call.reported call.status o reports status (go comes) where
      go : ComesOf call.words call.old call.new call.before call.after o → Contains (status ∷ instead_for_words) (outcome_status o)
      go (inl j) =
          let P : FmrunJob → Type 0 = λ k. ComesTo k call.old call.new call.before call.after o in
          ends_so job call.old call.new held from call.before call.after few status o (known_ends job call.old call.new held from status cause) (subst P (asks_one call.words j.job job j.asked asked) j.comes)
      go (inr (inl nothing)) = absurd (nothing.unasked job asked)
      go (inr (inr lacking)) = (2, omega arith, sym (ap outcome_status lacking.refused))
