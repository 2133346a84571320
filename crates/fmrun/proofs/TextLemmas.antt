-- What each clause says of a call for a text.
use Rattle.std.proofs.Common.{◌≡◌, ◌≢◌, ◌<◌, ◌≤◌, ◌⊎◌, ℕ, inl, inr, List, length, Contains, refl, sym, ap, ◌∙◌, subst, arith}
use Rattle.fm_files.specs.Files.{Bytes, Disk}
use Rattle.fm_files.proofs.SinkLemmas.{at_most_one}
use Rattle.fm_files.specs.Sink.{Output}
use Rattle.fm_cli.proofs.LineLemmas.{line_once, put_fails}
use Rattle.fm_cli.proofs.OutsideLemmas.{no_fault_where_same}
use Rattle.fm_cli.specs.Line.{Tells}
use Rattle.fm_cli.specs.Status.{ComesExactly}
use Rattle.fm_cli.specs.declared.status.TheConstants.{DONE, WORDS, READ, LIMIT, LINK, CHECK, WRITE, OUT_OF_MEMORY}
use Rattle.fm_cli_requests.proofs.FmrunRequestLemmas.{text_no_job}
use Rattle.fm_cli_requests.proofs.ProgramTextLemmas.{one_text}
use Rattle.fm_cli_requests.specs.FmrunRequest.{FmrunJob, AskNoJob, AskOnlyForText}
use Rattle.fm_cli_requests.specs.ProgramText.{AskForText}
use Rattle.fm_cli_requests.specs.declared.program_text.ProgramText.{ProgramText}
use Rattle.fm_cli_requests.specs.declared.program_text.ProgramText.TheVariants as text
use Rattle.fm_frames.specs.declared.ends.Ended.TheVariants as end
use Rattle.fm_load.specs.Causes.{FailsARead}
use Rattle.fm_load.specs.ProgramCalls.{ProgramCall, PutsText, call_of}
use Rattle.fm_run_job.specs.declared.status.TheConstants.{FAULT}
use Rattle.fmrun.proofs.EndStatuses.{among_before_run}
use Rattle.fmrun.specs.Causes.{AskFor, IsFaultless, IsForBytes, IsForCheck, IsForFault, IsForLimit, IsForLink, IsForMemory, IsForRead, IsForReturned, IsForRun, IsForText, IsForWords, IsForWrite, IsSilent, IsStatus, MissesFile, OnlyReads, PutsPieces, ReportsMostHeld, refusal_statuses}
use Rattle.fmrun.specs.TopCall.{IsTopCall, text_bytes}

module _ (words : List Bytes) (files : Disk) (before after report : Output) (result : ℕ) (asked : ProgramText) (asks : AskForText words asked) (reports : Tells (text_bytes asked) DONE before after result) where
  abbrev call : ProgramCall
  call = call_of words files files before after report report result

  put : PutsText (text_bytes asked) call
  put = record { kept = refl; unreported = refl; reports = reports }

  no_job : AskNoJob words
  no_job = text_no_job words asked asks

  only_text : AskOnlyForText words
  only_text = record { asked = asked; asks = asks; no_job = no_job }

  none_for : {P : FmrunJob → Type 0} → ¬ AskFor words P
  none_for (job, (has, holds)) = no_job job has

  -- the status is that of what is done, of a write or of memory
  apart : (status : ℕ) → DONE ≢ status → WRITE ≢ status → OUT_OF_MEMORY ≢ status → result ≢ status
  apart status done write memory is = go reports where
    go : Tells (text_bytes asked) DONE before after result → ⊥
    go (inl own) = done (sym own.0 ∙ is)
    go (inr (inl failed)) = write (sym failed.0 ∙ is)
    go (inr (inr lacking)) = memory (sym lacking.0 ∙ is)

  never : {Said Cause : Type 0} {instead : List ℕ} (status : ℕ) → DONE ≢ status → WRITE ≢ status → OUT_OF_MEMORY ≢ status → ¬ Cause
      → ComesExactly status instead result Said Cause
  never status done write memory none = record { only = λ is. absurd (apart status done write memory is); there = λ cause. absurd (none cause) }

  pub text_whole : IsTopCall call
  text_whole = inl (record { asked = asked; asks = asks; put = put })

  pub text_status : IsStatus result
  text_status = go reports where
    refused : {status : ℕ} → Contains refusal_statuses status → result ≡ status → IsStatus result
    refused among is = let P : ℕ → Type 0 = Contains refusal_statuses in inl (subst P (sym is) among)

    go : Tells (text_bytes asked) DONE before after result → IsStatus result
    go (inl own) = inr (end.Returned, own.0)
    go (inr (inl failed)) = refused (8, omega arith, refl) failed.0
    go (inr (inr lacking)) = refused (9, omega arith, refl) lacking.0

  pub text_run : IsForRun call
  text_run = record { only = λ none. inr only_text; ready = λ cause. absurd (none_for cause); ends = λ status cause. absurd (none_for cause) }

  pub text_text : IsForText call
  text_text other also =
      let P : ProgramText → Type 0 = λ t. PutsText (text_bytes t) call in subst P (one_text words asked other asks also) put

  pub text_words : IsForWords call
  text_words = never WORDS (λ e. omega arith) (λ e. omega arith) (λ e. omega arith) (λ nothing. nothing.no_text asked asks)

  pub text_read : IsForRead call
  text_read = never READ (λ e. omega arith) (λ e. omega arith) (λ e. omega arith) none where
    no_read : ¬ FailsARead files files
    no_read (name, rose) = omega arith

    none : ¬ MissesFile words files files
    none (inl fault) = no_read fault
    none (inr missing) = none_for missing

  pub text_of_bytes : (status : ℕ) → 66 ≤ status → status ≤ 69 → IsForBytes status call
  text_of_bytes status low high = never status (λ e. omega arith) (λ e. omega arith) (λ e. omega arith) none_for

  pub text_limit : IsForLimit call
  text_limit = record {
    only = λ is. absurd (apart LIMIT (λ e. omega arith) (λ e. omega arith) (λ e. omega arith) is);
    many = λ cause. absurd (none_for cause);
    long = λ cause. absurd (none_for cause);
    bytes = λ cause. absurd (none_for cause);
  }

  pub text_link : IsForLink call
  text_link = never LINK (λ e. omega arith) (λ e. omega arith) (λ e. omega arith) none_for

  pub text_check : IsForCheck call
  text_check = never CHECK (λ e. omega arith) (λ e. omega arith) (λ e. omega arith) none_for

  pub text_fault : IsForFault call
  text_fault = record {
    only = λ is. absurd (apart FAULT (λ e. omega arith) (λ e. omega arith) (λ e. omega arith) is);
    never = λ cause. absurd (none_for cause);
  }

  pub text_write : IsForWrite call
  text_write = record { only = λ is. inr (inr only_text); there = there } where
    there : (before.faults < after.faults) ⊎ (report.faults < report.faults) → result ≡ WRITE
    there (inl rose) = put_fails (text_bytes asked) DONE before after result reports rose
    there (inr rose) = absurd (omega arith)

  pub text_memory : IsForMemory call
  text_memory is = inr (inr only_text)

  pub text_most_held : ReportsMostHeld call
  text_most_held said = absurd (no_job said.job said.asked)

  pub text_faultless : IsFaultless call
  text_faultless none = (no_fault_where_same files files refl, go reports, refl) where
    go : Tells (text_bytes asked) DONE before after result → after.faults ≡ before.faults
    go (inl own) = ap (λ (o : Output). o.faults) own.1
    go (inr (inl failed)) = absurd (none (1, omega arith, sym failed.0))
    go (inr (inr lacking)) = ap (λ (o : Output). o.faults) lacking.1

  pub text_silent : IsSilent call
  text_silent among = go reports where
    go : Tells (text_bytes asked) DONE before after result → after ≡ before
    go (inl own) = absurd (let bounds = among_before_run result among in let low = bounds.low in let is = own.0 in omega arith)
    go (inr (inl failed)) = absurd (let bounds = among_before_run result among in let high = bounds.high in let is = failed.0 in omega arith)
    go (inr (inr lacking)) = lacking.1

  pub text_returned : IsForReturned call
  text_returned held status from asks = absurd (none_for asks)

  pub text_pieces : PutsPieces call
  text_pieces = (at_most_one before after (line_once (text_bytes asked) DONE before after result reports (some asked)), inl refl) where
    some : (own : ProgramText) → 0 < length (text_bytes own)
    some text.Help = omega arith
    some text.Version = omega arith

  pub text_reads : OnlyReads call
  text_reads = record { asked = λ job has. absurd (no_job job has); unasked = λ none. refl }
