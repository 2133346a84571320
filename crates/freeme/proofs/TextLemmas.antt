-- What each clause says of a call for a text.
use Rattle.std.proofs.Common.{◌≡◌, ◌≢◌, ◌<◌, ◌≤◌, ◌⊎◌, ℕ, inl, inr, List, length, refl, sym, ap, ◌∙◌, subst, arith}
use Rattle.fm_base.proofs.ContainsFacts.{unlike_elements}
use Rattle.fm_files.specs.Files.{Bytes, Disk}
use Rattle.fm_files.specs.Sink.{Output}
use Rattle.fm_cli.proofs.LineLemmas.{line_once, put_fails, told_among}
use Rattle.fm_cli.proofs.OutsideLemmas.{no_fault_where_same}
use Rattle.fm_cli.specs.Line.{Tells}
use Rattle.fm_cli.specs.Status.{ComesExactly}
use Rattle.fm_cli.specs.declared.status.TheConstants.{DONE, WORDS, READ, LIMIT, LINK, CHECK, WRITE, OUT_OF_MEMORY}
use Rattle.fm_cli_requests.proofs.FreemeRequestLemmas.{text_no_audit, text_no_job}
use Rattle.fm_cli_requests.proofs.ProgramTextLemmas.{one_text}
use Rattle.fm_cli_requests.specs.FreemeRequest.{AskNoAudit, AskNoJob, AskOnlyForText, FreemeJob}
use Rattle.fm_cli_requests.specs.ProgramText.{AskForText}
use Rattle.fm_cli_requests.specs.declared.program_text.ProgramText.{ProgramText}
use Rattle.fm_cli_requests.specs.declared.program_text.ProgramText.TheVariants as text
use Rattle.fm_load.specs.Causes.{FailsARead, FailsAWrite, IsMissing}
use Rattle.fm_load.specs.ProgramCalls.{ProgramCall, PutsText, call_of}
use Rattle.freeme.proofs.CauseLemmas.{faultless_statuses}
use Rattle.freeme.proofs.StatusLemmas.{all_statuses}
use Rattle.freeme.specs.Causes.{AskFor, AskForGiven, ChangesOnly, IsFaultless, IsForBytes, IsForCheck, IsForDone, IsForLimit, IsForLink, IsForMemory, IsForNotSafe, IsForRead, IsForReturned, IsForRewrite, IsForSafe, IsForText, IsForWords, IsForWrite, IsSilent, IsStatus, IsUnwrittenByAudits, KeepsContents, PutsOnce, before_writes}
use Rattle.freeme.specs.Complete.{AuditsComplete}
use Rattle.freeme.specs.Meaning.{AuditsAlike}
use Rattle.freeme.specs.declared.status.TheConstants.{NOT_SAFE}
use Rattle.freeme.specs.TopCall.{IsTopCall, text_bytes}

module _ (words : List Bytes) (files : Disk) (before after report : Output) (result : ℕ) (asked : ProgramText) (asks : AskForText words asked) (reports : Tells (text_bytes asked) DONE before after result) where
  abbrev call : ProgramCall
  call = call_of words files files before after report report result

  no_job : AskNoJob words
  no_job = text_no_job words asked asks

  no_audit : AskNoAudit words
  no_audit = text_no_audit words asked asks

  only_text : AskOnlyForText words
  only_text = record { asked = asked; asks = asks; no_job = no_job; no_audit = no_audit }

  none_for : {P : FreemeJob → Type 0} → ¬ AskFor words P
  none_for (job, (has, holds)) = no_job job has

  -- the status is that of what is done, of a write or of memory
  apart : (status : ℕ) → DONE ≢ status → WRITE ≢ status → OUT_OF_MEMORY ≢ status → result ≢ status
  apart status done write memory is = go reports where
    go : Tells (text_bytes asked) DONE before after result → ⊥
    go (inl own) = done (sym own.0 ∙ is)
    go (inr (inl failed)) = write (sym failed.0 ∙ is)
    go (inr (inr lacking)) = memory (sym lacking.0 ∙ is)

  never : {Said Cause : Type 0} {instead : List ℕ} (status : ℕ) → DONE ≢ status → WRITE ≢ status → OUT_OF_MEMORY ≢ status → ¬ Cause
      → ComesExactly status instead result Said Cause
  never status done write memory none = record { only = λ is. absurd (apart status done write memory is); there = λ cause. absurd (none cause) }

  -- no read and no write failed
  no_read : ¬ FailsARead files files
  no_read (name, rose) = omega arith

  no_write : ¬ FailsAWrite files files
  no_write (name, rose) = omega arith

  put : PutsText (text_bytes asked) call
  put = record { kept = refl; unreported = refl; reports = reports }

  pub text_whole : IsTopCall call
  text_whole = inl (record { asked = asked; asks = asks; put = put })

  pub text_status : IsStatus result
  text_status = told_among (text_bytes asked) DONE before after result reports all_statuses (0, omega arith, refl) (13, omega arith, refl) (14, omega arith, refl)

  pub text_done : IsForDone call
  text_done = record { only = λ is. inr only_text; there = λ cause. absurd (none_for cause) }

  pub text_text : IsForText call
  text_text other also = let P : ProgramText → Type 0 = λ t. PutsText (text_bytes t) call in subst P (one_text words asked other asks also) put

  pub text_words : IsForWords call
  text_words = never WORDS (λ e. omega arith) (λ e. omega arith) (λ e. omega arith) (λ nothing. nothing.no_text asked asks)

  pub text_read : IsForRead call
  text_read = never READ (λ e. omega arith) (λ e. omega arith) (λ e. omega arith) none where
    none : ¬ (FailsARead files files ⊎ AskForGiven words (IsMissing files))
    none (inl fault) = no_read fault
    none (inr missing) = none_for missing

  pub text_of_bytes : (status : ℕ) → 66 ≤ status → status ≤ 69 → IsForBytes status call
  text_of_bytes status low high = never status (λ e. omega arith) (λ e. omega arith) (λ e. omega arith) none_for

  pub text_limit : IsForLimit call
  text_limit = record {
    only = λ is. absurd (apart LIMIT (λ e. omega arith) (λ e. omega arith) (λ e. omega arith) is);
    many = λ cause. absurd (none_for cause);
    long = λ cause. absurd (none_for cause);
    bytes = λ cause. absurd (none_for cause);
  }

  pub text_link : IsForLink call
  text_link = never LINK (λ e. omega arith) (λ e. omega arith) (λ e. omega arith) none_for

  pub text_check : IsForCheck call
  text_check = never CHECK (λ e. omega arith) (λ e. omega arith) (λ e. omega arith) none_for

  pub text_rewrite : (status : ℕ) → 72 ≤ status → status ≤ 74 → IsForRewrite status call
  text_rewrite status low high = never status (λ e. omega arith) (λ e. omega arith) (λ e. omega arith) none_for

  pub text_write : IsForWrite call
  text_write = record {
    only = λ is. inr (inr only_text);
    put = rose;
    write = λ cause. absurd (no_write cause);
  } where
    rose : (before.faults < after.faults) ⊎ (report.faults < report.faults) → result ≡ WRITE
    rose (inl output) = put_fails (text_bytes asked) DONE before after result reports output
    rose (inr reported) = absurd (omega arith)

  pub text_memory : IsForMemory call
  text_memory is = inr (inr only_text)

  pub text_faultless : IsFaultless call
  text_faultless among = (no_fault_where_same files files refl, go reports, refl) where
    go : Tells (text_bytes asked) DONE before after result → after.faults ≡ before.faults
    go (inl own) = ap (λ (o : Output). o.faults) own.1
    go (inr (inl failed)) = absurd (unlike_elements WRITE faultless_statuses refl result among failed.0)
    go (inr (inr lacking)) = ap (λ (o : Output). o.faults) lacking.1

  pub text_kept : KeepsContents call
  text_kept among = (refl, refl)

  pub text_silent : IsSilent call
  text_silent among = go reports where
    go : Tells (text_bytes asked) DONE before after result → after ≡ before
    go (inl own) = absurd (unlike_elements DONE before_writes refl result among own.0)
    go (inr (inl failed)) = absurd (unlike_elements WRITE before_writes refl result among failed.0)
    go (inr (inr lacking)) = lacking.1

  pub text_once : PutsOnce call
  text_once = inl (line_once (text_bytes asked) DONE before after result reports (some asked), refl) where
    some : (own : ProgramText) → 0 < length (text_bytes own)
    some text.Help = omega arith
    some text.Version = omega arith

  pub text_returned : IsForReturned call
  text_returned held status reads asks = absurd (no_job asks.0 asks.1.0)

  pub text_changes : ChangesOnly call
  text_changes = record { asked = λ job has. absurd (no_job job has); audited = λ audit has. absurd (no_audit audit has); unasked = λ none. refl }

  pub text_safe : IsForSafe call
  text_safe audit has is = absurd (no_audit audit has)

  pub text_not_safe : IsForNotSafe call
  text_not_safe is = absurd (apart NOT_SAFE (λ e. omega arith) (λ e. omega arith) (λ e. omega arith) is)

  pub text_audited : AuditsComplete call
  text_audited audit classes others has can none = absurd (no_audit audit has)

  pub text_unwritten : IsUnwrittenByAudits call
  text_unwritten audit has = absurd (no_audit audit has)

  pub text_alike : AuditsAlike call
  text_alike audit has is = absurd (no_audit audit has)
