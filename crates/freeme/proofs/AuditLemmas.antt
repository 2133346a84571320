-- What each clause says of a call for an audit.
use Rattle.std.proofs.Common.{◌≡◌, ◌≢◌, ◌<◌, ◌≤◌, ◌⊎◌, ℕ, inl, inr, List, [], ◌∷◌, ◌++◌, length, length-append, codes, Contains, None, Ok, Err, string_bytes, eqb, false, refl, sym, ap, ◌∙◌, subst, arith}
use Rattle.std.specs.List.{flat_map, list_any}
use Rattle.fm_base.proofs.ContainsFacts.{unlike_elements}
use Rattle.fm_cli.proofs.LineLemmas.{is_put}
use Rattle.fm_cli.proofs.OutsideLemmas.{no_fault_where_same}
use Rattle.fm_cli.specs.Outside.{HasNoFileFault}
use Rattle.fm_cli.specs.declared.command_refusal.CommandRefusal.TheVariants as refusal
use Rattle.fm_cli.specs.declared.status.TheConstants.{DONE, WORDS, READ, WRITE, OUT_OF_MEMORY}
use Rattle.fm_cli_requests.proofs.FreemeRequestLemmas.{audits_alone, audits_one}
use Rattle.fm_cli_requests.specs.AuditRequest.{Audit}
use Rattle.fm_cli_requests.specs.FreemeRequest.{AskNoAudit, AskNoJob, AskToAudit, FreemeJob, matched_in}
use Rattle.fm_code.specs.declared.class_file.ClassDef.{ClassDef}
use Rattle.fm_files.specs.Files.{Bytes, Disk}
use Rattle.fm_load.proofs.ChangesLemmas.{faultless_then}
use Rattle.fm_load.proofs.RefusalLemmas.{class_status}
use Rattle.fm_load.specs.ProgramCalls.{ProgramCall}
use Rattle.fm_load.specs.declared.refusal.JobRefusal.TheVariants as job_refusal
use Rattle.fm_rewrite.specs.declared.error.RewriteFail.TheVariants as fail
use Rattle.fm_load.proofs.ReadLemmas.{reads_none}
use Rattle.freeme.proofs.AuditCompleteLemmas.{ends_reported}
use Rattle.freeme.proofs.AuditJobLemmas.{only_reads}
use Rattle.freeme.proofs.CauseLemmas.{faultless_statuses, rewrite_bounds}
use Rattle.freeme.proofs.PutLemmas.{classes_some, outcome_once, refusal_some}
use Rattle.freeme.proofs.ReportedLemmas.{IsLinePut, line_faultless, line_put, outcome_line, outcome_status, own_after, own_before, own_reports, reported_silent}
use Rattle.freeme.specs.Audits.{AuditsTo, IsSafe, OnlyReads, safe_line}
use Rattle.freeme.specs.Causes.{ChangesOnly, IsFaultless, IsForNotSafe, IsForReturned, IsForRewrite, IsForSafe, IsForText, IsForWords, IsSilent, IsUnwrittenByAudits, KeepsContents, PutsOnce, SaysNotSafe, SaysSafe, before_writes}
use Rattle.freeme.specs.Complete.{AuditsComplete, IsComplete}
use Rattle.freeme.specs.Meaning.{RunsAlike}
use Rattle.freeme.specs.TopCall.{ComesOf, ComesTo, IsAuditCall, LacksRequest, Outcome, Reports}
use Rattle.freeme.specs.Writing.{class_text}
use Rattle.freeme.specs.declared.refusal.FreeRefusal.TheVariants as free_refusal
use Rattle.freeme.specs.declared.status.TheConstants.{POOL_FULL, METHOD_TOO_LONG, NOT_SAFE}

-- ---- the status of an audit

-- a status that isn't one of those that only jobs have
abbrev IsOfAudits : ℕ → Type 0
IsOfAudits status = (status ≢ WORDS) × (status ≢ POOL_FULL) × (status ≢ METHOD_TOO_LONG)

class_of_audits : (status : ℕ) → 66 ≤ status → status ≤ 69 → IsOfAudits status
class_of_audits status low high = (λ e. omega arith, λ e. omega arith, λ e. omega arith)

of_audits : (audit : Audit) (old new : Disk) (o : Outcome) → AuditsTo audit old new o → IsOfAudits (outcome_status o)
of_audits audit old new (Ok lines) comes = (λ e. omega arith, λ e. omega arith, λ e. omega arith)
of_audits audit old new (Err (free_refusal.NotSafe name part)) comes = (λ e. omega arith, λ e. omega arith, λ e. omega arith)
of_audits audit old new (Err (free_refusal.Rewrite (fail.CallsFree method offset) name)) comes = (λ e. omega arith, λ e. omega arith, λ e. omega arith)
of_audits audit old new (Err (free_refusal.Rewrite (fail.PoolFull class indices) name)) comes = absurd comes
of_audits audit old new (Err (free_refusal.Rewrite (fail.MethodTooLong method bytes) name)) comes = absurd comes
of_audits audit old new (Err (free_refusal.Rewrite fail.NoMemory name)) comes = absurd comes
of_audits audit old new (Err (free_refusal.Job (job_refusal.TooManyFiles count))) comes = (λ e. omega arith, λ e. omega arith, λ e. omega arith)
of_audits audit old new (Err (free_refusal.Job (job_refusal.TooManyArguments count))) comes = absurd comes
of_audits audit old new (Err (free_refusal.Job (job_refusal.TooLong file))) comes = (λ e. omega arith, λ e. omega arith, λ e. omega arith)
of_audits audit old new (Err (free_refusal.Job (job_refusal.Class file r))) comes = let c = class_status r in class_of_audits _ c.low c.high
of_audits audit old new (Err (free_refusal.Job (job_refusal.Shared (refusal.Read file)))) comes = (λ e. omega arith, λ e. omega arith, λ e. omega arith)
of_audits audit old new (Err (free_refusal.Job (job_refusal.Shared refusal.OutOfMemory))) comes = (λ e. omega arith, λ e. omega arith, λ e. omega arith)
of_audits audit old new (Err (free_refusal.Job (job_refusal.Shared refusal.Words))) comes = absurd comes
of_audits audit old new (Err (free_refusal.Job (job_refusal.Link fail))) comes = (λ e. omega arith, λ e. omega arith, λ e. omega arith)
of_audits audit old new (Err (free_refusal.Job (job_refusal.Check name))) comes = (λ e. omega arith, λ e. omega arith, λ e. omega arith)
of_audits audit old new (Err (free_refusal.Job (job_refusal.Write name))) comes = absurd comes

-- no read failed, or that is its status
audit_fails : (audit : Audit) (old new : Disk) (o : Outcome) → AuditsTo audit old new o → HasNoFileFault old new ⊎ (outcome_status o ≡ READ)
audit_fails audit old new (Ok lines) comes =
    inl (faultless_then old comes.audited.between new comes.audited.judged.untouched.faultless comes.audited.read.faultless)
audit_fails audit old new (Err (free_refusal.NotSafe name part)) comes =
    inl (faultless_then old comes.audited.between new comes.audited.judged.untouched.faultless comes.audited.read.faultless)
audit_fails audit old new (Err (free_refusal.Rewrite (fail.CallsFree method offset) name)) comes = inl comes.untouched.faultless
audit_fails audit old new (Err (free_refusal.Rewrite (fail.PoolFull class indices) name)) comes = absurd comes
audit_fails audit old new (Err (free_refusal.Rewrite (fail.MethodTooLong method bytes) name)) comes = absurd comes
audit_fails audit old new (Err (free_refusal.Rewrite fail.NoMemory name)) comes = absurd comes
audit_fails audit old new (Err (free_refusal.Job (job_refusal.TooManyFiles count))) comes = inl (no_fault_where_same old new comes.kept)
audit_fails audit old new (Err (free_refusal.Job (job_refusal.TooManyArguments count))) comes = absurd comes
audit_fails audit old new (Err (free_refusal.Job (job_refusal.TooLong file))) (inl long) = inl long.untouched.faultless
audit_fails audit old new (Err (free_refusal.Job (job_refusal.TooLong file))) (inr of) =
    inl (faultless_then old of.between new of.judged.untouched.faultless of.becomes.untouched.faultless)
audit_fails audit old new (Err (free_refusal.Job (job_refusal.Class file r))) (inl refused) = inl refused.untouched.faultless
audit_fails audit old new (Err (free_refusal.Job (job_refusal.Class file r))) (inr of) =
    inl (faultless_then old of.between new of.judged.untouched.faultless of.becomes.untouched.faultless)
audit_fails audit old new (Err (free_refusal.Job (job_refusal.Shared (refusal.Read file)))) comes = inr refl
audit_fails audit old new (Err (free_refusal.Job (job_refusal.Shared refusal.OutOfMemory))) comes = inl comes.faultless
audit_fails audit old new (Err (free_refusal.Job (job_refusal.Shared refusal.Words))) comes = absurd comes
audit_fails audit old new (Err (free_refusal.Job (job_refusal.Link fail))) comes = inl comes.untouched.faultless
audit_fails audit old new (Err (free_refusal.Job (job_refusal.Check name))) comes = inl comes.untouched.faultless
audit_fails audit old new (Err (free_refusal.Job (job_refusal.Write name))) comes = absurd comes

-- ---- lines

safe_line_some : (c : ClassDef) → 0 < length (safe_line c)
safe_line_some c = go (class_text c) _ (omega arith) where
  go : (s t : List ℕ) → 0 < length t → 0 < length (s ++ t)
  go s t some = omega (arith, length-append s t)

safe_lines_some : (classes : List ClassDef) → 0 < length classes → 0 < length (flat_map safe_line classes)
safe_lines_some [] some = absurd (omega arith)
safe_lines_some (c ∷ classes) some =
    let own = safe_line_some c in omega (arith, length-append (safe_line c) (flat_map safe_line classes))

-- a program has a class
safe_some : (words : List Bytes) (audit : Audit) (old new : Disk) (lines : List ℕ) → AskToAudit words audit → IsSafe audit lines old new → 0 < length lines
safe_some words audit old new lines asked safe =
    let source = safe.audited.judged.checked.linked.source in
    let some = classes_some (codes "main") (matched_in words) audit.main audit.files None old.contents source.read asked.values.classes source.taken.taken in
    let size = ap length source.classes_are in
    let own = safe_lines_some safe.classes (omega arith) in
    let is = ap length safe.lines_are in
    omega arith

outcome_some : (words : List Bytes) (audit : Audit) (old new : Disk) (o : Outcome) → AskToAudit words audit → AuditsTo audit old new o → 0 < length (outcome_line o)
outcome_some words audit old new (Ok lines) asked comes = safe_some words audit old new (string_bytes lines) asked comes
outcome_some words audit old new (Err r) asked comes = refusal_some r

-- ---- what the lines say

module _ (call : ProgramCall) where
  safe_said : (audit : Audit) (o : Outcome) → AuditsTo audit call.old call.new o → outcome_status o ≡ DONE → IsLinePut o call → SaysSafe audit call
  safe_said audit (Ok lines) comes is put = record { lines = string_bytes lines; safe = comes; line = put.0; unreported = put.1 }
  safe_said audit (Err (free_refusal.Job (job_refusal.Class file r))) comes is put = absurd (let c = class_status r in let low = c.low in let high = c.high in omega arith)
  safe_said audit (Err (free_refusal.Job (job_refusal.Shared refusal.Words))) comes is put = absurd (omega arith)
  safe_said audit (Err (free_refusal.Rewrite cause name)) comes is put = absurd (let r = rewrite_bounds cause in let low = r.0 in let high = r.1 in omega arith)
  safe_said audit o comes is put = absurd (omega arith)

  not_safe_said : (audit : Audit) → AskToAudit call.words audit → (o : Outcome) → AuditsTo audit call.old call.new o → outcome_status o ≡ NOT_SAFE
      → IsLinePut o call → SaysNotSafe call
  not_safe_said audit asked (Err (free_refusal.NotSafe name part)) comes is put =
      record { audit = audit; asked = asked; name = name; part = part; not_safe = comes; refused = put }
  not_safe_said audit asked (Err (free_refusal.Job (job_refusal.Class file r))) comes is put = absurd (let c = class_status r in let low = c.low in let high = c.high in omega arith)
  not_safe_said audit asked (Err (free_refusal.Job (job_refusal.Shared refusal.Words))) comes is put = absurd (omega arith)
  not_safe_said audit asked (Err (free_refusal.Rewrite cause name)) comes is put = absurd (let r = rewrite_bounds cause in let low = r.0 in let high = r.1 in omega arith)
  not_safe_said audit asked o comes is put = absurd (omega arith)

-- no job comes out so
job_not_so : (job : FreemeJob) (old new : Disk) (o : Outcome) → ComesTo job old new o → outcome_status o ≢ NOT_SAFE
job_not_so job old new (Err (free_refusal.NotSafe name part)) comes is = comes
job_not_so job old new (Err (free_refusal.Job (job_refusal.Class file r))) comes is = let c = class_status r in let high = c.high in omega arith
job_not_so job old new (Err (free_refusal.Job (job_refusal.Shared refusal.Words))) comes is = comes
job_not_so job old new (Err (free_refusal.Rewrite cause name)) comes is = let r = rewrite_bounds cause in let high = r.1 in omega arith
job_not_so job old new o comes is = omega arith

not_so : (words : List Bytes) (old new : Disk) (o : Outcome) → ComesOf words old new o → outcome_status o ≢ NOT_SAFE
not_so words old new o (inl j) is = job_not_so j.job old new o j.comes is
not_so words old new o (inr (inl nothing)) is = let other = sym is ∙ ap outcome_status nothing.refused in omega arith
not_so words old new o (inr (inr lacking)) is = let other = sym is ∙ ap outcome_status lacking.refused in omega arith

no_not_safe : (call : ProgramCall) (o : Outcome) → ComesOf call.words call.old call.new o → Reports o call → call.status ≢ NOT_SAFE
no_not_safe call o comes reports is =
    let own = own_reports call o reports in
    let put = is_put (outcome_line o) (outcome_status o) (own_before call o) (own_after call o) call.status own NOT_SAFE (λ e. omega arith) (λ e. omega arith) is in
    not_so call.words call.old call.new o comes put.0

-- ---- calls for no audit

-- words that come out as a job or as nothing ask for no audit, or memory to read them can't be had
no_audit_or_lacking : (words : List Bytes) (old new : Disk) (o : Outcome) → ComesOf words old new o → AskNoAudit words ⊎ LacksRequest old new o
no_audit_or_lacking words old new o (inl j) = inl (λ audit asked. audits_alone words audit asked j.job j.asked)
no_audit_or_lacking words old new o (inr (inl nothing)) = inl nothing.unasked.no_audit
no_audit_or_lacking words old new o (inr (inr lacking)) = inr lacking

module _ (call : ProgramCall) (o : Outcome) (comes : ComesOf call.words call.old call.new o) (reports : Reports o call) where
  pub job_only_reads : (audit : Audit) → AskToAudit call.words audit → OnlyReads audit call.old call.new
  job_only_reads audit asked = by (no_audit_or_lacking call.words call.old call.new o comes) where
    by : AskNoAudit call.words ⊎ LacksRequest call.old call.new o → OnlyReads audit call.old call.new
    by (inl none) = absurd (none audit asked)
    by (inr lacking) =
        let P : Disk → Type 0 = λ d. OnlyReads audit call.old d in subst P (sym lacking.kept) (only_reads audit call.old call.old (reads_none audit.files call.old))

  pub job_not_safe : IsForNotSafe call
  job_not_safe is = absurd (no_not_safe call o comes reports is)

  pub job_unwritten : IsUnwrittenByAudits call
  job_unwritten audit asked = (job_only_reads audit asked).writes

  pub job_safe : IsForSafe call
  job_safe audit asked is = by (no_audit_or_lacking call.words call.old call.new o comes) where
    by : AskNoAudit call.words ⊎ LacksRequest call.old call.new o → SaysSafe audit call
    by (inl none) = absurd (none audit asked)
    by (inr lacking) =
        let own = own_reports call o reports in
        let put =
        is_put (outcome_line o) (outcome_status o) (own_before call o) (own_after call o) call.status own DONE (λ e. omega arith) (λ e. omega arith) is in
        absurd (let other = sym put.0 ∙ ap outcome_status lacking.refused in omega arith)

  pub job_audited : AuditsComplete call
  job_audited audit classes others asked can none = by (no_audit_or_lacking call.words call.old call.new o comes) where
    by : AskNoAudit call.words ⊎ LacksRequest call.old call.new o → Contains (DONE ∷ NOT_SAFE ∷ OUT_OF_MEMORY ∷ []) call.status
    by (inl no_audit) = absurd (no_audit audit asked)
    by (inr lacking) = ends_reported call audit classes others can none o (2, omega arith, sym (ap outcome_status lacking.refused)) reports

-- ---- the clauses

module _ (call : ProgramCall) (made : IsAuditCall call) where
  no_job : AskNoJob call.words
  no_job = audits_alone call.words made.audit made.asked

  -- at a status that isn't for a failed put or for memory the line is put
  own_line : (status : ℕ) → status ≢ WRITE → status ≢ OUT_OF_MEMORY → call.status ≡ status
      → (outcome_status made.outcome ≡ status) × IsLinePut made.outcome call
  own_line status write memory is =
      let from = own_before call made.outcome in
      let to = own_after call made.outcome in
      let own = own_reports call made.outcome made.reports in
      let put = is_put (outcome_line made.outcome) (outcome_status made.outcome) from to call.status own status write memory is in
      (put.0, line_put call made.outcome made.reports put.1)

  -- no status is one of those that only jobs have
  own_status : IsOfAudits (outcome_status made.outcome)
  own_status = of_audits made.audit call.old call.new made.outcome made.comes

  pub audit_of_jobs : {Said : Type 0} → AskNoAudit call.words → Said
  audit_of_jobs none = absurd (none made.audit made.asked)

  pub audit_text : IsForText call
  audit_text text asks = absurd (made.no_text text asks)

  pub audit_words : IsForWords call
  audit_words = record {
    only = λ is. absurd (own_status.0 (own_line WORDS (λ e. omega arith) (λ e. omega arith) is).0);
    there = λ nothing. absurd (nothing.no_audit made.audit made.asked);
  }

  pub audit_pool_full : IsForRewrite POOL_FULL call
  audit_pool_full = record {
    only = λ is. absurd (own_status.1 (own_line POOL_FULL (λ e. omega arith) (λ e. omega arith) is).0);
    there = λ cause. absurd (no_job cause.0 cause.1.0);
  }

  pub audit_too_long : IsForRewrite METHOD_TOO_LONG call
  audit_too_long = record {
    only = λ is. absurd (own_status.2 (own_line METHOD_TOO_LONG (λ e. omega arith) (λ e. omega arith) is).0);
    there = λ cause. absurd (no_job cause.0 cause.1.0);
  }

  pub audit_complete : IsComplete call
  audit_complete job classes asked can none = absurd (no_job job asked)

  pub audit_returned : IsForReturned call
  audit_returned held status reads asks = absurd (no_job asks.0 asks.1.0)

  pub audit_faultless : IsFaultless call
  audit_faultless among =
      let unlike : (s : ℕ) → list_any (λ y. eqb y s) faultless_statuses ≡ false → call.status ≢ s = λ s none. unlike_elements s faultless_statuses none call.status among in
      let line = own_line call.status (unlike WRITE refl) (unlike OUT_OF_MEMORY refl) refl in
      let kept = line_faultless call made.outcome line.1 in
      (none_failed (unlike READ refl) line.0 (audit_fails made.audit call.old call.new made.outcome made.comes), kept.0, kept.1) where
        none_failed : call.status ≢ READ → outcome_status made.outcome ≡ call.status → HasNoFileFault call.old call.new ⊎ (outcome_status made.outcome ≡ READ) → HasNoFileFault call.old call.new
        none_failed unread is (inl none) = none
        none_failed unread is (inr read) = absurd (unread (sym is ∙ read))

  pub audit_kept : KeepsContents call
  audit_kept among = (made.within.writes.contents, made.within.writes.calls)

  pub audit_silent : IsSilent call
  audit_silent among =
      let unlike : (s : ℕ) → list_any (λ y. eqb y s) before_writes ≡ false → call.status ≢ s = λ s none. unlike_elements s before_writes none call.status among in
      reported_silent call made.outcome made.reports (unlike DONE refl) (unlike WRITE refl) (unlike OUT_OF_MEMORY refl)

  pub audit_once : PutsOnce call
  audit_once =
      outcome_once call made.outcome (outcome_some call.words made.audit call.old call.new made.outcome made.asked made.comes) made.reports

  pub audit_changes : ChangesOnly call
  audit_changes = record {
    asked = λ job has. absurd (no_job job has);
    audited = λ audit has. subst (λ (a : Audit). OnlyReads a call.old call.new) (audits_one call.words made.audit audit made.asked has) made.within;
    unasked = λ none. absurd (none.no_audit made.audit made.asked);
  }

  pub audit_runs : RunsAlike call
  audit_runs job asked files is = absurd (no_job job asked)

  pub audit_safe : IsForSafe call
  audit_safe audit has is =
      let line = own_line DONE (λ e. omega arith) (λ e. omega arith) is in
      let P : Audit → Type 0 = λ a. SaysSafe a call in
      subst P (audits_one call.words made.audit audit made.asked has) (safe_said call made.audit made.outcome made.comes line.0 line.1)

  pub audit_not_safe : IsForNotSafe call
  audit_not_safe is =
      let line = own_line NOT_SAFE (λ e. omega arith) (λ e. omega arith) is in
      not_safe_said call made.audit made.asked made.outcome made.comes line.0 line.1

  pub audit_unwritten : IsUnwrittenByAudits call
  audit_unwritten audit has = made.within.writes
