use Rattle.std.proofs.Common.{arith, inl, inr, ⊎_elim}
use Rattle.fm_cli.specs.Words.{texts}
use Rattle.fm_cli.specs.declared.status.TheConstants.{MALFORMED, VERSION, UNSUPPORTED}
use Rattle.freeme.specs.declared.status.TheConstants.{CALLS_FREE, POOL_FULL, METHOD_TOO_LONG}
use Rattle.freeme.proofs.AuditCompleteLemmas.{audits_complete}
use Rattle.freeme.proofs.AuditLemmas.{audit_changes, audit_complete, audit_faultless, audit_kept, audit_not_safe, audit_of_jobs, audit_once, audit_pool_full, audit_returned, audit_runs, audit_safe, audit_silent, audit_text, audit_too_long, audit_unwritten, audit_words, job_audited, job_not_safe, job_only_reads, job_safe, job_unwritten}
use Rattle.freeme.proofs.CauseLemmas.{is_for_words, is_for_read, is_for_bytes, is_for_limit, is_for_link, is_for_check, is_for_returned, is_for_rewrite, is_for_done, is_for_text, is_for_write, is_for_memory, is_faultless, is_silent, keeps_contents, changes_only}
use Rattle.freeme.proofs.CompleteLemmas.{is_complete}
use Rattle.freeme.proofs.DecideLemmas.{audits_decide}
use Rattle.freeme.proofs.PutLemmas.{puts_once}
use Rattle.freeme.proofs.RewritingLemmas.{causes_agree}
use Rattle.freeme.proofs.StatusLemmas.{is_status}
use Rattle.freeme.proofs.MeaningLemmas.{audits_alike, keeps_meaning, runs_alike}
use Rattle.freeme.proofs.TextLemmas.{text_alike, text_audited, text_changes, text_check, text_done, text_faultless, text_kept, text_limit, text_link, text_memory, text_not_safe, text_of_bytes, text_once, text_read, text_returned, text_rewrite, text_safe, text_silent, text_status, text_text, text_unwritten, text_whole, text_words, text_write}
use Rattle.fm_load.specs.ProgramCalls.{call_of}
use Rattle.freeme.specs.TopCall.{IsAuditCall, IsJobCall}
use Rattle.freeme.proofs.top_call.freeme_run.Goals as goal

pub returns-in-Some : goal.returns-in-Some
returns-in-Some g c =
    let words = texts c.args.words.now in
    let files = g.F.Files.disk c.args.files.now in
    let before = g.O.Sink.output c.args.out.now in
    let after = g.O.Sink.output c.put_text.new.out in
    let report = g.R.Sink.output c.args.report.now in
    let result = c.put_text.result in
    let asked = c.in-Some.asked in
    let asks = c.in-Some.ensures in
    let reports = c.put_text.ensures in
    let call = call_of words files files before after report report result in
    record {
      whole = text_whole words files before after report result asked asks reports;
      status = text_status words files before after report result asked asks reports;
      done = λ none. text_done words files before after report result asked asks reports;
      text = text_text words files before after report result asked asks reports;
      words = text_words words files before after report result asked asks reports;
      read = λ none. text_read words files before after report result asked asks reports;
      malformed = λ none. text_of_bytes words files before after report result asked asks reports MALFORMED (omega arith) (omega arith);
      version = λ none. text_of_bytes words files before after report result asked asks reports VERSION (omega arith) (omega arith);
      limit = λ none. text_limit words files before after report result asked asks reports;
      unsupported = λ none. text_of_bytes words files before after report result asked asks reports UNSUPPORTED (omega arith) (omega arith);
      link = λ none. text_link words files before after report result asked asks reports;
      check = λ none. text_check words files before after report result asked asks reports;
      calls_free = λ none. text_rewrite words files before after report result asked asks reports CALLS_FREE (omega arith) (omega arith);
      pool_full = text_rewrite words files before after report result asked asks reports POOL_FULL (omega arith) (omega arith);
      method_too_long = text_rewrite words files before after report result asked asks reports METHOD_TOO_LONG (omega arith) (omega arith);
      write = λ none. text_write words files before after report result asked asks reports;
      memory = λ none. text_memory words files before after report result asked asks reports;
      complete =
          is_complete call (text_done words files before after report result asked asks reports)
          (text_read words files before after report result asked asks reports) (text_write words files before after report result asked asks reports);
      returned = text_returned words files before after report result asked asks reports;
      faultless = text_faultless words files before after report result asked asks reports;
      kept = text_kept words files before after report result asked asks reports;
      silent = text_silent words files before after report result asked asks reports;
      once = text_once words files before after report result asked asks reports;
      others = text_changes words files before after report result asked asks reports;
      same = λ none. keeps_meaning call (text_done words files before after report result asked asks reports);
      runs = runs_alike call (text_done words files before after report result asked asks reports);
      safe = text_safe words files before after report result asked asks reports;
      not_safe = text_not_safe words files before after report result asked asks reports;
      audited = text_audited words files before after report result asked asks reports;
      decided =
          audits_decide call c.law_exact.ensures.safe (text_safe words files before after report result asked asks reports)
          (text_not_safe words files before after report result asked asks reports);
      unwritten = text_unwritten words files before after report result asked asks reports;
      alike = text_alike words files before after report result asked asks reports;
    }

pub do_words-requires : goal.do_words-requires
do_words-requires g c = c.in-None.ensures

pub returns-in-None : goal.returns-in-None
returns-in-None g c =
    let call =
    call_of (texts c.args.words.now) (g.F.Files.disk c.args.files.now) (g.F.Files.disk c.do_words.new.files) (g.O.Sink.output c.args.out.now)
    (g.O.Sink.output c.do_words.new.out) (g.R.Sink.output c.args.report.now) (g.R.Sink.output c.do_words.new.report) c.do_words.result in
    let alike = causes_agree c.law_exact.ensures.alike c.law_chains_exact.ensures in
    ⊎_elim
    (λ (job : IsJobCall call).
    let o = job.outcome in
    let comes = job.comes in
    let reports = job.reports in
    record {
      whole = inr (inl job);
      status = is_status call o reports;
      done = λ none. is_for_done call o comes reports alike;
      text = is_for_text call job.no_text;
      words = is_for_words call o comes reports alike job.no_text;
      read = λ none. is_for_read call o comes reports alike;
      malformed = λ none. is_for_bytes call o comes reports alike MALFORMED (omega arith) (omega arith) (λ e. omega arith);
      version = λ none. is_for_bytes call o comes reports alike VERSION (omega arith) (omega arith) (λ e. omega arith);
      limit = λ none. is_for_limit call o comes reports alike;
      unsupported = λ none. is_for_bytes call o comes reports alike UNSUPPORTED (omega arith) (omega arith) (λ e. omega arith);
      link = λ none. is_for_link call o comes reports alike;
      check = λ none. is_for_check call o comes reports alike;
      calls_free = λ none. is_for_rewrite call o comes reports alike CALLS_FREE (omega arith) (omega arith);
      pool_full = is_for_rewrite call o comes reports alike POOL_FULL (omega arith) (omega arith);
      method_too_long = is_for_rewrite call o comes reports alike METHOD_TOO_LONG (omega arith) (omega arith);
      write = λ none. is_for_write call o comes reports alike;
      memory = λ none. is_for_memory call o comes reports alike;
      complete =
          is_complete call (is_for_done call o comes reports alike)
          (is_for_read call o comes reports alike) (is_for_write call o comes reports alike);
      returned = is_for_returned call o comes reports alike;
      faultless = is_faultless call o comes reports alike;
      kept = keeps_contents call o comes reports alike;
      silent = is_silent call o comes reports alike;
      once = puts_once call o comes reports;
      others = changes_only call o comes reports alike (job_only_reads call o comes reports);
      same = λ none. keeps_meaning call (is_for_done call o comes reports alike);
      runs = runs_alike call (is_for_done call o comes reports alike);
      safe = job_safe call o comes reports;
      not_safe = job_not_safe call o comes reports;
      audited = job_audited call o comes reports;
      decided = audits_decide call c.law_exact.ensures.safe (job_safe call o comes reports) (job_not_safe call o comes reports);
      unwritten = job_unwritten call o comes reports;
      alike = audits_alike call (job_safe call o comes reports);
    })
    (λ (made : IsAuditCall call). record {
      whole = inr (inr made);
      status = is_status call made.outcome made.reports;
      done = audit_of_jobs call made;
      text = audit_text call made;
      words = audit_words call made;
      read = audit_of_jobs call made;
      malformed = audit_of_jobs call made;
      version = audit_of_jobs call made;
      limit = audit_of_jobs call made;
      unsupported = audit_of_jobs call made;
      link = audit_of_jobs call made;
      check = audit_of_jobs call made;
      calls_free = audit_of_jobs call made;
      pool_full = audit_pool_full call made;
      method_too_long = audit_too_long call made;
      write = audit_of_jobs call made;
      memory = audit_of_jobs call made;
      complete = audit_complete call made;
      returned = audit_returned call made;
      faultless = audit_faultless call made;
      kept = audit_kept call made;
      silent = audit_silent call made;
      once = audit_once call made;
      others = audit_changes call made;
      same = audit_of_jobs call made;
      runs = audit_runs call made;
      safe = audit_safe call made;
      not_safe = audit_not_safe call made;
      audited = audits_complete call made;
      decided = audits_decide call c.law_exact.ensures.safe (audit_safe call made) (audit_not_safe call made);
      unwritten = audit_unwritten call made;
      alike = audits_alike call (audit_safe call made);
    })
    c.do_words.ensures
