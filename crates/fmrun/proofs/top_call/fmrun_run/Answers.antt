use Rattle.std.proofs.Common.{arith, inr}
use Rattle.fm_cli.specs.Words.{texts}
use Rattle.fm_cli.specs.declared.status.TheConstants.{MALFORMED, VERSION, UNSUPPORTED}
use Rattle.fm_load.specs.ProgramCalls.{call_of}
use Rattle.fmrun.proofs.CauseLemmas.{is_for_bytes, is_for_check, is_for_limit, is_for_link, is_for_read, is_for_run, is_for_words, run_only}
use Rattle.fmrun.proofs.CompleteLemmas.{is_complete}
use Rattle.fmrun.proofs.ChangeLemmas.{is_faultless, is_for_memory, is_for_write, is_silent, is_status, only_reads}
use Rattle.fmrun.proofs.PutLemmas.{puts_pieces}
use Rattle.fmrun.proofs.ReturnedLemmas.{is_for_returned}
use Rattle.fmrun.proofs.RunFacts.{is_for_fault, reports_most_held}
use Rattle.fmrun.proofs.TextLemmas.{text_check, text_fault, text_faultless, text_limit, text_link, text_memory, text_most_held, text_of_bytes, text_pieces, text_read, text_reads, text_returned, text_run, text_silent, text_status, text_text, text_whole, text_words, text_write}
use Rattle.fmrun.proofs.top_call.fmrun_run.Goals as goal

pub returns-in-Some : goal.returns-in-Some
returns-in-Some g c =
    let words = texts c.args.words.now in
    let files = g.F.Files.disk c.args.files.now in
    let before = g.O.Sink.output c.args.out.now in
    let after = g.O.Sink.output c.put_text.new.out in
    let report = g.R.Sink.output c.args.report.now in
    let result = c.put_text.result in
    let asked = c.in-Some.asked in
    let asks = c.in-Some.ensures in
    let reports = c.put_text.ensures in
    record {
      whole = text_whole words files before after report result asked asks reports;
      status = text_status words files before after report result asked asks reports;
      run = text_run words files before after report result asked asks reports;
      text = text_text words files before after report result asked asks reports;
      words = text_words words files before after report result asked asks reports;
      read = text_read words files before after report result asked asks reports;
      malformed = text_of_bytes words files before after report result asked asks reports MALFORMED (omega arith) (omega arith);
      version = text_of_bytes words files before after report result asked asks reports VERSION (omega arith) (omega arith);
      limit = text_limit words files before after report result asked asks reports;
      unsupported = text_of_bytes words files before after report result asked asks reports UNSUPPORTED (omega arith) (omega arith);
      link = text_link words files before after report result asked asks reports;
      check = text_check words files before after report result asked asks reports;
      fault = text_fault words files before after report result asked asks reports;
      write = text_write words files before after report result asked asks reports;
      memory = text_memory words files before after report result asked asks reports;
      complete =
          is_complete (call_of words files files before after report report result) (text_run words files before after report result asked asks reports)
          (text_read words files before after report result asked asks reports) (text_write words files before after report result asked asks reports);
      returned = text_returned words files before after report result asked asks reports;
      most_held = text_most_held words files before after report result asked asks reports;
      faultless = text_faultless words files before after report result asked asks reports;
      silent = text_silent words files before after report result asked asks reports;
      pieces = text_pieces words files before after report result asked asks reports;
      reads = text_reads words files before after report result asked asks reports;
    }

pub returns-in-None : goal.returns-in-None
returns-in-None g c =
    let call =
    call_of (texts c.args.words.now) (g.F.Files.disk c.args.files.now) (g.F.Files.disk c.do_words-outcome.new.files) (g.O.Sink.output c.args.out.now)
    (g.O.Sink.output c.do_words-outcome.new.out) (g.R.Sink.output c.args.report.now) (g.R.Sink.output c.report_outcome.new.report) c.report_outcome.result in
    let o = c.do_words-outcome.result in
    let comes = c.do_words-outcome.ensures in
    let reports = c.report_outcome.ensures in
    record {
      whole = inr (record { no_text = c.in-None.ensures; outcome = o; comes = comes; reports = reports });
      status = is_status call o comes reports;
      run = is_for_run call o comes reports;
      text = λ asked asks. absurd (c.in-None.ensures asked asks);
      words = is_for_words call o comes reports c.in-None.ensures;
      read = is_for_read call o comes reports;
      malformed = is_for_bytes call o comes reports MALFORMED (omega arith) (omega arith) (λ e. omega arith);
      version = is_for_bytes call o comes reports VERSION (omega arith) (omega arith) (λ e. omega arith);
      limit = is_for_limit call o comes reports;
      unsupported = is_for_bytes call o comes reports UNSUPPORTED (omega arith) (omega arith) (λ e. omega arith);
      link = is_for_link call o comes reports;
      check = is_for_check call o comes reports;
      fault = is_for_fault call (run_only call o comes reports);
      write = is_for_write call o comes reports;
      memory = is_for_memory call o comes reports;
      complete = is_complete call (is_for_run call o comes reports) (is_for_read call o comes reports) (is_for_write call o comes reports);
      returned = is_for_returned call o comes reports;
      most_held = reports_most_held call c.law_can_run.ensures c.law_most_held.ensures;
      faultless = is_faultless call o comes reports;
      silent = is_silent call o comes reports;
      pieces = puts_pieces call o comes reports;
      reads = only_reads call o comes;
    }
