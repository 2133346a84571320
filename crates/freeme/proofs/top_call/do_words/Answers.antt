use Rattle.std.proofs.Common.{◌≡◌, List, ℕ, MatchOption, Option, Some, Err, inl, inr, ap, codes, refl, subst}
use Rattle.fm_cli.specs.Words.{texts}
use Rattle.fm_cli.specs.declared.command_refusal.CommandRefusal.TheVariants as refusal
use Rattle.fm_cli_requests.proofs.ClassFilesLemmas.{made_alone}
use Rattle.fm_cli_requests.specs.AuditRequest.{audit_of}
use Rattle.fm_cli_requests.specs.FreemeRequest.{AskForRequest, AskForNoRequest, AskToAudit, Asks, job_of, matched_in}
use Rattle.fm_cli_requests.specs.declared.freeme_request.FreemeRequest.{FreemeRequest}
use Rattle.fm_load.specs.declared.refusal.JobRefusal.TheVariants as job_refusal
use Rattle.freeme.specs.declared.refusal.FreeRefusal.TheVariants as free_refusal
use Rattle.freeme.proofs.top_call.do_words.Goals as goal

-- what words ask for is what is requested
asked_so : (words : List (List ℕ)) (o : Option FreemeRequest) (asked request : FreemeRequest) → o ≡ Some asked → asked ≡ request → MatchOption o (AskForNoRequest words) (AskForRequest words)
    → AskForRequest words request
asked_so words o asked request some is asks =
    let P : Option FreemeRequest → Type 0 = λ x. MatchOption x (AskForNoRequest words) (AskForRequest words) in subst (AskForRequest words) is (subst P some asks)

pub do_job-outcome-requires : goal.do_job-outcome-requires
do_job-outcome-requires g c =
    let words = texts c.args.words.now in
    let job = job_of c.in-Write.request in
    let asks : Asks words job = asked_so words _ _ _ c.in-Ok-Some.field-0-is c.in-Write.is c.in-Ok-Some.ensures in
    made_alone (codes "main") (matched_in words) job.main job.files job.made asks.values.classes

pub returns-in-Write : goal.returns-in-Write
returns-in-Write g c =
    let words = texts c.args.words.now in
    inl (record {
      no_text = c.requires;
      outcome = c.do_job-outcome.result;
      comes = inl (record {
        job = job_of c.in-Write.request;
        asked = asked_so words _ _ _ c.in-Ok-Some.field-0-is c.in-Write.is c.in-Ok-Some.ensures;
        within = c.do_job-outcome.ensures.within;
        comes = c.do_job-outcome.ensures.comes;
      });
      reports = c.report_outcome.ensures;
    })

pub returns-in-Audit : goal.returns-in-Audit
returns-in-Audit g c =
    let words = texts c.args.words.now in
    let asked : AskToAudit words (audit_of c.in-Audit.request) = asked_so words _ _ _ c.in-Ok-Some.field-0-is c.in-Audit.is c.in-Ok-Some.ensures in
    inr (c.audit_files.ensures words c.requires asked)

pub returns-in-Ok-None : goal.returns-in-Ok-None
returns-in-Ok-None g c =
    let words = texts c.args.words.now in
    let P : Option FreemeRequest → Type 0 = λ x. MatchOption x (AskForNoRequest words) (AskForRequest words) in
    inl (record {
      no_text = c.requires;
      outcome = Err (free_refusal.Job (job_refusal.Shared refusal.Words));
      comes = inr (inl (record { unasked = subst P c.in-Ok-None.field-0-is c.in-Ok-None.ensures; refused = refl; kept = refl }));
      reports = c.report_outcome-in-Ok-None.ensures;
    })

pub returns-in-Err : goal.returns-in-Err
returns-in-Err g c =
    inl (record {
      no_text = c.requires;
      outcome = Err c.from.result;
      comes = inr (inr (record { refused = ap Err c.from.ensures; kept = refl }));
      reports = c.report_outcome-in-Err.ensures;
    })
