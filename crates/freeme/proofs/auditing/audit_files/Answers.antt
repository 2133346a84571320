use Rattle.std.proofs.Common.{Err}
use Rattle.fm_cli_requests.specs.AuditRequest.{audit_of}
use Rattle.freeme.proofs.AuditJobLemmas.{both_read, found, is_auditable}
use Rattle.freeme.specs.Audits.{given_in}
use Rattle.freeme.specs.inner.Auditing.{names_in}
use Rattle.freeme.proofs.auditing.audit_files.Goals as goal

pub audit_program-outcome-requires : goal.audit_program-outcome-requires
audit_program-outcome-requires g c = is_auditable c.in-Ok.ensures.comes

pub returns-in-Ok : goal.returns-in-Ok
returns-in-Ok g c =
    let so = c.in-Ok.ensures.comes in λ words no_text asked. record {
      no_text = no_text;
      audit = audit_of c.args.request;
      asked = asked;
      within =
          both_read (audit_of c.args.request) c.in-Ok.audited.classes.items (names_in c.in-Ok.audited) (g.F.Files.disk c.args.files.now)
          (g.F.Files.disk c.audited_program.new.files) (g.F.Files.disk c.audit_program-outcome.new.files) so.names_are c.audited_program.ensures.within
          c.audit_program-outcome.ensures.within;
      outcome = c.audit_program-outcome.result;
      comes =
          found so (g.F.Files.disk c.audit_program-outcome.new.files) c.law_taken.ensures.files c.law_alike.ensures c.audit_program-outcome.result
          (c.audit_program-outcome.ensures.finds (given_in (audit_of c.args.request)).main so.program_is);
      reports = c.report_outcome.ensures;
    }

pub returns : goal.returns
returns g c = λ words no_text asked. record {
  no_text = no_text;
  audit = audit_of c.args.request;
  asked = asked;
  within = c.audited_program.ensures.within;
  outcome = Err c.in-Err.refusal;
  comes = c.in-Err.ensures.comes;
  reports = c.report_outcome-in-Err.ensures;
}
