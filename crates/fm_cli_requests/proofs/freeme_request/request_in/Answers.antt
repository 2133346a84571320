use Rattle.std.proofs.Common.{◌≡◌, ◌∙◌, List, ℕ, Option, None, MatchOption, ap, codes, option_map, subst}
use Rattle.std.specs.Borrow.{Bor}
use Rattle.clap.specs.Words.{first_of, found_of, rows_of}
use Rattle.fm_cli_requests.specs.AuditRequest.{HasNoAudit, HasAuditOf, audit_of}
use Rattle.fm_cli_requests.specs.FreemeRequest.{HasNoJob, HasValuesOf, job_of}
use Rattle.fm_cli_requests.specs.declared.audit_request.AuditRequest.{AuditRequest}
use Rattle.fm_cli_requests.specs.declared.freeme_request.WriteRequest.{WriteRequest}
use Rattle.fm_cli_requests.proofs.MatchLemmas.{first_found, first_is}
use Rattle.fm_cli_requests.proofs.freeme_request.request_in.Goals as goal

pub write_in-requires : goal.write_in-requires
write_in-requires c = first_is (found_of c.args.matches.now) (codes "audit") c.get_str.result c.get_str.ensures ∙ ap (option_map (λ (s : Bor (List ℕ)). s.now)) c.in_default.is

pub returns-in-None : goal.returns-in-None
returns-in-None c =
    let rows = rows_of (found_of c.args.matches.now) in
    let P : Option WriteRequest → Type 0 = λ asked. MatchOption asked (HasNoJob rows) (λ r. HasValuesOf rows (job_of r)) in
    let none : first_of (codes "audit") rows ≡ None =
    first_is (found_of c.args.matches.now) (codes "audit") c.get_str.result c.get_str.ensures ∙ ap (option_map (λ (s : Bor (List ℕ)). s.now)) c.in_default.is in
    record {
      no_job = subst P c.in-None.is c.in_ok-request.ensures;
      no_audit = λ audit has. let some = has.folder in cc;
    }

pub audit_in-requires : goal.audit_in-requires
audit_in-requires c = first_found (found_of c.args.matches.now) (codes "audit") c.get_str.result c.in-Some.folder c.get_str.ensures c.in-Some.is

pub returns-in-None-2 : goal.returns-in-None-2
returns-in-None-2 c =
    let rows = rows_of (found_of c.args.matches.now) in
    let P : Option AuditRequest → Type 0 = λ asked. MatchOption asked (HasNoAudit rows) (λ r. HasAuditOf rows (audit_of r)) in
    let some = first_found (found_of c.args.matches.now) (codes "audit") c.get_str.result c.in-Some.folder c.get_str.ensures c.in-Some.is in
    record {
      no_job = λ job has. let none = has.no_audit in cc;
      no_audit = subst P c.in-None-2.is c.in_ok-request-2.ensures;
    }
