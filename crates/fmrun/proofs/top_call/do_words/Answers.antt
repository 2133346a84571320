use Rattle.std.proofs.Common.{MatchOption, Option, subst}
use Rattle.fm_cli_requests.specs.FmrunRequest.{AskNoJob, Asks, job_of}
use Rattle.fm_cli_requests.specs.declared.fmrun_request.FmrunRequest.{FmrunRequest}
use Rattle.fm_cli.specs.Words.{texts}
use Rattle.fmrun.proofs.RequestLimits.{within_limits}
use Rattle.fmrun.proofs.top_call.do_words.Goals as goal

pub do_job-requires : goal.do_job-requires
do_job-requires g c =
    let words = texts c.args.words.now in
    let P : Option FmrunRequest → Type 0 = λ asked. MatchOption asked (AskNoJob words) (λ r. Asks words (job_of r)) in
    within_limits words (job_of c.in-Some.request) (subst P c.in-Some.is c.in_ok-asked.ensures)
