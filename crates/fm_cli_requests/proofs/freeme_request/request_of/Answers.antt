use Rattle.std.proofs.Common.{List, sym, ◌∙◌, subst, Ok, Err, MatchOption}
use Rattle.std.proofs.lemmas.Result.{IfOk-weaker}
use Rattle.clap.specs.Words.{Row, app_of}
use Rattle.clap.specs.Values.{kind_of}
use Rattle.fm_cli.specs.Words.{texts}
use Rattle.fm_cli_requests.specs.FreemeRequest.{HasNoRequest, HasValuesFor}
use Rattle.fm_cli_requests.proofs.FreemeRequestLemmas.{asked_by, faults_are, faulty, matched_are}
use Rattle.fm_cli_requests.proofs.freeme_request.request_of.Goals as goal

pub returns-in-Ok : goal.returns-in-Ok
returns-in-Ok c =
    let words = texts c.args.words.now in
    let app = app_of c.in_ok-command.command in
    let faultless = faults_are app words (Ok c.in-Ok.matches) c.in_ok-command.ensures c.in-Ok.ensures.kinds in
    let are = matched_are app words c.in-Ok.matches c.in_ok-command.ensures c.in-Ok.ensures.matches in
    IfOk-weaker c.request_in.result _ _
    (λ asked h. asked_by words asked faultless (subst (λ (rows : List Row). MatchOption asked (HasNoRequest rows) (HasValuesFor rows)) (sym are) h))
    c.request_in.ensures

pub returns : goal.returns
returns c =
    let words = texts c.args.words.now in
    let fails = faults_are (app_of c.in_ok-command.command) words (Err c.in-Err.error) c.in_ok-command.ensures c.in-Err.ensures.kinds in
    faulty words (kind_of c.in-Err.error) (λ memory. c.in_default.not-OutOfMemory (c.kind.ensures ∙ memory)) fails
