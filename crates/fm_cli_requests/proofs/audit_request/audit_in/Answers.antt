use Rattle.std.proofs.Common.{refl, codes, subst, None}
use Rattle.std.proofs.lemmas.Bool.{false≢true}
use Rattle.clap.specs.Words.{found_of, rows_of}
use Rattle.fm_cli_requests.specs.Values.{IsValue}
use Rattle.fm_cli_requests.proofs.ClassFilesLemmas.{IsNamedBy}
use Rattle.fm_cli_requests.proofs.MatchLemmas.{untested}
use Rattle.fm_cli_requests.proofs.audit_request.audit_in.Goals as goal

pub returns-then-not-lacks_value : goal.returns-then-not-lacks_value
returns-then-not-lacks_value c = λ job h. false≢true (c.if-not-lacks_value.ensures.1 h.no_out)

pub returns-then-is_given : goal.returns-then-is_given
returns-then-is_given c = λ job h. h.no_rapid (c.if-is_given.ensures.0 refl)

pub returns-then-is_given-2 : goal.returns-then-is_given-2
returns-then-is_given-2 c = λ job h. h.no_chains (c.if-is_given-2.ensures.0 refl)

pub returns-then-not-is_value : goal.returns-then-not-is_value
returns-then-not-is_value c = λ job h.
    untested IsValue _ c.args.folder.now job.folder c.if-not-is_value.ensures.1 c.requires h.folder h.folder_is_value

pub returns-in_default : goal.returns-in_default
returns-in_default c = λ job h.
    subst (IsNamedBy (codes "main") (rows_of (found_of c.args.matches.now))) c.in_default.is c.in_ok-named.ensures job.main job.files None h.classes
