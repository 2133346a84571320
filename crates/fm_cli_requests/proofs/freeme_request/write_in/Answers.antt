use Rattle.std.proofs.Common.{refl, sym, ◌∙◌, codes, subst}
use Rattle.std.proofs.lemmas.Bool.{false≢true}
use Rattle.clap.specs.Words.{found_of, rows_of}
use Rattle.fm_base.proofs.OptionFacts.{None-from_not_some}
use Rattle.fm_cli_requests.specs.Values.{IsValue}
use Rattle.fm_cli_requests.proofs.ClassFilesLemmas.{IsNamedBy}
use Rattle.fm_cli_requests.proofs.MatchLemmas.{first_found, first_missing, untested}
use Rattle.fm_cli_requests.proofs.freeme_request.write_in.Goals as goal
use Rattle.fm_cli_requests.proofs.freeme_request.write_in.Goals.{else-rapid-via-then-rapid+else-is_some, else-rapid-via-else-rapid, else-chains-via-then-chains+else-is_some-2, else-chains-via-else-chains}

pub returns-in_default : goal.returns-in_default
returns-in_default c = λ job h.
    first_missing (found_of c.args.matches.now) (codes "out") c.get_str.result job.folder c.get_str.ensures c.in_default.is h.folder

pub returns-then-not-is_value : goal.returns-then-not-is_value
returns-then-not-is_value c =
    let folder = first_found (found_of c.args.matches.now) (codes "out") c.get_str.result c.in-Some.folder c.get_str.ensures c.in-Some.is in
    λ job h. untested IsValue _ c.in-Some.folder.now job.folder c.if-not-is_value.ensures.1 folder h.folder h.folder_is_value

pub returns-in_default-2 : goal.returns-in_default-2
returns-in_default-2 c = λ job h.
    subst (IsNamedBy (codes "main") (rows_of (found_of c.args.matches.now))) c.in_default-2.is c.in_ok-named.ensures job.main job.files job.made h.classes

pub returns : goal.returns
returns c = record {
  no_audit = c.requires;
  folder = first_found (found_of c.args.matches.now) (codes "out") c.get_str.result c.in-Some.folder c.get_str.ensures c.in-Some.is;
  folder_is_value = c.if-not-is_value.ensures.0 refl;
  classes = subst (IsNamedBy (codes "main") (rows_of (found_of c.args.matches.now))) c.in-Some-2.is c.in_ok-named.ensures;
  rapid = c.is_given-rapid.ensures;
  chains = c.is_given-chains.ensures;
  of_files = λ given. elim c.else-rapid.branch [
    | else-rapid-via-then-rapid+else-is_some w ↦
        None-from_not_some c.in-Some-2.named.made (λ some. false≢true (sym w.if-is_some.false ∙ w.is_some.ensures ∙ some))
    | else-rapid-via-else-rapid w ↦ absurd (false≢true (sym w.if-rapid.false ∙ given))
  ];
  chains_of_files = λ given. elim c.else-chains.branch [
    | else-chains-via-then-chains+else-is_some-2 w ↦
        None-from_not_some c.in-Some-2.named.made (λ some. false≢true (sym w.if-is_some-2.false ∙ w.is_some-then-chains.ensures ∙ some))
    | else-chains-via-else-chains w ↦ absurd (false≢true (sym w.if-chains.false ∙ given))
  ];
}
