use Rattle.std.proofs.Common.{refl, ◌∙◌, sym, codes, subst}
use Rattle.clap.specs.Words.{found_of, rows_of}
use Rattle.fm_cli_requests.proofs.ClassFilesLemmas.{IsNamedBy}
use Rattle.fm_cli_requests.proofs.MatchLemmas.{first_is}
use Rattle.fm_cli_requests.proofs.FmrunRequestLemmas.{untested_if_any, value_if_any}
use Rattle.fm_cli_requests.proofs.fmrun_request.request_in.Goals as goal

pub returns-in_default : goal.returns-in_default
returns-in_default c = λ job h. c.in_default.ensures (record { steps = job.steps; words = job.words; frames = job.frames }) (record { steps = h.steps; words = h.words; frames = h.frames })

pub returns-then-not-is_value_if_any : goal.returns-then-not-is_value_if_any
returns-then-not-is_value_if_any c =
    let found = found_of c.args.matches.now in
    λ job h. untested_if_any c.get_str-input.result job.input (sym (first_is found (codes "input") c.get_str-input.result c.get_str-input.ensures) ∙ h.input) c.if-not-is_value_if_any.ensures.1 h.input_is_value

pub returns-then-not-is_value_if_any-2 : goal.returns-then-not-is_value_if_any-2
returns-then-not-is_value_if_any-2 c =
    let found = found_of c.args.matches.now in
    λ job h. untested_if_any c.get_str-arguments.result job.arguments (sym (first_is found (codes "args") c.get_str-arguments.result c.get_str-arguments.ensures) ∙ h.arguments) c.if-not-is_value_if_any-2.ensures.1 h.text_is_value

pub returns-in_default-2 : goal.returns-in_default-2
returns-in_default-2 c = λ job h.
    subst (IsNamedBy (codes "class") (rows_of (found_of c.args.matches.now))) c.in_default-2.is c.in_ok-named.ensures job.main job.files job.made h.classes

pub returns : goal.returns
returns c =
    let found = found_of c.args.matches.now in
    let budgets = c.in-Some.ensures in
    record {
      steps = budgets.steps;
      words = budgets.words;
      frames = budgets.frames;
      input = first_is found (codes "input") c.get_str-input.result c.get_str-input.ensures;
      arguments = first_is found (codes "args") c.get_str-arguments.result c.get_str-arguments.ensures;
      input_is_value = value_if_any c.get_str-input.result (c.if-not-is_value_if_any.ensures.0 refl);
      text_is_value = value_if_any c.get_str-arguments.result (c.if-not-is_value_if_any-2.ensures.0 refl);
      classes = subst (IsNamedBy (codes "class") (rows_of (found_of c.args.matches.now))) c.in-Some-2.is c.in_ok-named.ensures;
    }
