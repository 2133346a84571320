use Rattle.std.proofs.Common.{[], ◌∷◌, codes}
use Rattle.clap.specs.Words.{app_of}
use Rattle.fm_cli_requests.specs.Values.{files_rule, flag_rule, option_rule}
use Rattle.fm_cli_requests.proofs.CommandLemmas.{with_one_more}
use Rattle.fm_cli_requests.proofs.FreemeRequestLemmas.{is_command}
use Rattle.fm_cli_requests.proofs.freeme_request.freeme_command.Goals as goal

pub returns : goal.returns
returns c =
    let name = codes "freeme" in
    let out = option_rule (codes "out") in
    let audit = option_rule (codes "audit") in
    let main = option_rule (codes "main") in
    let make = option_rule (codes "make") in
    let one = with_one_more name [] out c.command.ensures c.in_ok-arg.ensures c.option.ensures.rule c.option.ensures.local in
    let rapid = flag_rule (codes "rapid") in
    let chains = flag_rule (codes "chains") in
    let two = with_one_more name (out ∷ []) audit one c.in_ok-arg-2.ensures c.option-2.ensures.rule c.option-2.ensures.local in
    let three = with_one_more name (out ∷ audit ∷ []) main two c.in_ok-arg-3.ensures c.option-3.ensures.rule c.option-3.ensures.local in
    let four = with_one_more name (out ∷ audit ∷ main ∷ []) make three c.in_ok-arg-4.ensures c.option-4.ensures.rule c.option-4.ensures.local in
    let five = with_one_more name (out ∷ audit ∷ main ∷ make ∷ []) rapid four c.in_ok-arg-5.ensures c.flag.ensures.rule c.flag.ensures.local in
    let six = with_one_more name (out ∷ audit ∷ main ∷ make ∷ rapid ∷ []) chains five c.in_ok-arg-6.ensures c.flag-2.ensures.rule c.flag-2.ensures.local in
    let seven =
    with_one_more name (out ∷ audit ∷ main ∷ make ∷ rapid ∷ chains ∷ []) files_rule six c.in_ok-command.ensures c.files.ensures.rule c.files.ensures.local in
    is_command (app_of c.in_ok-command.command) seven
