use Rattle.std.proofs.Common.{[], ◌∷◌, codes}
use Rattle.clap.specs.Words.{app_of}
use Rattle.fm_cli_requests.specs.FmrunRequest.{class_rule}
use Rattle.fm_cli_requests.specs.Values.{files_rule, option_rule}
use Rattle.fm_cli_requests.proofs.CommandLemmas.{with_one_more}
use Rattle.fm_cli_requests.proofs.FmrunRequestLemmas.{is_command}
use Rattle.fm_cli_requests.proofs.fmrun_request.fmrun_command.Goals as goal

pub returns : goal.returns
returns c =
    let name = codes "fmrun" in
    let steps = option_rule (codes "steps") in
    let words = option_rule (codes "words") in
    let frames = option_rule (codes "frames") in
    let input = option_rule (codes "input") in
    let args = option_rule (codes "args") in
    let make = option_rule (codes "make") in
    let one = with_one_more name [] steps c.command.ensures c.in_ok-arg.ensures c.option.ensures.rule c.option.ensures.local in
    let two = with_one_more name (steps ∷ []) words one c.in_ok-arg-2.ensures c.option-2.ensures.rule c.option-2.ensures.local in
    let three = with_one_more name (steps ∷ words ∷ []) frames two c.in_ok-arg-3.ensures c.option-3.ensures.rule c.option-3.ensures.local in
    let four = with_one_more name (steps ∷ words ∷ frames ∷ []) input three c.in_ok-arg-4.ensures c.option-4.ensures.rule c.option-4.ensures.local in
    let five = with_one_more name (steps ∷ words ∷ frames ∷ input ∷ []) args four c.in_ok-arg-5.ensures c.option-5.ensures.rule c.option-5.ensures.local in
    let six = with_one_more name (steps ∷ words ∷ frames ∷ input ∷ args ∷ []) make five c.in_ok-arg-6.ensures c.option-6.ensures.rule c.option-6.ensures.local in
    let seven = with_one_more name (steps ∷ words ∷ frames ∷ input ∷ args ∷ make ∷ []) class_rule six c.in_ok-arg-7.ensures c.class.ensures.rule c.class.ensures.local in
    let eight = with_one_more name (steps ∷ words ∷ frames ∷ input ∷ args ∷ make ∷ class_rule ∷ []) files_rule seven c.in_ok-command.ensures c.files.ensures.rule c.files.ensures.local in
    is_command (app_of c.in_ok-command.command) eight
