use Rattle.std.proofs.Common.{arith}
use Rattle.fm_cli_requests.proofs.ProgramTextLemmas.{asked_of_one}
use Rattle.fm_cli_requests.proofs.program_text.ProgramText.asked_by.Goals as goal

pub returns-in-len1 : goal.returns-in-len1
returns-in-len1 c =
    asked_of_one c.args.words.now c.word-item.result c.deref.result.now c.of_word.result (omega (arith, c.in-len1.len_at_least)) (omega (arith, c.in-len1.len_below))
    c.word-item.is c.deref.ensures c.of_word.ensures
