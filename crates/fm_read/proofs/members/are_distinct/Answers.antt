use Rattle.std.proofs.Common.{◌↔◌, IsTrue, rules}
use Rattle.std.proofs.lemmas.Result.{IfOk-weaker}
use Rattle.fm_code.specs.Members.{AreDistinct}
use Rattle.fm_pool_texts.specs.TextNumbers.{AreKeysDistinct, NumbersTexts}
use Rattle.fm_pool_texts.proofs.KeysInTurn.{distinct_by_texts}
use Rattle.fm_read.proofs.members.are_distinct.Goals as goal

pub returns : goal.returns
returns c =
    let entries = c.args.known.now.entries in
    let numbers = c.in_ok-numbers.numbers in
    let members = c.args.members.now in
    let tells : NumbersTexts entries numbers = search rules in
    let same = distinct_by_texts entries numbers tells members in
    IfOk-weaker c.are_distinct.result (λ distinct. IsTrue distinct ↔ AreKeysDistinct numbers members) (λ distinct. IsTrue distinct ↔ AreDistinct entries members)
    (λ distinct h. (λ t. same.0 (h.0 t), λ d. h.1 (same.1 d))) c.are_distinct.ensures
