use Rattle.std.proofs.Common.{◌≤◌, length, ap, arith}
use Rattle.std.proofs.lemmas.Bool.{false≢true}
use Rattle.fm_read.proofs.ItemLaws.{takes_not_counted}
use Rattle.fm_read.proofs.operands.has_interface_method.Goals as goal

pub returns-in_default : goal.returns-in_default
returns-in_default c =
    let size = ap length c.as_slice.ensures in
    let short : length c.args.item.now.bytes ≤ 3 = omega arith in
    (λ no. absurd (false≢true no), λ takes. absurd (takes_not_counted c.args.known.now.entries c.args.item.now c.args.index short takes))
