use Rattle.std.proofs.Common.{arith}
use Rattle.fm_write.proofs.OffsetsLemmas.{offset_in-item, offset_in-past}
use Rattle.fm_write.proofs.tables.offset_at.Goals as goal

pub overflow_cast-result : goal.overflow_cast-result
overflow_cast-result c =
    let code = c.args.code.now in
    let found = c.in-Some.ensures in
    let at = offset_in-item code.items code.length c.args.index c.in-Some.item.now found.3.0 found.1 in
    let fits = c.requires.each c.args.index in
    omega arith

pub overflow_cast-result-in-None : goal.overflow_cast-result-in-None
overflow_cast-result-in-None c =
    let code = c.args.code.now in
    let at = offset_in-past code.items code.length c.args.index c.in-None.ensures.3 in
    let fits = c.requires.each c.args.index in
    omega arith

pub returns-in-Some : goal.returns-in-Some
returns-in-Some c =
    let code = c.args.code.now in
    let found = c.in-Some.ensures in
    offset_in-item code.items code.length c.args.index c.in-Some.item.now found.3.0 found.1

pub returns-in-None : goal.returns-in-None
returns-in-None c =
    let code = c.args.code.now in
    offset_in-past code.items code.length c.args.index c.in-None.ensures.3
