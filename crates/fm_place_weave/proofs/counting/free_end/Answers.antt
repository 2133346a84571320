use Rattle.std.proofs.Common.{arith}
use Rattle.fm_layout.proofs.SizesLemmas.{length-load, length-static}
use Rattle.fm_place_weave.proofs.counting.free_end.Goals as goal

pub overflow_add-end-2 : goal.overflow_add-end-2
overflow_add-end-2 c =
    let load = length-load c.args.local in
    let call = length-static 0 in
    let is = c.local_size.ensures in
    omega (arith, load, call, is, c.requires)

pub null_end-requires : goal.null_end-requires
null_end-requires c =
    let load = length-load c.args.local in
    let call = length-static 0 in
    let is = c.local_size.ensures in
    omega (arith, load, call, is, c.requires)

pub returns : goal.returns
returns c =
    let load = length-load c.args.local in
    let call = length-static 0 in
    let is = c.local_size.ensures in
    let all = c.null_end.ensures in
    omega (arith, load, call, is, all)
