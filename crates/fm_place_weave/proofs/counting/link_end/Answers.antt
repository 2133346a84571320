use Rattle.std.proofs.Common.{arith}
use Rattle.fm_layout.proofs.SizesLemmas.{length-load, length-static, length-store}
use Rattle.fm_place_weave.proofs.counting.link_end.Goals as goal

pub overflow_add-result-2 : goal.overflow_add-result-2
overflow_add-result-2 c =
    let load = length-load c.args.local in
    let store = length-store c.args.local in
    let call = length-static 0 in
    let is = c.local_size.ensures in
    omega (arith, load, store, call, is, c.requires)

pub overflow_add-result-3 : goal.overflow_add-result-3
overflow_add-result-3 c =
    let load = length-load c.args.local in
    let store = length-store c.args.local in
    let call = length-static 0 in
    let is = c.local_size.ensures in
    omega (arith, load, store, call, is, c.requires)

pub overflow_add-result-4 : goal.overflow_add-result-4
overflow_add-result-4 c =
    let load = length-load c.args.local in
    let store = length-store c.args.local in
    let call = length-static 0 in
    let is = c.local_size.ensures in
    let again = c.local_size-2.ensures in
    omega (arith, load, store, call, is, again, c.requires)

pub returns : goal.returns
returns c =
    let load = length-load c.args.local in
    let store = length-store c.args.local in
    let call = length-static 0 in
    let is = c.local_size.ensures in
    let again = c.local_size-2.ensures in
    omega (arith, load, store, call, is, again)
