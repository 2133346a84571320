use Rattle.std.proofs.Common.{◌≡◌, codes, [], Some, None, rules}
use Rattle.fm_exec.proofs.ArraySteps.{count-made, count-refused, counted, len_of}
use Rattle.fm_exec.proofs.Exceptions.{negative-is}
use Rattle.fm_exec.proofs.PlainSteps.{stuck-int, with-int}
use Rattle.fm_exec.proofs.arrays.make_array.Goals as goal
use Rattle.fm_frames.proofs.Throwing.{told-ok}
use Rattle.fm_frames.specs.ArrayRows.{thrown_negative}
use Rattle.fm_frames.specs.Effects.{Make, making}

pub returns-in_default : goal.returns-in_default
returns-in_default g c =
    stuck-int c.args.program.now g.M.Memory.choose c.args.machine.now c.stuck.new.self 0 (counted c.args.program.now.outline c.args.t) c.in_default.ensures
    (c.stuck.ensures c.requires.runnable g.M.Memory.choose)

pub returns-in-Some-len_of : goal.returns-in-Some-len_of
returns-in-Some-len_of g c =
    let p = c.args.program.now in
    let told : len_of c.in-Some.count ≡ Some c.in-Some-len_of.len = search rules in
    told-ok c.make.result _ _
    (with-int p g.M.Memory.choose c.args.machine.now c.make.new.self 0 c.in-Some.count (counted p.outline c.args.t) (making 1 (Make c.args.t c.in-Some-len_of.len []))
    c.in-Some.ensures (count-made p.outline c.args.t c.in-Some.count c.in-Some-len_of.len told))
    c.make.ensures

pub returns-in-None : goal.returns-in-None
returns-in-None g c =
    let p = c.args.program.now in
    let told : len_of c.in-Some.count ≡ None = search rules in
    told-ok c.throw_new.result _ _
    (λ thrown.
    with-int p g.M.Memory.choose c.args.machine.now c.throw_new.new.self 0 c.in-Some.count (counted p.outline c.args.t) (thrown_negative p.outline)
    c.in-Some.ensures (count-refused p.outline c.args.t c.in-Some.count told)
    (thrown (codes "java/lang/NegativeArraySizeException") (negative-is p c.requires.runnable)))
    c.throw_new.ensures
