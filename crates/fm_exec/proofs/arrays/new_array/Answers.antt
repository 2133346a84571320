use Rattle.std.proofs.Common.{◌≡◌, Some, None, rules, sym, subst}
use Rattle.fm_exec.proofs.ArraySteps.{new_array-is}
use Rattle.fm_exec.proofs.Seen.{carried}
use Rattle.fm_exec.proofs.arrays.new_array.Goals as goal
use Rattle.fm_exec.specs.Steps.{seen, Steps}
use Rattle.fm_frames.proofs.Throwing.{told-ok}
use Rattle.fm_frames.specs.ArrayRows.{new_array_effect}
use Rattle.fm_frames.specs.Effects.{stuck}
use Rattle.fm_world.specs.Uses.{base_of_elem}

pub returns-in-Some : goal.returns-in-Some
returns-in-Some g c =
    let p = c.args.program.now in
    let x = c.args.machine.now in
    let told : base_of_elem c.args.e ≡ Some c.in-Some.base = search rules in
    told-ok c.make_array.result _ _
    (subst (λ e. Steps p g.M.Memory.choose x c.make_array.new.machine e)
    (sym (new_array-is p.outline c.args.e (Some c.in-Some.base) (seen p x) told)))
    c.make_array.ensures

pub returns-in-None : goal.returns-in-None
returns-in-None g c =
    let p = c.args.program.now in
    let x = c.args.machine.now in
    let told : base_of_elem c.args.e ≡ None = search rules in
    carried p g.M.Memory.choose x c.stuck.new.self (new_array_effect p.outline c.args.e (seen p x)) stuck
    (new_array-is p.outline c.args.e None (seen p x) told) (c.stuck.ensures c.requires.runnable g.M.Memory.choose)
