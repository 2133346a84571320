use Rattle.std.proofs.Common.{◌≡◌, Some, None, rules, sym, subst}
use Rattle.fm_exec.proofs.ArraySteps.{new_references-is}
use Rattle.fm_exec.proofs.Seen.{carried}
use Rattle.fm_exec.proofs.arrays.new_references.Goals as goal
use Rattle.fm_exec.specs.Steps.{seen, Steps}
use Rattle.fm_frames.proofs.Throwing.{told-ok}
use Rattle.fm_frames.specs.ArrayRows.{new_references_effect}
use Rattle.fm_frames.specs.Effects.{stuck}
use Rattle.fm_world.specs.Uses.{array_of}
use Rattle.fm_world.specs.declared.uses.Use.TheVariants as used

pub returns-in-Some : goal.returns-in-Some
returns-in-Some g c =
    let p = c.args.program.now in
    let x = c.args.machine.now in
    let told : array_of c.type_of-named.result ≡ Some c.in-Some.array = search rules in
    told-ok c.make_array.result _ _
    (subst (λ e. Steps p g.M.Memory.choose x c.make_array.new.machine e)
    (sym (new_references-is p.outline c.args.t c.type_of-named.result (Some c.in-Some.array) (seen p x) c.type_of-named.ensures told)))
    c.make_array.ensures

pub returns-in-None : goal.returns-in-None
returns-in-None g c =
    let p = c.args.program.now in
    let x = c.args.machine.now in
    let told : array_of c.type_of-named.result ≡ None = search rules in
    carried p g.M.Memory.choose x c.stuck.new.self (new_references_effect p.outline (used.OfType c.args.t) (seen p x)) stuck
    (new_references-is p.outline c.args.t c.type_of-named.result None (seen p x) c.type_of-named.ensures told)
    (c.stuck.ensures c.requires.can.runnable g.M.Memory.choose)
