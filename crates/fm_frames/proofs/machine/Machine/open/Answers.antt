use Rattle.std.proofs.Common.{◌∙◌, ap, map, subst}
use Rattle.fm_base.specs.declared.ids.ClassId.{ClassId}
use Rattle.fm_frames.proofs.OpeningMain.{classes-are, opening-done, opening-ended}
use Rattle.fm_frames.proofs.machine.Machine.open.Goals as goal
use Rattle.fm_frames.specs.Runs.{Job}
use Rattle.fm_frames.specs.inner.Opening.{OpensObjects}

pub returns-in_default : goal.returns-in_default
returns-in_default g c =
    let p = c.args.program.now in
    let job : Job = record { arguments = c.args.args.now; input = c.args.input.now; depth = c.args.frames } in
    opening-ended p g.M.Memory.choose job (g.M.Memory.store c.args.memory) c.in_ok-machine.machine c.open_objects.new.self c.in_ok-machine.ensures
    (subst (OpensObjects p g.M.Memory.choose c.in_ok-machine.machine c.open_objects.new.self c.args.args.now) c.in_default.is c.in_ok-arguments.ensures.told)

pub returns : goal.returns
returns g c =
    let p = c.args.program.now in
    let job : Job = record { arguments = c.args.args.now; input = c.args.input.now; depth = c.args.frames } in
    let store = g.M.Memory.store c.args.memory in
    let classes = map (λ (d : ClassId). d.0) c.deref.result.now in
    opening-done p g.M.Memory.choose job store c.in_ok-machine.machine c.open_objects.new.self c.open_main.new.self c.in-Some.arguments classes
    c.in_ok-machine.ensures
    (subst (OpensObjects p g.M.Memory.choose c.in_ok-machine.machine c.open_objects.new.self c.args.args.now) c.in-Some.is c.in_ok-arguments.ensures.told)
    (classes-are p job store c.in_ok-machine.machine c.main_class.result.0 classes c.in_ok-machine.ensures c.main_class.ensures
    (ap (map (λ (d : ClassId). d.0)) c.deref.ensures.value ∙ c.in_ok-classes.ensures))
    c.in_ok-open_main.ensures
