use Rattle.std.proofs.Common.{codes, get_or, refl, ◌∙◌}
use Rattle.std.proofs.lemmas.Option.{slice_get-get_or}
use Rattle.fm_exec_calls.proofs.SelectSteps.{special-entered, special-seen}
use Rattle.fm_exec_calls.proofs.selections.special_target.Goals as goal
use Rattle.fm_exec.proofs.Seen.{carried}
use Rattle.fm_exec.specs.Steps.{seen}
use Rattle.fm_frames.proofs.Refusals.{null-is}
use Rattle.fm_frames.specs.CallRows.{special_effect}
use Rattle.fm_frames.specs.Effects.{stuck}
use Rattle.fm_frames.specs.Operands.{thrown_null}
use Rattle.fm_frames.specs.Steps.{stack_of}
use Rattle.fm_frames.specs.declared.looks.Look.TheVariants as look
use Rattle.fm_world.specs.Numbers.{type_of_class}
use Rattle.fm_world.specs.declared.uses.Use.TheVariants as used

pub returns-in-Other : goal.returns-in-Other
returns-in-Other g c byte =
    let p = c.args.program.now in
    let o = p.outline in
    let x = c.args.machine.now in
    carried p g.M.Memory.choose x c.stuck.new.self (special_effect o c.args.caller.0 (used.OfMethod c.args.m c.args.named) byte (seen p x)) stuck
    (special-seen o x.areas.store (stack_of x) c.args.caller.0 c.args.m c.args.named (get_or o.types c.args.named.0 (type_of_class 0)) byte c.words_of_arguments.result look.Other
    (slice_get-get_or o.types c.args.named.0 (type_of_class 0) c.requires.named) c.words_of_arguments.ensures c.in-Other.ensures)
    (c.stuck.ensures c.requires.can.runnable g.M.Memory.choose)

pub returns-in_ok-throw_new-in-Null : goal.returns-in_ok-throw_new-in-Null
returns-in_ok-throw_new-in-Null g c byte =
    let p = c.args.program.now in
    let o = p.outline in
    let x = c.args.machine.now in
    carried p g.M.Memory.choose x c.throw_new.new.self (special_effect o c.args.caller.0 (used.OfMethod c.args.m c.args.named) byte (seen p x)) (thrown_null o)
    (special-seen o x.areas.store (stack_of x) c.args.caller.0 c.args.m c.args.named (get_or o.types c.args.named.0 (type_of_class 0)) byte c.words_of_arguments.result look.Null
    (slice_get-get_or o.types c.args.named.0 (type_of_class 0) c.requires.named) c.words_of_arguments.ensures c.in-Null.ensures)
    (c.in_ok-throw_new-in-Null.ensures (codes "java/lang/NullPointerException") (null-is p c.requires.can.runnable))

pub returns-in-Gone : goal.returns-in-Gone
returns-in-Gone g c =
    let p = c.args.program.now in
    let o = p.outline in
    let x = c.args.machine.now in
    let t = get_or o.types c.args.named.0 (type_of_class 0) in (
      refl,
      λ byte.
          special-seen o x.areas.store (stack_of x) c.args.caller.0 c.args.m c.args.named t byte c.words_of_arguments.result (look.Gone c.in-Gone.field-0)
          (slice_get-get_or o.types c.args.named.0 (type_of_class 0) c.requires.named) c.words_of_arguments.ensures c.in-Gone.ensures
          ∙ special-entered o c.args.caller.0 c.args.m c.special_method.result t byte (seen p x) c.special_method.ensures,
    )

pub returns-in-Object : goal.returns-in-Object
returns-in-Object g c =
    let p = c.args.program.now in
    let o = p.outline in
    let x = c.args.machine.now in
    let t = get_or o.types c.args.named.0 (type_of_class 0) in (
      refl,
      λ byte.
          special-seen o x.areas.store (stack_of x) c.args.caller.0 c.args.m c.args.named t byte c.words_of_arguments.result (look.Object c.in-Object.field-0 c.in-Object.field-1)
          (slice_get-get_or o.types c.args.named.0 (type_of_class 0) c.requires.named) c.words_of_arguments.ensures c.in-Object.ensures
          ∙ special-entered o c.args.caller.0 c.args.m c.special_method-in-Object.result t byte (seen p x) c.special_method-in-Object.ensures,
    )
