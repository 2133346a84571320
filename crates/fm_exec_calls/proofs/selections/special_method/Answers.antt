use Rattle.std.proofs.Common.{◌<◌, length, ap, sym, ◌∙◌, subst}
use Rattle.std.proofs.lemmas.Option.{get_or_from_slice_get}
use Rattle.fm_exec_calls.proofs.selections.special_method.Goals as goal
use Rattle.fm_frames.proofs.Programs.{method-class}
use Rattle.fm_world.specs.Lookups.{special_target}
use Rattle.fm_world.specs.Numbers.{type_of_class}
use Rattle.fm_world.specs.Programs.{class_of_type}
use Rattle.fm_world.specs.declared.records.MethodInfo.{MethodInfo}

pub special_target-requires-clause-caller : goal.special_target-requires-clause-caller
special_target-requires-clause-caller c =
    let p = c.args.program.now in
    subst (λ n. n < length p.outline.classes)
    (sym (ap (λ (m : MethodInfo). m.class.0) c.method.ensures ∙ method-class p c.args.caller.0))
    (c.requires.runnable.owners c.args.caller.0)

pub returns : goal.returns
returns c =
    let p = c.args.program.now in
    let o = p.outline in
    c.special_target.ensures
    ∙ (λ i. special_target o.classes
    ((ap (λ (m : MethodInfo). m.class.0) c.method.ensures ∙ method-class p c.args.caller.0) i)
    (class_of_type (sym (get_or_from_slice_get o.types c.args.named.0 c.type_of.result (type_of_class 0) c.type_of.ensures) i)) c.args.m.0)
