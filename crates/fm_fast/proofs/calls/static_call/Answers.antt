use Rattle.std.proofs.Common.{◌<◌, get_or, length, ap, sym, ◌∙◌, subst, rules}
use Rattle.std.proofs.lemmas.Option.{slice_get-get_or}
use Rattle.fm_fast.proofs.EntrySteps.{none-starts, static-over}
use Rattle.fm_fast.proofs.calls.static_call.Goals as goal
use Rattle.fm_frames.proofs.Programs.{method-class}
use Rattle.fm_world.specs.Numbers.{type_of_class}
use Rattle.fm_world.specs.declared.records.MethodInfo.{MethodInfo}

pub display-requires : goal.display-requires
display-requires g c =
    let p = c.args.program.now in
    subst (λ n. n < length p.outline.classes) (sym (ap (λ (i : MethodInfo). i.class.0) c.method.ensures ∙ method-class p c.args.m.0))
    (c.requires.runnable.owners c.args.m.0)

pub returns-clause-did : goal.returns-clause-did
returns-clause-did g c told named inside byte steps =
    let p = c.args.program.now in
    let o = p.outline in
    let x = c.args.machine.now in
    let class = c.method.result.now.class.0 in
    let owner = ap (λ (i : MethodInfo). i.class.0) c.method.ensures ∙ method-class p c.args.m.0 in
    static-over p g.M.Memory.choose x c.args.frames.now c.enter.new.frames c.args.words c.args.m named
    (get_or o.types named.0 (type_of_class 0)) class steps byte (c.enter.ensures.did told) c.requires.words
    (slice_get-get_or o.types named.0 (type_of_class 0) inside) owner
    (none-starts o x.areas.started class c.display.result.now c.display.ensures.value
    (c.are_started.ensures (search rules)))
