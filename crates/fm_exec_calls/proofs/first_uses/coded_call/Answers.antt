use Rattle.std.proofs.Common.{◌<◌, get_or, length, refl, ap, sym, ◌∙◌, subst}
use Rattle.std.proofs.lemmas.Option.{slice_get-get_or}
use Rattle.fm_exec_calls.proofs.first_uses.coded_call.Goals as goal
use Rattle.fm_exec_calls.specs.inner.Starting.{StartsBefore}
use Rattle.fm_exec.proofs.ObjectSteps.{static-coded}
use Rattle.fm_exec.specs.Steps.{seen, Steps}
use Rattle.fm_frames.proofs.Programs.{method-class}
use Rattle.fm_frames.proofs.Throwing.{told-ok}
use Rattle.fm_frames.specs.Effects.{Calls, going}
use Rattle.fm_frames.specs.ObjectRows.{starting}
use Rattle.fm_world.specs.Numbers.{type_of_class}
use Rattle.fm_world.specs.declared.records.MethodInfo.{MethodInfo}

pub start-requires-clause-class : goal.start-requires-clause-class
start-requires-clause-class g c =
    let p = c.args.program.now in
    subst (λ n. n < length p.outline.classes) (sym (ap (λ (i : MethodInfo). i.class.0) c.method.ensures ∙ method-class p c.args.m.0))
    (c.requires.can.runnable.owners c.args.m.0)

pub returns-then-not-branch : goal.returns-then-not-branch
returns-then-not-branch g c byte =
    let p = c.args.program.now in
    let o = p.outline in
    let x = c.args.machine.now in
    let y = c.start.new.machine in
    let e = going c.words_of_arguments-words.result (Calls c.args.m.0) in
    let owner = ap (λ (i : MethodInfo). i.class.0) c.method.ensures ∙ method-class p c.args.m.0 in
    subst (λ e. Steps p g.M.Memory.choose x y e)
    (sym (static-coded o c.args.m c.args.named (get_or o.types c.args.named.0 (type_of_class 0)) c.words_of_arguments-words.result byte (seen p x)
    (slice_get-get_or o.types c.args.named.0 (type_of_class 0) c.requires.named) c.requires.coded c.words_of_arguments-words.ensures))
    (subst (λ n. Steps p g.M.Memory.choose x y (starting n e)) owner
    (subst (StartsBefore p g.M.Memory.choose x y c.method.result.now.class.0 e) c.if-not-branch.true (c.in_ok-start.ensures e tt (λ a l. refl) refl)))

pub call-requires : goal.call-requires
call-requires g c =
    let p = c.args.program.now in
    let o = p.outline in
    let x = c.args.machine.now in
    let y = c.start.new.machine in
    let e = going c.words_of_arguments-words.result (Calls c.args.m.0) in
    let owner = ap (λ (i : MethodInfo). i.class.0) c.method.ensures ∙ method-class p c.args.m.0 in
    let so = subst (StartsBefore p g.M.Memory.choose x y c.method.result.now.class.0 e) c.if-not-branch.false (c.in_ok-start.ensures e tt (λ a l. refl) refl) in
    so.0

pub returns : goal.returns
returns g c byte =
    let p = c.args.program.now in
    let o = p.outline in
    let x = c.args.machine.now in
    let y = c.start.new.machine in
    let e = going c.words_of_arguments-words.result (Calls c.args.m.0) in
    let owner = ap (λ (i : MethodInfo). i.class.0) c.method.ensures ∙ method-class p c.args.m.0 in
    let so = subst (StartsBefore p g.M.Memory.choose x y c.method.result.now.class.0 e) c.if-not-branch.false (c.in_ok-start.ensures e tt (λ a l. refl) refl) in
    told-ok c.call.result _ _
    (λ does.
    subst (λ e. Steps p g.M.Memory.choose x c.call.new.self e)
    (sym (static-coded o c.args.m c.args.named (get_or o.types c.args.named.0 (type_of_class 0)) c.words_of_arguments-words.result byte (seen p x)
    (slice_get-get_or o.types c.args.named.0 (type_of_class 0) c.requires.named) c.requires.coded c.words_of_arguments-words.ensures))
    (subst (λ n. Steps p g.M.Memory.choose x c.call.new.self (starting n e)) owner (so.2 c.call.new.self does)))
    c.call.ensures
