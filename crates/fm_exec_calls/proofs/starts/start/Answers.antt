use Rattle.std.proofs.Common.{◌≡◌, length, map, ap, ◌∙◌, subst, arith}
use Rattle.std.proofs.lemmas.Result.{IfOk-weaker}
use Rattle.fm_base.specs.declared.ids.ClassId.{ClassId}
use Rattle.fm_exec_calls.proofs.StartSteps.{prepared-before, start-suits}
use Rattle.fm_exec_calls.proofs.starts.start.Goals as goal
use Rattle.fm_exec_calls.specs.inner.Starting.{Prepared}
use Rattle.fm_frames.specs.Starts.{start_actions, start_methods, to_start}

pub enter-requires-clause-suit : goal.enter-requires-clause-suit
enter-requires-clause-suit g c = start-suits c.args.program.now (length c.args.machine.now.areas.literals) _ c.requires.suit

pub prepare-requires-clause-suit : goal.prepare-requires-clause-suit
prepare-requires-clause-suit g c = start-suits c.args.program.now (length c.args.machine.now.areas.literals) _ c.requires.suit

pub returns : goal.returns
returns g c =
    let p = c.args.program.now in
    let o = p.outline in
    let x = c.args.machine.now in
    let is : map (λ (k : ClassId). k.0) c.as_slice-listed.result.now ≡ to_start o x.areas.started c.args.class.0 =
    ap (map (λ (k : ClassId). k.0)) c.as_slice-listed.ensures.value ∙ c.in_ok-classes.ensures in
    let counted : c.start_count-methods.result ≡ length (start_methods o (to_start o x.areas.started c.args.class.0)) =
    c.start_count-methods.ensures ∙ ap (λ l. length (start_methods o l)) is in
    IfOk-weaker c.prepare.result _ _
    (λ goes so f plain has next.
    prepared-before p g.M.Memory.choose x c.prepare.new.machine c.args.class.0 f goes (omega (arith, counted, c.if-methods-gt0.false))
    (subst (λ l. Prepared p g.M.Memory.choose x c.prepare.new.machine (start_actions o l) f goes) is (so f plain has next)))
    c.prepare.ensures
