use Rattle.std.proofs.Common.{◌≡◌, ◌<◌, [], ◌∷◌, true, map, subst, rules}
use Rattle.fm_base.specs.declared.ids.ClassId.{ClassId}
use Rattle.fm_frames.proofs.OpeningMain.{main-begun}
use Rattle.fm_frames.proofs.Throwing.{told-ok}
use Rattle.fm_frames.proofs.machine.Machine.open_main.Goals as goal
use Rattle.fm_frames.specs.States.{ref, State}
use Rattle.fm_frames.specs.Steps.{max_locals_of}
use Rattle.fm_frames.specs.inner.Frames.{main_frame}
use Rattle.fm_frames.specs.inner.Opening.{OpensAll}
use Rattle.fm_frames.specs.inner.StartActions.{action_of}

pub returns : goal.returns
returns g c =
    let p = c.args.program.now in
    let x = c.args.self.now in
    let y : State = c.open_starts.new.machine in
    let classes = map (λ (d : ClassId). d.0) c.args.classes.now in
    let actions = c.in_ok-actions.actions.items in
    let max_locals = c.max_locals_of-max_locals.result in
    let goes : c.in_ok-open_starts.field-0 ≡ true = search rules in
    let told : OpensAll p g.M.Memory.choose x y (map action_of actions) true =
    subst (λ went. OpensAll p g.M.Memory.choose x y (map action_of actions) went) goes
    (subst (λ items. OpensAll p g.M.Memory.choose x y (map action_of items) c.in_ok-open_starts.field-0) c.deref.ensures.value c.in_ok-open_starts.ensures) in
    let deep : c.start_count.result < y.depth = search rules in
    let locals : max_locals ≡ max_locals_of p p.outline.main = search rules in
    let begun : c.set_frames.new.self ≡ record y { frames = main_frame p.outline.main max_locals (ref c.args.arguments.0) ∷ [] } = search rules in
    told-ok c.enter_starts.result _ _
    (λ is.
    main-begun p g.M.Memory.choose x y classes actions c.args.arguments.0 c.in_ok-actions.ensures told c.start_count.result c.start_count.ensures deep
    max_locals locals c.set_frames.new.self c.enter_starts.new.machine begun is)
    c.enter_starts.ensures
