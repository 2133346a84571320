use Rattle.std.proofs.Common.{◌≡◌, true, false, length, None, Some, refl, ap, rules, subst, ◌∙◌}
use Rattle.std.specs.Prelude.{slice_set}
use Rattle.fm_frames.proofs.OpeningObjects.{ended-array, ended-in, ended-out, objects-opened, objects-stopped, texts_type, told-by}
use Rattle.fm_frames.proofs.machine.Machine.open_objects.Goals as goal
use Rattle.fm_frames.specs.States.{ref, State}
use Rattle.fm_frames.specs.inner.Opening.{OpensArguments}
use Rattle.fm_world.specs.Numbers.{type_of_class}

pub returns-in_default-clause-told : goal.returns-in_default-clause-told
returns-in_default-clause-told g c job is =
    let p = c.args.program.now in
    let x = c.args.self.now in
    ended-out p c.requires.runnable g.M.Memory.choose x job c.args.args.now is c.open_object.new.self
    (told-by p g.M.Memory.choose x c.open_object.new.self c.type_of_class.result (type_of_class 5) 0 true c.in_ok-out.field-0 (None) c.type_of_class.ensures c.in_default.is c.in_ok-out.ensures.told)

pub returns-in_default-2-clause-told : goal.returns-in_default-2-clause-told
returns-in_default-2-clause-told g c job is =
    let p = c.args.program.now in
    let x = c.args.self.now in
    ended-in p c.requires.runnable g.M.Memory.choose x job c.args.args.now is c.open_object.new.self c.open_object-2.new.self c.in-Some.out
    (told-by p g.M.Memory.choose x c.open_object.new.self c.type_of_class.result (type_of_class 5) 0 true c.in_ok-out.field-0 (Some c.in-Some.out) c.type_of_class.ensures c.in-Some.is c.in_ok-out.ensures.told)
    (told-by p g.M.Memory.choose c.open_object.new.self c.open_object-2.new.self c.type_of_class-2.result (type_of_class 6) 0 true c.in_ok-input.field-0 (None) c.type_of_class-2.ensures c.in_default-2.is c.in_ok-input.ensures.told)

pub returns-in_default-3-clause-told : goal.returns-in_default-3-clause-told
returns-in_default-3-clause-told g c job is =
    let p = c.args.program.now in
    let x = c.args.self.now in
    ended-array p c.requires.runnable g.M.Memory.choose x job c.args.args.now is c.open_object.new.self c.open_object-2.new.self c.open_object-3.new.self
    c.in-Some.out c.in-Some-2.input (length c.args.args.now) refl
    (told-by p g.M.Memory.choose x c.open_object.new.self c.type_of_class.result (type_of_class 5) 0 true c.in_ok-out.field-0 (Some c.in-Some.out) c.type_of_class.ensures c.in-Some.is c.in_ok-out.ensures.told)
    (told-by p g.M.Memory.choose c.open_object.new.self c.open_object-2.new.self c.type_of_class-2.result (type_of_class 6) 0 true c.in_ok-input.field-0 (Some c.in-Some-2.input) c.type_of_class-2.ensures c.in-Some-2.is c.in_ok-input.ensures.told)
    (told-by p g.M.Memory.choose c.open_object-2.new.self c.open_object-3.new.self texts_type texts_type (length c.args.args.now) false c.in_ok-arguments.field-0 (None) refl c.in_default-3.is c.in_ok-arguments.ensures.told)

pub returns-then-not-branch-clause-told : goal.returns-then-not-branch-clause-told
returns-then-not-branch-clause-told g c job is =
    let p = c.args.program.now in
    let x = c.args.self.now in
    let stops : c.in_ok-open_arguments.field-0 ≡ false = search rules in
    objects-stopped p c.requires.runnable g.M.Memory.choose x job c.args.args.now is c.open_object.new.self c.open_object-2.new.self c.open_object-3.new.self
    c.open_arguments.new.machine c.in-Some.out c.in-Some-2.input c.in-Some-3.arguments (length c.args.args.now) refl
    (told-by p g.M.Memory.choose x c.open_object.new.self c.type_of_class.result (type_of_class 5) 0 true c.in_ok-out.field-0 (Some c.in-Some.out) c.type_of_class.ensures c.in-Some.is c.in_ok-out.ensures.told)
    (told-by p g.M.Memory.choose c.open_object.new.self c.open_object-2.new.self c.type_of_class-2.result (type_of_class 6) 0 true c.in_ok-input.field-0 (Some c.in-Some-2.input) c.type_of_class-2.ensures c.in-Some-2.is c.in_ok-input.ensures.told)
    (told-by p g.M.Memory.choose c.open_object-2.new.self c.open_object-3.new.self texts_type texts_type (length c.args.args.now) false c.in_ok-arguments.field-0 (Some c.in-Some-3.arguments) refl c.in-Some-3.is c.in_ok-arguments.ensures.told)
    (subst (OpensArguments p g.M.Memory.choose c.open_object-3.new.self c.open_arguments.new.machine c.in-Some-3.arguments.0 c.args.args.now) stops
    c.in_ok-open_arguments.ensures.told)

pub returns-clause-told : goal.returns-clause-told
returns-clause-told g c job is =
    let p = c.args.program.now in
    let x = c.args.self.now in
    let goes : c.in_ok-open_arguments.field-0 ≡ true = search rules in
    objects-opened p c.requires.runnable g.M.Memory.choose x job c.args.args.now is c.open_object.new.self c.open_object-2.new.self c.open_object-3.new.self
    c.open_arguments.new.machine c.set_reference-2.new.self c.in-Some.out c.in-Some-2.input c.in-Some-3.arguments (length c.args.args.now) refl
    (told-by p g.M.Memory.choose x c.open_object.new.self c.type_of_class.result (type_of_class 5) 0 true c.in_ok-out.field-0 (Some c.in-Some.out) c.type_of_class.ensures c.in-Some.is c.in_ok-out.ensures.told)
    (told-by p g.M.Memory.choose c.open_object.new.self c.open_object-2.new.self c.type_of_class-2.result (type_of_class 6) 0 true c.in_ok-input.field-0 (Some c.in-Some-2.input) c.type_of_class-2.ensures c.in-Some-2.is c.in_ok-input.ensures.told)
    (told-by p g.M.Memory.choose c.open_object-2.new.self c.open_object-3.new.self texts_type texts_type (length c.args.args.now) false c.in_ok-arguments.field-0 (Some c.in-Some-3.arguments) refl c.in-Some-3.is c.in_ok-arguments.ensures.told)
    (subst (OpensArguments p g.M.Memory.choose c.open_object-3.new.self c.open_arguments.new.machine c.in-Some-3.arguments.0 c.args.args.now) goes
    c.in_ok-open_arguments.ensures.told)
    (c.set_reference-2.ensures
    ∙ ap (λ (w : State). record w { areas = record w.areas { statics = slice_set w.areas.statics 1 (ref c.in-Some-2.input.0) } }) c.set_reference.ensures)
