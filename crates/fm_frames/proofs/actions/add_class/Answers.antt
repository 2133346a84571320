use Rattle.std.proofs.Common.{◌+◌, map, arith}
use Rattle.fm_frames.proofs.StartActions.{class_begun, class_done, class_outside, first_rises}
use Rattle.fm_frames.proofs.Throwing.{told-ok}
use Rattle.fm_frames.proofs.ClassStarts.{first_inside}
use Rattle.fm_frames.proofs.actions.add_class.Goals as goal
use Rattle.fm_frames.specs.inner.StartActions.{action_of}

pub returns-then-class-classes : goal.returns-then-class-classes
returns-then-class-classes c =
    class_outside c.args.program.now.outline c.args.class c.args.actions.now.items c.push.new.self.items (omega (arith, c.if-class-classes.true, c.classes.ensures))
    c.in_ok-push.ensures.items

pub add_fields-requires-clause-in_order : goal.add_fields-requires-clause-in_order
add_fields-requires-clause-in_order c =
    first_rises c.args.program.now.outline.classes c.args.class.0 c.first_field-first.result c.first_field-end.result
    (omega (arith, c.if-class-classes.false, c.classes.ensures)) c.first_field-first.ensures c.first_field-end.ensures

pub add_fields-requires-clause-inside : goal.add_fields-requires-clause-inside
add_fields-requires-clause-inside c =
    let few = first_inside c.args.program.now.outline.classes (c.args.class.0 + 1) in omega (arith, few, c.first_field-end.ensures)

pub returns : goal.returns
returns c =
    told-ok c.add_fields.result _ _
    (λ done.
    class_done c.args.program.now.outline c.args.class c.first_field-first.result c.first_field-end.result (map action_of c.args.actions.now.items)
    (map action_of c.push.new.self.items) (map action_of c.add_fields.new.actions.items) (omega (arith, c.if-class-classes.false, c.classes.ensures))
    c.first_field-first.ensures c.first_field-end.ensures
    (class_begun c.args.class c.args.actions.now.items c.push.new.self.items c.in_ok-push.ensures.items) done)
    c.add_fields.ensures
