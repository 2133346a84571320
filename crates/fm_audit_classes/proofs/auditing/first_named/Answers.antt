use Rattle.std.proofs.Common.{◌+◌, ◌-◌, ◌<◌, subst, length, arith}
use Rattle.fm_audit_classes.proofs.FoundLemmas.{classes_judged, named_first, named_same}
use Rattle.fm_audit_classes.specs.inner.Named.{IsOther}
use Rattle.fm_rewrite.proofs.JudgedLemmas.{judged_spelled}
use Rattle.fm_audit_classes.proofs.auditing.first_named.Goals as goal

pub overflow_sub-first : goal.overflow_sub-first
overflow_sub-first c =
    let all = classes_judged c.args.classes.now c.args.program.now c.requires.judged in omega (arith, all, c.classes.ensures)

pub overflow_cast-first : goal.overflow_cast-first
overflow_cast-first c =
    let all = classes_judged c.args.classes.now c.args.program.now c.requires.judged in omega (arith, all, c.classes.ensures, c.classes.type_inv)

pub first_other_class-requires-clause-spelled : goal.first_other_class-requires-clause-spelled
first_other_class-requires-clause-spelled c = judged_spelled c.args.classes.now c.args.program.now c.requires.judged

pub overflow_cast-number : goal.overflow_cast-number
overflow_cast-number c =
    let within : c.in-Some.place < length c.args.classes.now =
    (subst (IsOther c.args.classes.now c.args.written.now) c.in-Some.is c.in_ok-other.ensures).inside in
    let all = classes_judged c.args.classes.now c.args.program.now c.requires.judged in
    omega (arith, within, all, c.classes.ensures, c.classes.type_inv)

pub overflow_add-number : goal.overflow_add-number
overflow_add-number c =
    let within : c.in-Some.place < length c.args.classes.now =
    (subst (IsOther c.args.classes.now c.args.written.now) c.in-Some.is c.in_ok-other.ensures).inside in
    let all = classes_judged c.args.classes.now c.args.program.now c.requires.judged in
    omega (arith, within, all, c.classes.ensures, c.classes.type_inv)

pub returns-in-None : goal.returns-in-None
returns-in-None c =
    named_same c.args.program.now c.args.classes.now c.args.written.now _ c.args.named.1 c.args.named.2
    (subst (IsOther c.args.classes.now c.args.written.now) c.in-None.is c.in_ok-other.ensures) c.requires.named

pub returns-in-Some : goal.returns-in-Some
returns-in-Some c =
    let first = subst (IsOther c.args.classes.now c.args.written.now) c.in-Some.is c.in_ok-other.ensures in
    let all = classes_judged c.args.classes.now c.args.program.now c.requires.judged in
    named_first c.args.program.now c.args.classes.now c.args.written.now c.in-Some.place
    (c.classes.result - length c.args.classes.now + c.in-Some.place) _ _ _ c.other_class.result first c.requires.judged
    (omega (arith, all, c.classes.ensures)) c.requires.named c.other_class.ensures
