use Rattle.std.proofs.Common.{◌≡◌, ℕ, ◌-◌, ◌+◌, sym, ◌∙◌, ap, subst, List, drop, length, arith, OnOk}
use Rattle.std.specs.Prelude.{IfErr}
use Rattle.std.proofs.lemmas.List.{length-drop}
use Rattle.fm_audit_classes.proofs.FoundLemmas.{classes_judged, found_within_err, methods_judged}
use Rattle.fm_audit_classes.specs.inner.Compared.{MayBeComparedEach}
use Rattle.fm_audit_classes.specs.inner.Methods.{NamesFirst, NamesPart}
use Rattle.fm_audit.specs.declared.parts.Part.{Part}
use Rattle.fm_audit_classes.specs.inner.Named.{AreStill}
use Rattle.fm_audit_classes.specs.inner.Found.{AreWhollyWritten, IsFalseOf}
use Rattle.fm_place.specs.Rewriting.{first_given}
use Rattle.fm_place_weave.specs.declared.planned.Planned.{Planned}
use Rattle.fm_rewrite.specs.inner.ByPlans.{classes_by, method_count}
use Rattle.fm_world.specs.BuiltIns.{built_in}
use Rattle.fm_world.specs.Members.{methods_of}
use Rattle.fm_audit_classes.proofs.auditing.are_written_by.Goals as goal

pub overflow_cast-first_class : goal.overflow_cast-first_class
overflow_cast-first_class c =
    let all = classes_judged c.args.classes.now c.args.program.now c.requires.judged in
    omega (arith, all, c.classes.ensures, c.classes.type_inv)

pub overflow_sub-first_class : goal.overflow_sub-first_class
overflow_sub-first_class c =
    let all = classes_judged c.args.classes.now c.args.program.now c.requires.judged in
    omega (arith, all, c.classes.ensures)

pub overflow_cast-first_method : goal.overflow_cast-first_method
overflow_cast-first_method c =
    let all = methods_judged c.args.classes.now c.args.program.now c.requires.judged in
    omega (arith, all, c.methods.ensures, c.methods.type_inv, c.requires.count)

pub overflow_sub-first_method : goal.overflow_sub-first_method
overflow_sub-first_method c =
    let all = methods_judged c.args.classes.now c.args.program.now c.requires.judged in
    omega (arith, all, c.methods.ensures, c.requires.count)

pub split_at-requires : goal.split_at-requires
split_at-requires c =
    let all = methods_judged c.args.classes.now c.args.program.now c.requires.judged in
    let lent = ap length c.as_slice.ensures.value in
    omega (arith, all, lent, c.methods.ensures, c.requires.count, c.requires.own)

pub are_written-requires-clause-one_each : goal.are_written-requires-clause-one_each
are_written-requires-clause-one_each c =
    let done = c.args.found.now.planned.items in
    let all = methods_judged c.args.classes.now c.args.program.now c.requires.judged in
    let first : c.methods.result - c.args.count ≡ first_given = omega (arith, all, c.methods.ensures, c.requires.count) in
    ap length c.split_at.ensures.back ∙ (λ k. length (drop (first k) (c.as_slice.ensures.value k)))
    ∙ (let left = length-drop first_given done in omega (arith, left, c.requires.own))

pub are_written-requires-clause-classes : goal.are_written-requires-clause-classes
are_written-requires-clause-classes c =
    let all = methods_judged c.args.classes.now c.args.program.now c.requires.judged in
    let first : c.methods.result - c.args.count ≡ first_given = omega (arith, all, c.methods.ensures, c.requires.count) in
    subst (λ (ds : List Planned). MayBeComparedEach ds c.args.classes.now)
    (sym (c.split_at.ensures.back ∙ (λ k. drop (first k) (c.as_slice.ensures.value k)))) c.requires.planned

pub are_written-requires-clause-still : goal.are_written-requires-clause-still
are_written-requires-clause-still c =
    let all = methods_judged c.args.classes.now c.args.program.now c.requires.judged in
    let first : c.methods.result - c.args.count ≡ first_given = omega (arith, all, c.methods.ensures, c.requires.count) in
    subst (λ (ds : List Planned). AreStill ds c.args.classes.now c.args.written.now)
    (sym (c.split_at.ensures.back ∙ (λ k. drop (first k) (c.as_slice.ensures.value k)))) c.requires.still

pub are_written-requires-clause-class_numbers : goal.are_written-requires-clause-class_numbers
are_written-requires-clause-class_numbers c =
    let all = classes_judged c.args.classes.now c.args.program.now c.requires.judged in
    omega (arith, all, c.classes.ensures, c.classes.type_inv)

pub are_written-requires-clause-method_numbers : goal.are_written-requires-clause-method_numbers
are_written-requires-clause-method_numbers c =
    let all = methods_judged c.args.classes.now c.args.program.now c.requires.judged in
    omega (arith, all, c.methods.ensures, c.methods.type_inv, c.requires.count)

pub returns-clause-same : goal.returns-clause-same
returns-clause-same c =
    let all = methods_judged c.args.classes.now c.args.program.now c.requires.judged in
    let first : c.methods.result - c.args.count ≡ first_given = omega (arith, all, c.methods.ensures, c.requires.count) in
    subst (λ (ds : List Planned). OnOk c.are_written.result (c.args.written.now ≡ classes_by ds c.args.classes.now))
    (c.split_at.ensures.back ∙ (λ k. drop (first k) (c.as_slice.ensures.value k))) c.are_written.ensures.same

pub returns-clause-found : goal.returns-clause-found
returns-clause-found c =
    let p = c.args.program.now in
    let classes = classes_judged c.args.classes.now p c.requires.judged in
    let methods = methods_judged c.args.classes.now p c.requires.judged in
    found_within_err (c.classes.result - length c.args.classes.now + length c.args.classes.now) (length p.outline.classes)
    (c.methods.result - c.args.count + method_count c.args.classes.now) (length (methods_of p.outline.classes)) c.are_written.result
    (omega (arith, classes, c.classes.ensures)) (omega (arith, methods, c.methods.ensures, c.requires.count)) c.are_written.ensures.found

pub returns-clause-whole : goal.returns-clause-whole
returns-clause-whole c =
    let all = methods_judged c.args.classes.now c.args.program.now c.requires.judged in
    let first : c.methods.result - c.args.count ≡ first_given = omega (arith, all, c.methods.ensures, c.requires.count) in
    subst (λ (ds : List Planned). IfErr c.are_written.result (IsFalseOf (AreWhollyWritten ds c.args.classes.now c.args.written.now)))
    (c.split_at.ensures.back ∙ (λ k. drop (first k) (c.as_slice.ensures.value k))) c.are_written.ensures.whole

pub returns-clause-first : goal.returns-clause-first
returns-clause-first c =
    let p = c.args.program.now in
    let classes = classes_judged c.args.classes.now p c.requires.judged in
    let methods = methods_judged c.args.classes.now p c.requires.judged in
    let first_class : c.classes.result - length c.args.classes.now ≡ length built_in = omega (arith, classes, c.classes.ensures) in
    let first_method : c.methods.result - c.args.count ≡ first_given = omega (arith, methods, c.methods.ensures, c.requires.count) in
    let own = c.split_at.ensures.back ∙ (λ k. drop (first_method k) (c.as_slice.ensures.value k)) in
    subst (λ (q : (ℕ × ℕ) × List Planned). IfErr c.are_written.result (NamesFirst q.0.0 q.0.1 q.1 c.args.classes.now c.args.written.now))
    (λ k. ((first_class k, first_method k), own k)) c.are_written.ensures.first

pub returns-clause-part : goal.returns-clause-part
returns-clause-part c =
    subst (λ (failing : List Part). IfErr c.are_written.result (NamesPart failing)) c.as_slice-failing.ensures.value c.are_written.ensures.part
