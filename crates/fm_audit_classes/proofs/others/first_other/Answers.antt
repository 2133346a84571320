use Rattle.std.proofs.Common.{rules, ◌≡◌, sym, subst, false, List}
use Rattle.std.specs.List.{AllByRecursion}
use Rattle.fm_chain.specs.Chaining.{calls_for}
use Rattle.fm_code.specs.AccessFlags.{is_interface}
use Rattle.fm_code.specs.FreeEntries.{with_free}
use Rattle.fm_code.specs.declared.class_file.Member.{Member}
use Rattle.fm_place_weave.specs.ClassByPlan.{IsFull}
use Rattle.fm_audit_classes.proofs.WholeIfLemmas.{first_ok, short_each, whole_full, whole_ok}
use Rattle.fm_audit_classes.specs.inner.Methods.{HasShortCode, MayDoEach}
use Rattle.fm_audit_classes.proofs.others.first_other.Goals as goal

pub first_unplanned-requires-clause-may : goal.first_unplanned-requires-clause-may
first_unplanned-requires-clause-may c =
    let methods : c.deref.result.now ≡ c.args.class.now.methods = search rules in
    subst (λ (l : List Member). MayDoEach c.in-Ok.pool.calls c.args.planned.now l) (sym methods)
    (c.requires.class.each c.in-Ok.pool.calls (record { free = search rules; link = search rules; free_chain = search rules }))

pub first_unplanned-requires-clause-short : goal.first_unplanned-requires-clause-short
first_unplanned-requires-clause-short c =
    let w = c.args.written.now in
    let methods : c.deref-in-Ok.result.now ≡ w.methods = search rules in
    subst (λ (l : List Member). AllByRecursion HasShortCode l) (sym methods)
    (short_each (is_interface w.flags) w.pool.entries w.methods c.requires.written.1.methods)

pub returns-in-Ok-clause-first : goal.returns-in-Ok-clause-first
returns-in-Ok-clause-first c =
    let old_is : c.deref.result.now ≡ c.args.class.now.methods = search rules in
    let new_is : c.deref-in-Ok.result.now ≡ c.args.written.now.methods = search rules in
    first_ok c.in-Ok.pool.calls (calls_for false c.args.class.now.pool.entries) c.in-Ok.ensures.calls c.args.planned.now _ _ old_is _ _ new_is
    c.first_unplanned.result c.first_unplanned.ensures

pub returns-in-Ok-clause-none : goal.returns-in-Ok-clause-none
returns-in-Ok-clause-none c =
    let old_is : c.deref.result.now ≡ c.args.class.now.methods = search rules in
    let new_is : c.deref-in-Ok.result.now ≡ c.args.written.now.methods = search rules in
    whole_ok c.in-Ok.pool.calls c.args.planned.now c.args.class.now c.args.written.now c.requires.class c.requires.written c.in-Ok.ensures.calls _ old_is _ new_is
    c.first_unplanned.result c.first_unplanned.ensures

pub returns-in-Err-Full-clause-none : goal.returns-in-Err-Full-clause-none
returns-in-Err-Full-clause-none c =
    let full = subst (IsFull (with_free c.args.class.now.pool.entries)) c.in-Err-Full.field-0-is c.in-Err-Full.ensures.refused in
    whole_full c.args.planned.now c.args.class.now c.args.written.now c.requires.class c.requires.written full.0
