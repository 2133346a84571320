use Rattle.std.proofs.Common.{sym, ◌∙◌, ap, cond, [], ◌∷◌, Some, slice_get}
use Rattle.fm_world.specs.Causes.{NotImplemented, declared_name, method_text, refused}
use Rattle.fm_link_refusals.proofs.MissingNames.{refusal_is}
use Rattle.fm_link_refusals.specs.inner.Abstracts.{left_over_by}
use Rattle.fm_link_refusals.specs.inner.GivenClasses.{class_in}
use Rattle.fm_link_refusals.proofs.not_implemented.refuse_left_over_at.Goals as goal

pub returns-then-not-is_abstract : goal.returns-then-not-is_abstract
returns-then-not-is_abstract c = λ classes linked within inside.
    let class = class_in c.args.file.now in
    let test = sym (c.is_abstract.ensures classes linked) ∙ c.if-not-is_abstract.true in
    ap (λ b. cond b (left_over_by classes class c.args.class c.args.method) []) test

pub returns-then-not-is_left_over : goal.returns-then-not-is_left_over
returns-then-not-is_left_over c = λ classes linked within inside.
    let class = class_in c.args.file.now in
    let test = sym (c.is_abstract.ensures classes linked) ∙ c.if-not-is_abstract.false in
    let left = sym (c.is_left_over.ensures classes linked within inside) ∙ c.if-not-is_left_over.true in
    ap (λ b. cond b (left_over_by classes class c.args.class c.args.method) []) test
    ∙ ap (λ b. cond b (refused NotImplemented class (method_text (declared_name classes c.args.method)) ∷ []) []) left

pub returns : goal.returns
returns c = λ classes linked within inside.
    let class = class_in c.args.file.now in
    let test = sym (c.is_abstract.ensures classes linked) ∙ c.if-not-is_abstract.false in
    let left = sym (c.is_left_over.ensures classes linked within inside) ∙ c.if-not-is_left_over.false in
    let said = c.in_ok-bad_declared.ensures classes linked inside in
    ap (λ xs. slice_get xs 0)
    (ap (λ b. cond b (left_over_by classes class c.args.class c.args.method) []) test
    ∙ ap (λ b. cond b (refused NotImplemented class (method_text (declared_name classes c.args.method)) ∷ []) []) left)
    ∙ ap (λ r. Some r) (refusal_is NotImplemented class
    (method_text (declared_name classes c.args.method)) c.in_ok-bad_declared.field-0 said.0 said.1)
