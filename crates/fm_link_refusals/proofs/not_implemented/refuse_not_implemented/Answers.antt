use Rattle.std.proofs.Common.{◌≡◌, ◌∙◌, ap, subst, ◌+◌, [], length, arith}
use Rattle.std.proofs.lemmas.Result.{err_from_is_err_and}
use Rattle.fm_link_names.specs.inner.Numbering.{texts_in}
use Rattle.fm_world.specs.BuiltIns.{built_in}
use Rattle.fm_world.specs.Causes.{each_from, not_implemented}
use Rattle.fm_world.specs.Linking.{refused_not_implemented}
use Rattle.fm_world.specs.Programs.{classes_of}
use Rattle.fm_link_refusals.proofs.FirstRefusals.{file_here, numbered_here}
use Rattle.fm_link_refusals.proofs.LeftOver.{class_within, each_end, each_first, each_none, self_within}
use Rattle.fm_link_refusals.specs.Refused.{refusal_of, IsFirst}
use Rattle.fm_link_refusals.specs.inner.GivenClasses.{class_in, given_in}
use Rattle.fm_link_refusals.proofs.not_implemented.refuse_not_implemented.Goals as goal

pub loop-file-init : goal.loop-file-init
unfolding refused_not_implemented
loop-file-init c =
    let given = given_in c.args.files.now in
    let e : length built_in ≡ length built_in + 0 = omega arith in
    record {
      left = λ linked. ap (λ n. each_from n (not_implemented (classes_of given)) given) e;
    }

pub refuse_in_class-requires : goal.refuse_in_class-requires
refuse_in_class-requires c =
    numbered_here (texts_in c.args.linking.texts.now) c.args.files.now c.loop-file.file-index c.file-item.result c.requires c.loop-file-test.true
    c.file-item.is

pub returns-in_err-refuse_in_class : goal.returns-in_err-refuse_in_class
returns-in_err-refuse_in_class c = λ linked.
    let given = given_in c.args.files.now in
    let classes = classes_of given in
    let here = file_here (texts_in c.args.linking.texts.now) c.args.files.now c.loop-file.file-index c.file-item.result c.requires
    c.loop-file-test.true c.file-item.is in
    let number : c.in_ok-class.class ≡ length built_in + c.loop-file.file-index = c.in_ok-class.ensures
    ∙ ap (λ n. length built_in + n) here.number_is in
    let within = class_within c.args.files.now c.loop-file.file-index c.in_ok-class.class number c.loop-file-test.true in
    let p = err_from_is_err_and c.from_residual-in_err-refuse_in_class.result c.from_residual-in_err-refuse_in_class.ensures.1 in
    let first = refusal_of c.in_err-refuse_in_class.field-0.0 in
    rw (p.1, p.2)
    (each_first (length built_in) (not_implemented classes) c.args.files.now c.loop-file.file-index c.file-item.result
    (refused_not_implemented given) first
    c.loop-file-test.true c.file-item.is
    (subst (λ n. IsFirst (not_implemented classes (class_in c.file-item.result) n) first) number
    (c.in_err-refuse_in_class.ensures classes linked within (self_within given c.in_ok-class.class within) (c.in_ok-found.ensures.counts classes linked)))
    (c.loop-file.invariant.left linked))

pub loop-file-preserved : goal.loop-file-preserved
loop-file-preserved c =
    let given = given_in c.args.files.now in
    let classes = classes_of given in
    let here = file_here (texts_in c.args.linking.texts.now) c.args.files.now c.loop-file.file-index c.file-item.result c.requires
    c.loop-file-test.true c.file-item.is in
    let number : c.in_ok-class.class ≡ length built_in + c.loop-file.file-index = c.in_ok-class.ensures
    ∙ ap (λ n. length built_in + n) here.number_is in
    let within = class_within c.args.files.now c.loop-file.file-index c.in_ok-class.class number c.loop-file-test.true in
    record {
      left = λ linked.
          each_none (length built_in) (not_implemented classes) c.args.files.now c.loop-file.file-index c.file-item.result
          (refused_not_implemented given) c.loop-file-test.true
          c.file-item.is
          (subst (λ n. not_implemented classes (class_in c.file-item.result) n ≡ []) number
          (c.in_ok-refuse_in_class.ensures classes linked within (self_within given c.in_ok-class.class within) (c.in_ok-found.ensures.counts classes linked)))
          (c.loop-file.invariant.left linked);
    }

pub returns : goal.returns
returns c = λ linked.
    let given = given_in c.args.files.now in
    each_end (length built_in) (not_implemented (classes_of given)) c.args.files.now c.loop-file.file-index
    (refused_not_implemented given) c.loop-file-test.false (c.loop-file.invariant.left linked)
