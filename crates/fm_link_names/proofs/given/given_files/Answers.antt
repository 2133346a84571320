use Rattle.std.proofs.Common.{◌≡◌, sym, ◌∙◌, ap, subst, ℕ, List, [], ◌∷◌, ◌++◌, length, take, None, arith}
use Rattle.std.specs.List.{slice_index_or}
use Rattle.std.proofs.lemmas.List.{take_all, take_more}
use Rattle.fm_code.specs.ConstantPool.{utf8_at}
use Rattle.fm_code.specs.declared.constant_pool.Entry.{Entry}
use Rattle.fm_code.specs.declared.class_file.ClassDef.{ClassDef}
use Rattle.fm_link_names.proofs.FileLemmas.{AreFilesSoFar, extends_through, file_pushed, no_files_yet}
use Rattle.fm_link_names.specs.declared.given.GivenFile.{GivenFile}
use Rattle.fm_link_names.specs.inner.Numbering.{IsNumberOf, texts_in}
use Rattle.fm_link_names.proofs.given.given_files.Goals as goal

pub loop-class-init : goal.loop-class-init
loop-class-init c =
    let P : List GivenFile → Type 0 = λ fs. AreFilesSoFar c.args.texts.now c.args.texts.now [] fs in
    subst P (sym c.new-files.ensures.items) (no_files_yet c.args.texts.now c.requires)

pub add_pool-requires : goal.add_pool-requires
add_pool-requires c = c.loop-class.invariant.are

pub returns-in_err-numbers-clause-extends : goal.returns-in_err-numbers-clause-extends
returns-in_err-numbers-clause-extends c =
    extends_through (texts_in c.args.texts.now) (texts_in c.loop-class.texts)
    (texts_in c.add_pool.new.self) c.loop-class.invariant.extends c.add_pool.ensures.extends

pub returns-in_err-number_of-clause-extends : goal.returns-in_err-number_of-clause-extends
returns-in_err-number_of-clause-extends c =
    extends_through (texts_in c.args.texts.now) (texts_in c.loop-class.texts)
    (texts_in c.add_pool.new.self) c.loop-class.invariant.extends c.add_pool.ensures.extends

pub returns-in_err-push-clause-extends : goal.returns-in_err-push-clause-extends
returns-in_err-push-clause-extends c =
    extends_through (texts_in c.args.texts.now) (texts_in c.loop-class.texts)
    (texts_in c.add_pool.new.self) c.loop-class.invariant.extends c.add_pool.ensures.extends

pub loop-class-preserved : goal.loop-class-preserved
loop-class-preserved c =
    let given = c.args.given.now in
    let i = c.loop-class.class-index in
    let class = c.class-item.result in
    let old = c.args.texts.now in
    let new = c.add_pool.new.self in
    let n = c.in_ok-number_of.ensures in
    let l = c.len.ensures in
    let last : c.in_ok-number_of.field-0 ≡ length c.loop-class.files.items = omega (arith, n, l, c.loop-class.files.ok.0) in
    let G : List ClassDef → Type 0 = λ g. AreFilesSoFar old new g c.push.new.self.items in
    let numbers = c.in_ok-numbers.numbers in
    let E : List Entry → Type 0 = λ entries.
    (index : ℕ) → IsNumberOf (texts_in new) (utf8_at entries index) (slice_index_or numbers.items index None) in
    subst G (ap (λ x. take i given ++ x ∷ []) c.class-item.is ∙ sym (take_more given i class c.loop-class-test.true))
    (file_pushed old c.loop-class.texts new (take i given) c.loop-class.files.items c.push.new.self.items _ c.in_ok-number_of.field-0 numbers
    c.in_ok-push.ensures.items last c.loop-class.invariant c.add_pool.ensures.are c.add_pool.ensures.extends
    (subst E c.as_slice.ensures c.in_ok-numbers.ensures.numbers))

pub returns-clause-are : goal.returns-clause-are
returns-clause-are c = c.loop-class.invariant.are

pub returns-clause-extends : goal.returns-clause-extends
returns-clause-extends c = c.loop-class.invariant.extends

pub returns-clause-files : goal.returns-clause-files
returns-clause-files c =
    let G : List ClassDef → Type 0 = λ given. AreFilesSoFar c.args.texts.now c.loop-class.texts given c.loop-class.files.items in
    (subst G (take_all c.loop-class.class-index c.args.given.now c.loop-class-test.false) c.loop-class.invariant).files
