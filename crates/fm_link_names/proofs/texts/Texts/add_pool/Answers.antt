use Rattle.std.proofs.Common.{sym, ◌∙◌, ap, subst, List, [], ◌∷◌, ◌++◌, take, Option, ℕ}
use Rattle.std.proofs.lemmas.List.{take_all, take_more}
use Rattle.fm_code.specs.declared.constant_pool.Entry.{Entry}
use Rattle.fm_link_names.proofs.FileLemmas.{AreNumbered, entry_numbered, extends_through, none_numbered}
use Rattle.fm_link_names.specs.inner.Numbering.{texts_in}
use Rattle.fm_link_names.proofs.texts.Texts.add_pool.Goals as goal

pub loop-entry-init : goal.loop-entry-init
loop-entry-init c =
    let P : List (Option ℕ) → Type 0 = λ ns. AreNumbered c.args.self.now c.args.self.now [] ns in
    subst P (sym c.in_ok-numbers.ensures.items) (none_numbered c.args.self.now c.requires)

pub add_entry-requires : goal.add_entry-requires
add_entry-requires c = c.loop-entry.invariant.are

pub returns-in_err-add_entry-clause-extends : goal.returns-in_err-add_entry-clause-extends
returns-in_err-add_entry-clause-extends c =
    extends_through (texts_in c.args.self.now) (texts_in c.loop-entry.self)
    (texts_in c.add_entry.new.self) c.loop-entry.invariant.extends c.add_entry.ensures.extends

pub returns-in_err-push-clause-extends : goal.returns-in_err-push-clause-extends
returns-in_err-push-clause-extends c =
    extends_through (texts_in c.args.self.now) (texts_in c.loop-entry.self)
    (texts_in c.add_entry.new.self) c.loop-entry.invariant.extends c.add_entry.ensures.extends

pub loop-entry-preserved : goal.loop-entry-preserved
loop-entry-preserved c =
    let entries = c.args.entries.now in
    let i = c.loop-entry.entry-index in
    let e = c.entry-item.result in
    let old = c.args.self.now in
    let new = c.add_entry.new.self in
    let E : List Entry → Type 0 = λ es. AreNumbered old new es c.push.new.self.items in
    let N : List (Option ℕ) → Type 0 = λ ns. AreNumbered old new (take i entries ++ e ∷ []) ns in
    subst E (ap (λ x. take i entries ++ x ∷ []) c.entry-item.is ∙ sym (take_more entries i e c.loop-entry-test.true))
    (subst N (sym c.in_ok-push.ensures.items)
    (entry_numbered old c.loop-entry.self new (take i entries) c.loop-entry.numbers.items e c.in_ok-add_entry.field-0 c.loop-entry.invariant
    c.add_entry.ensures.are c.add_entry.ensures.extends c.in_ok-add_entry.ensures.number))

pub returns-clause-are : goal.returns-clause-are
returns-clause-are c = c.loop-entry.invariant.are

pub returns-clause-extends : goal.returns-clause-extends
returns-clause-extends c = c.loop-entry.invariant.extends

pub returns-clause-numbers : goal.returns-clause-numbers
returns-clause-numbers c =
    let E : List Entry → Type 0 = λ es. AreNumbered c.args.self.now c.loop-entry.self es c.loop-entry.numbers.items in
    (subst E (take_all c.loop-entry.entry-index c.args.entries.now c.loop-entry-test.false) c.loop-entry.invariant).each
