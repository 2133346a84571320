use Rattle.std.proofs.Common.{sym, ◌∙◌, ap, subst, ℕ, List}
use Rattle.std.specs.Borrow.{Bor}
use Rattle.fm_link_names.specs.inner.Numbering.{lent, texts_in}
use Rattle.fm_link_records.specs.inner.TextNumbers.{literals_by, AreApart}
use Rattle.fm_link_refusals.specs.inner.GivenClasses.{given_in}
use Rattle.fm_link_program.proofs.NamedSteps.{apart, is_resolving, modified_texts, named-made}
use Rattle.fm_link_program.proofs.named.named_of.Goals as goal

pub of-requires-2-clause-apart : goal.of-requires-2-clause-apart
of-requires-2-clause-apart c =
    subst (λ (ts : List (Bor (List ℕ))). AreApart (lent ts)) (sym c.as_slice-texts.ensures.keys) (apart c.args.linking.texts.now c.requires.linked.texts)

pub of-requires-2-clause-modified : goal.of-requires-2-clause-modified
of-requires-2-clause-modified c =
    modified_texts (texts_in c.args.linking.texts.now) (lent c.as_slice-texts.result.now) (given_in c.args.files.now) c.args.files.now
    c.as_slice-3.result.now c.requires.spelled c.requires.files (ap lent c.as_slice-texts.ensures.keys)
    (c.as_slice-3.ensures.value ∙ c.in_ok-spelled.ensures)

pub uses_of-requires-clause-resolving : goal.uses_of-requires-clause-resolving
uses_of-requires-clause-resolving c =
    is_resolving _ (given_in c.args.files.now) c.as_slice-texts.result.now c.requires.linked c.requires.types c.in_ok-types.ensures.few
    c.as_slice-texts.ensures.keys c.in_ok-literals.ensures.numbers

pub returns : goal.returns
returns c =
    let naming = c.as_slice-3.result.now in
    named-made (texts_in c.args.linking.texts.now) (given_in c.args.files.now) c.args.files.now c.args.linking.hierarchy.now.classes.now
    c.args.by_text.now c.argument_array.result c.as_slice.result.now c.as_slice-2.result.now naming
    (record { types = c.in_ok-types.types; literals = c.in_ok-literals.literals; uses = c.in_ok-uses.uses }) c.requires.linked.hierarchy.classes_are
    c.requires.types c.requires.spelled c.requires.files
    (c.argument_array.ensures _ c.requires.named)
    (c.as_slice.ensures.value ∙ c.in_ok-used.ensures) (c.as_slice-2.ensures.value ∙ c.in_ok-arrays.ensures)
    (c.as_slice-3.ensures.value ∙ c.in_ok-spelled.ensures)
    c.in_ok-types.ensures.types c.in_ok-types.ensures.few
    (c.in_ok-literals.ensures.units ∙ ap (λ (ts : List (Bor (List ℕ))). literals_by (lent ts) naming) c.as_slice-texts.ensures.keys)
    c.in_ok-uses.ensures
