use Rattle.std.proofs.Common.{arith, not, sym, ◌<◌, ◌^◌, ◌∙◌, ap, refl, subst, cond, false, true, is_some, [], ◌∷◌, ◌++◌, set, Some}
use Rattle.std.proofs.lemmas.List.Elements.{All-from_recursion}
use Rattle.fm_base.specs.Texts.{units, IsModifiedUtf8}
use Rattle.fm_link_records.specs.inner.TextNumbers.{units_at, AreNumbered}
use Rattle.fm_link_records.proofs.LiteralSteps.{has_number, lent_at, numbered_more}
use Rattle.fm_link_records.proofs.literals.Literals.add.Goals as goal
use Rattle.fm_link_names.specs.inner.Numbering.{lent}

pub from_modified_utf8-requires : goal.from_modified_utf8-requires
from_modified_utf8-requires c =
    let modified = subst IsModifiedUtf8 (lent_at c.args.texts.now c.args.text _ refl) c.requires.modified.modified in
    All-from_recursion (λ unit. unit < 2 ^ 16) _ modified.in_range

pub returns-in_ok-push-clause-units : goal.returns-in_ok-push-clause-units
returns-in_ok-push-clause-units c =
    let found = c.args.self.now.units.items in
    let us = units_at (lent c.args.texts.now) c.args.text in
    let fresh = has_number (lent c.args.texts.now) found c.args.self.now.by_text.items c.args.text false c.requires.numbers c.requires.modified
    (ap is_some (sym c.number.ensures) ∙ c.is_none.ensures ∙ ap not c.if-is_none.true) in
    c.in_ok-push.ensures.items
    ∙ ap (λ u. found ++ u ∷ []) (c.in_ok-from_modified_utf8.ensures ∙ ap units (sym (lent_at c.args.texts.now c.args.text _ refl)))
    ∙ sym (ap (λ b. cond b found (found ++ us ∷ [])) fresh)

pub returns-in_ok-push-clause-numbers : goal.returns-in_ok-push-clause-numbers
returns-in_ok-push-clause-numbers c =
    let texts = lent c.args.texts.now in
    let found = c.args.self.now.units.items in
    let by_text = c.args.self.now.by_text.items in
    let found_len = c.args.self.now.units.ok.0 in
    let fresh = has_number texts found by_text c.args.text false c.requires.numbers c.requires.modified
    (ap is_some (sym c.number.ensures) ∙ c.is_none.ensures ∙ ap not c.if-is_none.true) in
    let pushed = c.in_ok-push.ensures.items ∙ ap (λ u. found ++ u ∷ []) (c.in_ok-from_modified_utf8.ensures
    ∙ ap units (sym (lent_at c.args.texts.now c.args.text _ refl))) in
    subst (λ fs. AreNumbered texts fs (set by_text c.args.text (Some c.in_ok-number.number))) (sym pushed)
    (numbered_more texts found by_text c.args.text c.in_ok-number.number c.requires.numbers c.requires.apart c.requires.modified
    (omega (arith, c.in_ok-number.ensures, c.len.ensures, found_len)) fresh)

pub returns-else-is_none-clause-units : goal.returns-else-is_none-clause-units
returns-else-is_none-clause-units c =
    let found = c.args.self.now.units.items in
    let us = units_at (lent c.args.texts.now) c.args.text in
    sym (ap (λ b. cond b found (found ++ us ∷ []))
    (has_number (lent c.args.texts.now) found c.args.self.now.by_text.items c.args.text true c.requires.numbers c.requires.modified
    (ap is_some (sym c.number.ensures) ∙ c.is_none.ensures ∙ ap not c.if-is_none.false)))
