use Rattle.std.proofs.Common.{sym, subst, List, ℕ, Bor, arith}
use Rattle.fm_link_names.proofs.TextLemmas.{at_most_one_more, extends_inserted, once_in_set, text_at_key}
use Rattle.fm_link_names.specs.inner.Numbering.{Extends, lent}
use Rattle.fm_link_names.proofs.texts.Texts.add.Goals as goal

pub returns-clause-are : goal.returns-clause-are
returns-clause-are c = record {
  once = once_in_set c.insert_full.new.self.keys c.insert_full.ensures.unique;
  fits = at_most_one_more c.args.self.now.texts.keys c.insert_full.new.self.keys c.in_ok-index.field-0-1 (omega (arith, c.if-len.false, c.len.ensures.len))
      c.in_ok-index.ensures.len;
}

pub returns-clause-extends : goal.returns-clause-extends
returns-clause-extends c =
    let old = c.args.self.now.texts.keys in
    subst (λ (keys : List (Bor (List ℕ))). Extends (lent old) (lent keys)) (sym c.in_ok-index.ensures.keys) (extends_inserted old c.args.text)

pub returns-clause-number : goal.returns-clause-number
returns-clause-number c =
    let stored = c.in_ok-index.ensures.stored in
    text_at_key c.insert_full.new.self.keys c.in_ok-index.index c.args.text.now stored.0 stored.1 stored.2
