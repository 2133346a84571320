use Rattle.std.proofs.Common.{sym, ◌∙◌, ap, option_copied}
use Rattle.fm_link_names.proofs.MarkLemmas.{items_none, items_some}
use Rattle.fm_link_names.proofs.used.items_of.Goals as goal

pub returns-in-Some : goal.returns-in-Some
returns-in-Some c = c.as_slice.ensures ∙ sym (items_some c.args.method.now c.in-Some.code.now (sym c.code.ensures ∙ ap option_copied c.in-Some.is))

pub returns-in-None : goal.returns-in-None
returns-in-None c = sym (items_none c.args.method.now (sym c.code.ensures ∙ ap option_copied c.in-None.is))
