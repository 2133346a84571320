use Rattle.std.proofs.Common.{sym, ◌∙◌, ap, map, option_copied}
use Rattle.fm_link_names.proofs.MarkLemmas.{caught_none, caught_some}
use Rattle.fm_link_names.proofs.used.handlers_of.Goals as goal

pub returns-in-Some : goal.returns-in-Some
returns-in-Some c =
    ap (map (λ h. h.catch_class)) c.as_slice.ensures
    ∙ sym (caught_some c.args.method.now c.in-Some.code.now (sym c.code.ensures ∙ ap option_copied c.in-Some.is))

pub returns-in-None : goal.returns-in-None
returns-in-None c = sym (caught_none c.args.method.now (sym c.code.ensures ∙ ap option_copied c.in-None.is))
