use Rattle.std.proofs.Common.{sym, ◌∙◌, ap}
use Rattle.fm_link_names.specs.inner.Numbering.{texts_in}
use Rattle.fm_link_refusals.proofs.not_implemented.is_left_over.Goals as goal
use Rattle.fm_link_refusals.specs.inner.LeftOver.{is_open}

pub returns-in-Some : goal.returns-in-Some
returns-in-Some c = λ classes linked within inside.
    let texts = texts_in c.args.linking.texts.now in
    c.is_abstract.ensures classes linked
    ∙ ap (is_open classes) (sym c.in-Some.is ∙ c.select.ensures texts classes linked.methods linked.hierarchy within inside)

pub returns-in-None : goal.returns-in-None
returns-in-None c = λ classes linked within inside.
    let texts = texts_in c.args.linking.texts.now in
    ap (is_open classes) (sym c.in-None.is ∙ c.select.ensures texts classes linked.methods linked.hierarchy within inside)
