use Rattle.std.proofs.Common.{◌≡◌, ap, sym, ◌∙◌, subst}
use Rattle.fm_frames.specs.CallRows.{words_of_arguments}
use Rattle.fm_frames.specs.Runnable.{IsUseIn}
use Rattle.fm_run.proofs.quick_operands.quick_static.Goals as goal
use Rattle.fm_run.specs.inner.Operands.{as_short, quick_static, static_at}

pub words_of_arguments-requires : goal.words_of_arguments-requires
words_of_arguments-requires c = (subst (λ u. IsUseIn c.args.program.now.outline u) c.in-OfMethod.is c.requires).0

pub returns-in-OfMethod : goal.returns-in-OfMethod
returns-in-OfMethod c =
    let o = c.args.program.now.outline in
    let short_is : c.as_short.result ≡ as_short (words_of_arguments o c.in-OfMethod.m.0) = c.as_short.ensures ∙ ap as_short c.words_of_arguments.ensures in
    c.static_at.ensures ∙ ap (static_at c.in-OfMethod.m) short_is ∙ ap (quick_static o) (sym c.in-OfMethod.is)
