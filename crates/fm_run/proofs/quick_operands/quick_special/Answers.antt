use Rattle.std.proofs.Common.{◌≡◌, ◌+◌, ap, sym, ◌∙◌, subst}
use Rattle.fm_frames.specs.CallRows.{words_of_arguments}
use Rattle.fm_frames.specs.Runnable.{IsUseIn}
use Rattle.fm_run.proofs.quick_operands.quick_special.Goals as goal
use Rattle.fm_run.specs.inner.Operands.{as_short, quick_special, special_at, target_of}

pub special_method-target-requires-clause-method : goal.special_method-target-requires-clause-method
special_method-target-requires-clause-method c = (subst (λ u. IsUseIn c.args.program.now.outline u) c.in-OfMethod.is c.requires.inside).0

pub special_method-target-requires-clause-named : goal.special_method-target-requires-clause-named
special_method-target-requires-clause-named c = (subst (λ u. IsUseIn c.args.program.now.outline u) c.in-OfMethod.is c.requires.inside).1

pub words_with_receiver-requires : goal.words_with_receiver-requires
words_with_receiver-requires c = (subst (λ u. IsUseIn c.args.program.now.outline u) c.in-OfMethod.is c.requires.inside).0

pub returns-in-OfMethod : goal.returns-in-OfMethod
returns-in-OfMethod c =
    let o = c.args.program.now.outline in
    let target_is : c.special_method-target.result.0 ≡ target_of o c.args.caller.0 c.in-OfMethod.m c.in-OfMethod.named = c.special_method-target.ensures in
    let short_is : c.as_short.result ≡ as_short (words_of_arguments o c.in-OfMethod.m.0 + 1) = c.as_short.ensures ∙ ap as_short c.words_with_receiver.ensures in
    c.special_at.ensures ∙ (λ i. special_at (target_is i) (short_is i)) ∙ ap (quick_special o c.args.caller.0) (sym c.in-OfMethod.is)
