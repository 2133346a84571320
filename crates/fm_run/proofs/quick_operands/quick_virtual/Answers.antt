use Rattle.std.proofs.Common.{◌≡◌, ◌+◌, ap, sym, ◌∙◌, subst}
use Rattle.fm_frames.specs.CallRows.{words_of_arguments}
use Rattle.fm_frames.specs.Runnable.{IsUseIn}
use Rattle.fm_run.proofs.quick_operands.quick_virtual.Goals as goal
use Rattle.fm_run.specs.inner.Operands.{as_byte, as_short, quick_virtual, virtual_at}

pub words_with_receiver-requires : goal.words_with_receiver-requires
words_with_receiver-requires c = (subst (λ u. IsUseIn c.args.program.now.outline u) c.in-OfMethod.is c.requires).0

pub returns-in-OfMethod : goal.returns-in-OfMethod
returns-in-OfMethod c =
    let o = c.args.program.now.outline in
    let short_is : c.as_short.result ≡ as_short c.in-OfMethod.named.0 = c.as_short.ensures in
    let byte_is : c.as_byte-words.result ≡ as_byte (words_of_arguments o c.in-OfMethod.m.0 + 1) = c.as_byte-words.ensures ∙ ap as_byte c.words_with_receiver.ensures in
    c.virtual_at.ensures ∙ (λ i. virtual_at c.in-OfMethod.m (short_is i) (byte_is i)) ∙ ap (quick_virtual o) (sym c.in-OfMethod.is)
