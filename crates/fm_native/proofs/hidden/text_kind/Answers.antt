use Rattle.std.proofs.Common.{ap, sym, ◌∙◌}
use Rattle.fm_base.specs.declared.kinds.Kind.TheVariants as kind
use Rattle.fm_native.proofs.BuiltIns.{text-is}
use Rattle.fm_native.proofs.hidden.text_kind.Goals as goal

pub returns : goal.returns
returns c runnable = ap (λ t. kind.Ref t) (c.type_of_class.ensures ∙ sym (text-is c.args.program.now runnable))
