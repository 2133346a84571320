use Rattle.std.proofs.Common.{◌∙◌, ℕ, List, ap, arith, map}
use Rattle.std.specs.Borrow.{Bor}
use Rattle.std.proofs.lemmas.List.{take_all}
use Rattle.fm_link_names.specs.inner.DescriptorTypes.{type_of_name}
use Rattle.fm_link_names.proofs.descriptors.types_by_text.Goals as goal

pub returns : goal.returns
returns c = λ classes are.
    c.loop-text.invariant classes are
    ∙ ap (map (λ (t : Bor (List ℕ)). type_of_name classes t.now))
    (take_all c.loop-text.text-index c.args.texts.now (omega (arith, c.loop-text-test.false)))
