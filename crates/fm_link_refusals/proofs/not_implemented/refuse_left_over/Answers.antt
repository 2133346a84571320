use Rattle.std.proofs.Common.{sym, ◌∙◌}
use Rattle.fm_link_names.specs.inner.Numbering.{texts_in}
use Rattle.fm_link_refusals.proofs.LeftOver.{none_abstract, none_interface}
use Rattle.fm_link_refusals.proofs.LeftOverCounts.{nothing_left}
use Rattle.fm_link_refusals.specs.inner.GivenClasses.{class_in}
use Rattle.fm_link_refusals.proofs.not_implemented.refuse_left_over.Goals as goal

pub returns-then-has_flag : goal.returns-then-has_flag
returns-then-has_flag c = λ classes linked within are.
    none_abstract classes (class_in c.args.file.now) c.args.class (sym c.has_flag.ensures ∙ c.if-has_flag.true)

pub returns-then-has_flag-2 : goal.returns-then-has_flag-2
returns-then-has_flag-2 c = λ classes linked within are.
    none_interface classes (class_in c.args.file.now) c.args.class (sym c.has_flag.ensures ∙ c.if-has_flag.false)
    (sym c.has_flag-2.ensures ∙ c.if-has_flag-2.true)

pub returns-then-is_clear : goal.returns-then-is_clear
returns-then-is_clear c = λ classes linked within are.
    nothing_left (texts_in c.args.linking.texts.now) classes c.args.linking.methods.now (class_in c.args.file.now) c.args.class linked.methods within
    (sym c.has_flag.ensures ∙ c.if-has_flag.false) (sym c.has_flag-2.ensures ∙ c.if-has_flag-2.false)
    ((c.is_clear.ensures classes linked within are).0 c.if-is_clear.true).1

pub returns : goal.returns
returns c = λ classes linked within are.
    c.refuse_first.ensures classes linked within (sym c.has_flag.ensures ∙ c.if-has_flag.false) (sym c.has_flag-2.ensures ∙ c.if-has_flag-2.false)
