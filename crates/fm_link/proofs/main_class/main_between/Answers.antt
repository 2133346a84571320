use Rattle.std.proofs.Common.{sym, ◌∙◌}
use Rattle.fm_link_names.specs.inner.Numbering.{texts_in}
use Rattle.fm_link.proofs.MainMethods.{first_here, first_next, first_none}
use Rattle.fm_link.specs.inner.MainClass.{is_main_at}
use Rattle.fm_link.proofs.main_class.main_between.Goals as goal

pub loop-method-preserved : goal.loop-method-preserved
loop-method-preserved c =
    sym (first_next (is_main_at (texts_in c.args.texts.now) c.args.methods.now.rows.items) c.loop-method.method c.args.end c.loop-method-test.true
    (sym c.is_main.ensures ∙ c.if-is_main.false))
    ∙ c.loop-method.invariant

pub returns-then-is_main : goal.returns-then-is_main
returns-then-is_main c =
    sym (first_here (is_main_at (texts_in c.args.texts.now) c.args.methods.now.rows.items) c.loop-method.method c.args.end c.loop-method-test.true
    (sym c.is_main.ensures ∙ c.if-is_main.true))
    ∙ c.loop-method.invariant

pub returns : goal.returns
returns c =
    sym (first_none (is_main_at (texts_in c.args.texts.now) c.args.methods.now.rows.items) c.loop-method.method c.args.end c.loop-method-test.false)
    ∙ c.loop-method.invariant
