use Rattle.std.proofs.Common.{sym, ◌∙◌, ap, cond, None}
use Rattle.fm_link_members.specs.inner.Overriding.{own_selectable_in}
use Rattle.fm_link_members.proofs.overriding.overriding.Goals as goal

pub returns-then-can_override : goal.returns-then-can_override
returns-then-can_override c =
    c.own.ensures
    ∙ sym (ap (λ b. cond b (own_selectable_in c.args.methods.now c.args.signature c.args.class) None) (sym c.can_override.ensures ∙ c.if-can_override.true))

pub returns-else-can_override : goal.returns-else-can_override
returns-else-can_override c =
    sym (ap (λ b. cond b (own_selectable_in c.args.methods.now c.args.signature c.args.class) None) (sym c.can_override.ensures ∙ c.if-can_override.false))
