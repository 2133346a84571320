use Rattle.std.proofs.Common.{Ok, arith, ap, ◌∙◌, sym, subst}
use Rattle.fm_frames.proofs.HeldCounts.{counts-freed}
use Rattle.fm_frames.proofs.machine.Machine.free_object.Goals as goal
use Rattle.fm_frames.specs.States.{State}
use Rattle.fm_frames.specs.inner.Places.{CountsFrees}

pub returns-in-Ok-Done-clause-counts : goal.returns-in-Ok-Done-clause-counts
returns-in-Ok-Done-clause-counts g c =
    counts-freed _ (g.M.Memory.store c.free.new.self) c.args.cell.0 c.object_words-words.result
    (sym (ap Ok c.in-Ok-Done.field-0-is) ∙ sym c.in-Ok-Done.is ∙ c.free.ensures.answer) c.free.ensures.freed
    (omega (arith, c.object_words-words.type_inv)) (subst (λ (x : State). CountsFrees x.areas) (sym c.self.view_is) c.requires)
