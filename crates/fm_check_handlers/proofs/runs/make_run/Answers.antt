use Rattle.std.proofs.Common.{refl, sym, subst, List}
use Rattle.fm_check_handlers.proofs.RunLemmas.{more-pushed, more-then}
use Rattle.fm_check_handlers.specs.declared.runs.Run.{Run}
use Rattle.fm_check_handlers.specs.inner.Runs.{AreMore}
use Rattle.fm_check_handlers.proofs.runs.make_run.Goals as goal

pub loop-alloc-preserved : goal.loop-alloc-preserved
loop-alloc-preserved c =
    subst (λ (runs : List Run). AreMore (λ place h. ⊥) c.args.runs.now.items runs) (sym c.in_ok-push.ensures.items)
    (more-then (λ place h. ⊥) (λ place h. ⊥) (λ place h. ⊥) c.args.runs.now.items c.loop-alloc.runs.items _ (λ place h never. never)
    (λ place h never. never) c.loop-alloc.invariant (more-pushed c.loop-alloc.runs.items _ c.new.ensures.items refl))
