use Rattle.std.proofs.Common.{◌≡◌, ◌∙◌, sym, ap, subst}
use Rattle.std.proofs.lemmas.Bool.{false≢true}
use Rattle.fm_code.specs.FreeEntries.{with_free}
use Rattle.fm_code.specs.contracts.constant_pool.PoolPartialEq.TheImpl as same_pool
use Rattle.fm_code.specs.declared.constant_pool.Pool.{Pool}
use Rattle.fm_place_weave.specs.ClassByPlan.{IsFull}
use Rattle.fm_audit_classes.proofs.HeadLemmas.{never_full_pool}
use Rattle.fm_audit.proofs.SameLemmas.{pool_decides}
use Rattle.fm_audit_classes.proofs.heads.has_pool_of.Goals as goal

pub returns-in-Ok : goal.returns-in-Ok
returns-in-Ok c =
    let tested : c.eq.result ≡ (same_pool.ghosts).eq c.in-Ok.made.pool c.args.written.now.pool = c.eq.ensures in
    let decides = pool_decides c.in-Ok.made.pool c.args.written.now.pool in (
      λ is. ap (λ (p : Pool). p.entries) (sym (decides.0 (sym tested ∙ is))) ∙ c.in-Ok.ensures.pool,
      λ same. tested ∙ decides.1 (λ k. record { entries = (c.in-Ok.ensures.pool ∙ sym same) k }),
    )

pub returns-in-Err-Full : goal.returns-in-Err-Full
returns-in-Err-Full c = (
  λ is. absurd (false≢true is),
  λ same. absurd (never_full_pool c.args.class.now c.args.written.now c.requires.written
      (subst (IsFull (with_free c.args.class.now.pool.entries)) c.in-Err-Full.field-0-is c.in-Err-Full.ensures.refused).0 same),
)
