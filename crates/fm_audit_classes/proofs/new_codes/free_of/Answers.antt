use Rattle.std.proofs.Common.{◌≡◌, ◌<◌, ◌∙◌, sym, ap, subst, cond, length}
use Rattle.std.proofs.lemmas.Bool.{le-ltb, lt-ltb}
use Rattle.fm_chain.specs.declared.calls.Calls.{Calls}
use Rattle.fm_code.specs.FreeEntries.{with_free}
use Rattle.fm_place.specs.Rewriting.{free_index}
use Rattle.fm_place_weave.specs.ClassByPlan.{IsFull}
use Rattle.fm_pool.specs.declared.error.AddFail.{AddFail}
use Rattle.fm_audit_classes.proofs.new_codes.free_of.Goals as goal

pub returns-in-Ok : goal.returns-in-Ok
returns-in-Ok c =
    ap (λ (calls : Calls). calls.free) c.in-Ok.ensures.calls
    ∙ sym (ap (λ b. cond b 0 (free_index c.args.class.now)) (le-ltb 65535 (length (with_free c.args.class.now.pool.entries)) c.in-Ok.ensures.fits))

pub returns-in-Err-Full : goal.returns-in-Err-Full
returns-in-Err-Full c =
    let entries = with_free c.args.class.now.pool.entries in
    let full : (65535 < length entries) × (c.in-Err-Full.field-0-0 ≡ length entries) =
    subst (λ (fail : AddFail). IsFull entries fail) c.in-Err-Full.field-0-is c.in-Err-Full.ensures.refused in
    sym (ap (λ b. cond b 0 (free_index c.args.class.now)) (lt-ltb 65535 (length entries) full.0))
