use Rattle.std.proofs.Common.{rules, ◌≡◌, ◌<◌, ◌∙◌, sym, subst, Bool, false, length}
use Rattle.std.specs.Prelude.{Decides, slice_index}
use Rattle.fm_code.specs.contracts.instructions.InsnPartialEq.TheImpl as same_insn
use Rattle.fm_code.specs.SpellsCode.{with_targets}
use Rattle.fm_audit.proofs.KeptLemmas.{kept_by}
use Rattle.fm_audit.proofs.SameLemmas.{insn_decides}
use Rattle.fm_audit.specs.Reading.{is_widened}
use Rattle.fm_audit.proofs.kept.is_kept.Goals as goal

pub returns-clause-is : goal.returns-clause-is
returns-clause-is c =
    let a = c.index-items-0.result in
    let meant = c.in_ok-meant.meant in
    let some : 0 < length c.args.items.now = search rules in
    let same : is_widened c.args.item.now c.args.items.now ≡ false = sym c.is_widened.ensures.widened ∙ c.if-is_widened.false in
    let meant_is : meant ≡ with_targets (slice_index c.args.anchors.now) c.args.item.now.insn = search rules in
    let tested : c.eq.result ≡ (same_insn.ghosts).eq a.insn meant = search rules in
    kept_by c.args.anchors.now c.args.number c.args.item.now c.args.items.now a meant c.eq.result some c.index-items-0.is same meant_is
    (subst (λ (r : Bool). Decides r (a.insn ≡ meant)) (sym tested) (insn_decides a.insn meant))
