use Rattle.std.proofs.Common.{◌≡◌, ◌∙◌, ap, sym, set, cond, Bool, true, false}
use Rattle.std.proofs.lemmas.List.{set-get_or}
use Rattle.fm_check_rows.specs.Outcomes.{marks}
use Rattle.fm_types.specs.States.{local_at}
use Rattle.fm_types.specs.declared.slots.Slot.TheVariants as slot
use Rattle.fm_check_rows.proofs.object_rows.replace_slot.Goals as goal

pub returns-then-not-is_marked : goal.returns-then-not-is_marked
returns-then-not-is_marked c =
    let slots = c.args.slots.now in
    let own = local_at slots c.args.number in
    let off : marks c.args.mark own ≡ false = ap (marks c.args.mark) (sym c.slot.ensures) ∙ sym c.is_marked.ensures ∙ c.if-not-is_marked.true in
    sym (set-get_or slots c.args.number slot.Top) ∙ ap (λ (b : Bool). set slots c.args.number (cond b c.args.other own)) (sym off)

pub returns : goal.returns
returns c =
    let slots = c.args.slots.now in
    let own = local_at slots c.args.number in
    let on : marks c.args.mark own ≡ true = ap (marks c.args.mark) (sym c.slot.ensures) ∙ sym c.is_marked.ensures ∙ c.if-not-is_marked.false in
    c.in_ok-set.ensures ∙ ap (λ (b : Bool). set slots c.args.number (cond b c.args.other own)) (sym on)
