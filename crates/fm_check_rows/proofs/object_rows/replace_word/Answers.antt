use Rattle.std.proofs.Common.{◌≡◌, ◌∙◌, ap, sym, set, cond, Bool, true, false}
use Rattle.std.proofs.lemmas.List.{set-get_or}
use Rattle.fm_check_rows.proofs.MarkLemmas.{marked-at}
use Rattle.fm_check_rows.specs.Outcomes.{marks}
use Rattle.fm_types.specs.States.{local_at}
use Rattle.fm_types.specs.declared.slots.Slot.TheVariants as slot
use Rattle.fm_check_rows.proofs.object_rows.replace_word.Goals as goal

pub returns-then-not-is_marked_at : goal.returns-then-not-is_marked_at
returns-then-not-is_marked_at c =
    let stack = c.args.stack.now in
    let own = local_at stack c.args.depth in
    let off : marks c.args.mark own ≡ false =
    sym (marked-at c.args.mark stack c.args.depth c.requires) ∙ sym c.is_marked_at.ensures ∙ c.if-not-is_marked_at.true in
    sym (set-get_or stack c.args.depth slot.Top) ∙ ap (λ (b : Bool). set stack c.args.depth (cond b c.args.other own)) (sym off)

pub returns : goal.returns
returns c =
    let stack = c.args.stack.now in
    let own = local_at stack c.args.depth in
    let on : marks c.args.mark own ≡ true =
    sym (marked-at c.args.mark stack c.args.depth c.requires) ∙ sym c.is_marked_at.ensures ∙ c.if-not-is_marked_at.false in
    c.in_ok-set.ensures ∙ ap (λ (b : Bool). set stack c.args.depth (cond b c.args.other own)) (sym on)
