use Rattle.std.proofs.Common.{◌≡◌, ◌∙◌, ap, sym, set}
use Rattle.std.proofs.lemmas.List.{set-get_or}
use Rattle.fm_types.specs.Joins.{join}
use Rattle.fm_types.specs.States.{local_at}
use Rattle.fm_types.specs.declared.slots.Slot.{Slot}
use Rattle.fm_types.specs.declared.slots.Slot.TheVariants as slot
use Rattle.fm_check_walk.proofs.merging.join_one.Goals as goal

pub returns-then-are_same : goal.returns-then-are_same
returns-then-are_same c =
    let o = c.args.program.now.outline in
    let slots = c.args.slots.now in
    let own = local_at slots c.args.number in
    let equal : c.join-joined.result ≡ c.slot-own.result = c.are_same.ensures c.if-are_same.true in
    let same : own ≡ join o own c.args.other =
    sym c.slot-own.ensures ∙ sym equal ∙ c.join-joined.ensures ∙ ap (λ (x : Slot). join o x c.args.other) c.slot-own.ensures in
    sym (set-get_or slots c.args.number slot.Top) ∙ ap (λ (x : Slot). set slots c.args.number x) same

pub returns : goal.returns
returns c =
    let o = c.args.program.now.outline in
    c.in_ok-set.ensures
    ∙ ap (λ (x : Slot). set c.args.slots.now c.args.number x) (c.join-joined.ensures ∙ ap (λ (x : Slot). join o x c.args.other) c.slot-own.ensures)
