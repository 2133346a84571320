use Rattle.std.proofs.Common.{◌∙◌, sym, subst, ℕ, List, Contains}
use Rattle.fm_types.specs.Typings.{type_state}
use Rattle.fm_check.proofs.ItemLemmas.{BringsOn-all, item_small, items_forced, off_end}
use Rattle.fm_check_walk.proofs.Outcomes.{ok_weaker}
use Rattle.fm_check.specs.inner.Steps.{BringsAll, BringsOn}
use Rattle.fm_check_walk.specs.inner.Walks.{Untypable, walked}
use Rattle.fm_check_walk.specs.inner.Tasks.{task}
use Rattle.fm_check.proofs.steps.bring_on.Goals as goal

pub returns-then-falls_off : goal.returns-then-falls_off
returns-then-falls_off c =
    off_end (task c.args.method.now) c.args.item c.args.insn.now c.requires.item (sym c.falls_off.ensures ∙ c.if-falls_off.true)

pub next_items-requires : goal.next_items-requires
next_items-requires c = item_small (task c.args.method.now) c.args.item c.args.insn.now c.requires.sound c.requires.item

pub bring_to_all-requires-clause-forced : goal.bring_to_all-requires-clause-forced
bring_to_all-requires-clause-forced c = λ next found.
    let is = c.as_slice.ensures.value ∙ c.in_ok-items.ensures in
    items_forced (task c.args.method.now) c.args.item c.args.insn.now (type_state c.args.after.now) c.requires.sound c.requires.item
    (sym c.falls_off.ensures ∙ c.if-falls_off.false) c.requires.forced next (subst (λ (xs : List ℕ). Contains xs next) is found)

pub returns : goal.returns
returns c =
    let t = task c.args.method.now in
    let after = type_state c.args.after.now in
    let old = walked c.args.walk.now in
    let new = walked c.bring_to_all.new.walk in
    let is = c.as_slice.ensures.value ∙ c.in_ok-items.ensures in
    ok_weaker (BringsAll t c.as_slice.result.now after old new) (BringsOn t c.args.item c.args.insn.now after old new) (Untypable t)
    c.bring_to_all.result
    (λ all.
    let Of : List ℕ → Type 0 = λ xs. BringsAll t xs after old new in
    BringsOn-all t c.args.item c.args.insn.now after old new (sym c.falls_off.ensures ∙ c.if-falls_off.false) (subst Of is all))
    c.bring_to_all.ensures
