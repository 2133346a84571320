use Rattle.std.proofs.Common.{◌≡◌, ◌∷◌, [], List, length, refl, sym, ap, ◌∙◌, arith}
use Rattle.std.specs.Vec.Iter.{into_iter_items}
use Rattle.std.proofs.lemmas.Result.{err_from_is_err_and}
use Rattle.fm_code.specs.declared.code_array.Item.{Item}
use Rattle.fm_decode.specs.inner.Targets.{numbered_item, numbered_items}
use Rattle.fm_decode.proofs.GivesLemmas.{fails_from}
use Rattle.fm_decode.proofs.SwitchesLoops.{behind}
use Rattle.fm_decode.proofs.TargetsLemmas.{items_more, items_none, items_end}
use Rattle.fm_decode.proofs.targets.ItemStarts.numbered_items.Goals as goal

nothing_left : (items : List Item) → 0 ≡ length items → items ≡ []
nothing_left [] e = refl
nothing_left (item ∷ items) e = absurd (omega arith)

pub returns-in_err-numbered_item : goal.returns-in_err-numbered_item
returns-in_err-numbered_item c =
    let p = err_from_is_err_and c.from_residual-in_err-numbered_item.result c.from_residual-in_err-numbered_item.ensures.1 in
    let numbers = c.args.self.now.numbers.items in
    let here = c.loop-draft in
    let draft = c.in-Some.draft in
    let rest = into_iter_items c.next.new.self in
    let steps : into_iter_items here.draft-iterator ≡ draft ∷ rest = c.in-Some.ensures.steps.0 in
    let so_far = here.invariant.numbered ∙ ap (λ (drafts : List Item). behind here.items.items (numbered_items numbers drafts)) steps in
    rw (p.1, p.2)
    (fails_from c.in_err-numbered_item.field-0.0 (numbered_item numbers draft) (numbered_items numbers c.args.drafts.items)
    (λ none. items_none numbers (numbered_items numbers c.args.drafts.items) here.items.items draft rest so_far none)
    c.in_err-numbered_item.ensures)

pub loop-draft-preserved : goal.loop-draft-preserved
loop-draft-preserved c =
    let numbers = c.args.self.now.numbers.items in
    let here = c.loop-draft in
    let draft = c.in-Some.draft in
    let rest = into_iter_items c.next.new.self in
    let steps : into_iter_items here.draft-iterator ≡ draft ∷ rest = c.in-Some.ensures.steps.0 in
    let so_far = here.invariant.numbered ∙ ap (λ (drafts : List Item). behind here.items.items (numbered_items numbers drafts)) steps in
    let more = items_more numbers (numbered_items numbers c.args.drafts.items) here.items.items draft rest c.in_ok-numbered_item.field-0 so_far c.in_ok-numbered_item.ensures in
    let count = here.invariant.count in
    let short = c.in-Some.ensures.steps.1 in
    let size = ap length steps in
    record {
      can_next = tt;
      is_finite = tt;
      count = omega arith;
      numbered = more ∙ ap (λ (items : List Item). behind items (numbered_items numbers rest)) (sym c.in_ok-push.ensures.items);
    }

pub returns : goal.returns
returns c =
    let numbers = c.args.self.now.numbers.items in
    let here = c.loop-draft in
    let none = c.in-None.ensures.steps in
    let empty : into_iter_items here.draft-iterator ≡ [] = nothing_left (into_iter_items here.draft-iterator) (sym none.0 ∙ here.invariant.count) in
    items_end numbers (numbered_items numbers c.args.drafts.items) here.items.items
    (here.invariant.numbered ∙ ap (λ (drafts : List Item). behind here.items.items (numbered_items numbers drafts)) empty)
