use Rattle.std.proofs.Common.{◌∙◌, Bool, false, List, get_or, heap_items, ap, sym}
use Rattle.fm_check_walk.proofs.TurnLemmas.{keys-passed, keys-taken}
use Rattle.fm_check_walk.proofs.turns.Turns.take.Goals as goal

pub invariant_of-self : goal.invariant_of-self
invariant_of-self c =
    let inside = c.loop-key.self-inside in
    let item = c.item_of-item.result in
    keys-taken inside.marks.items (heap_items inside.keys) (heap_items c.pop.new.self) c.in-Some.key item c.loop-key.invariant.1 c.in-Some.ensures.permutation
    c.item_of-item.ensures
    (ap (λ (marks : List Bool). get_or marks item false) (sym c.as_slice.ensures.value) ∙ sym c.is_marked.ensures ∙ c.if-is_marked.true)

pub loop-key-preserved : goal.loop-key-preserved
loop-key-preserved c =
    let inside = c.loop-key.self-inside in
    let item = c.item_of-item.result in (
      c.loop-key.invariant.0,
      keys-passed inside.marks.items (heap_items inside.keys) (heap_items c.pop.new.self) c.in-Some.key item c.loop-key.invariant.1 c.in-Some.ensures.permutation
          c.item_of-item.ensures
          (ap (λ (marks : List Bool). get_or marks item false) (sym c.as_slice.ensures.value) ∙ sym c.is_marked.ensures ∙ c.if-is_marked.false),
    )
