use Rattle.std.proofs.Common.{◌∙◌, sym, ap, subst, List, Option, None}
use Rattle.std.specs.List.{slice_index_or}
use Rattle.fm_base.proofs.TestFacts.{match_true}
use Rattle.fm_check_handlers.proofs.GivingLemmas.{guarded-first}
use Rattle.fm_check.proofs.ItemLemmas.{popped-rise, Stands-taken, taken-inside, taken-met, takes-popped, Walking-more}
use Rattle.fm_types.specs.declared.known_state.SlotPlace.{SlotPlace}
use Rattle.fm_check.specs.inner.Steps.{GoesOverGuarded, IsMetBut}
use Rattle.fm_check_handlers.specs.inner.Runs.{IsGuarded, IsLaid}
use Rattle.fm_check_walk.specs.inner.Walks.{Untypable, walked}
use Rattle.fm_check_walk.specs.inner.Tasks.{task}
use Rattle.fm_code.specs.declared.code_array.Handler.{Handler}
use Rattle.fm_types.specs.States.{TypeState}
use Rattle.fm_check.proofs.steps.run.Goals as goal

pub take_risen-risen-requires : goal.take_risen-risen-requires
take_risen-risen-requires c =
    popped-rise (task c.args.method.now) c.in-Some.item (walked c.loop-item.walk) (walked c.next.new.self) c.loop-item.invariant.0.stands
    c.in-Some.ensures.some

pub go_over-requires-clause-stands : goal.go_over-requires-clause-stands
go_over-requires-clause-stands c =
    let w = walked c.loop-item.walk in
    let taken = walked c.take_risen-risen.new.self in
    let takes = takes-popped c.in-Some.item w (walked c.next.new.self) taken c.in-Some.ensures.some c.take_risen-risen.ensures.left in
    Stands-taken (task c.args.method.now) c.in-Some.item w taken c.loop-item.invariant.0.stands takes

pub go_over-requires-clause-inside : goal.go_over-requires-clause-inside
go_over-requires-clause-inside c =
    let w = walked c.loop-item.walk in
    let taken = walked c.take_risen-risen.new.self in
    let takes = takes-popped c.in-Some.item w (walked c.next.new.self) taken c.in-Some.ensures.some c.take_risen-risen.ensures.left in
    taken-inside (task c.args.method.now) c.in-Some.item w taken c.loop-item.invariant.0.stands takes

pub go_over-requires-clause-met : goal.go_over-requires-clause-met
go_over-requires-clause-met c =
    let t = task c.args.method.now in
    let w = walked c.loop-item.walk in
    let popped = walked c.next.new.self in
    let taken = walked c.take_risen-risen.new.self in
    let takes = takes-popped c.in-Some.item w popped taken c.in-Some.ensures.some c.take_risen-risen.ensures.left in
    let same = c.take_risen-risen.ensures.taken ∙ ap (λ (risen : List (Option (List SlotPlace))). slice_index_or risen c.in-Some.item None) c.in-Some.ensures.some.risen in
    subst (λ (rose : Option (List SlotPlace)). IsMetBut t taken.states rose c.in-Some.item) (sym same)
    (taken-met t c.in-Some.item w taken c.loop-item.invariant.0 takes)

pub loop-item-init : goal.loop-item-init
loop-item-init c =
    let t = task c.args.method.now in (
      c.requires.walking,
      guarded-first t (walked c.args.walk.now).states c.in_ok-levels.levels.items
          (subst (λ (hs : List Handler). IsLaid hs c.in_ok-levels.levels.items) c.as_slice.ensures c.in_ok-levels.ensures),
    )

pub go_over-requires-clause-guarded : goal.go_over-requires-clause-guarded
go_over-requires-clause-guarded c =
    let t = task c.args.method.now in
    let w = walked c.loop-item.walk in
    let taken = walked c.take_risen-risen.new.self in
    let takes = takes-popped c.in-Some.item w (walked c.next.new.self) taken c.in-Some.ensures.some c.take_risen-risen.ensures.left in
    subst (λ (states : List (Option TypeState)). IsGuarded t states c.loop-item.levels.items) (sym takes.states) c.loop-item.invariant.1

pub loop-item-preserved : goal.loop-item-preserved
loop-item-preserved c =
    let t = task c.args.method.now in
    let w = walked c.loop-item.walk in
    let taken = walked c.take_risen-risen.new.self in
    let takes = takes-popped c.in-Some.item w (walked c.next.new.self) taken c.in-Some.ensures.some c.take_risen-risen.ensures.left in
    let over = match_true (GoesOverGuarded t c.in-Some.item c.go_over.new.levels.items taken (walked c.go_over.new.walk)) (Untypable t)
    c.in_ok-go_over.field-0 c.if-not-branch.false c.in_ok-go_over.ensures in
    (Walking-more t c.in-Some.item w taken (walked c.go_over.new.walk) c.requires.sound c.loop-item.invariant.0 takes over.goes, over.guarded)
