use Rattle.std.proofs.Common.{sym, subst, List, Contains}
use Rattle.fm_check_handlers.proofs.GivingLemmas.{left_can, left_gives}
use Rattle.fm_check_walk.proofs.Outcomes.{ok_weaker}
use Rattle.fm_check_walk.specs.declared.risen.Rise.{Rise}
use Rattle.fm_check_handlers.specs.inner.Runs.{GivesRun, has_room, CarriesHandlers}
use Rattle.fm_check_walk.specs.inner.Walks.{CanCarry, Untypable, walked}
use Rattle.fm_check_walk.specs.inner.Tasks.{task}
use Rattle.fm_code.specs.declared.code_array.Handler.{Handler}
use Rattle.fm_check_handlers.proofs.catching.carry_to_run.Goals as goal

pub carry_to_handlers-requires-clause-carried : goal.carry_to_handlers-requires-clause-carried
carry_to_handlers-requires-clause-carried c = λ h found.
    let t = task c.args.method.now in
    let w = walked c.args.walk.now in
    subst (λ (xs : List Rise). CanCarry t w h.handler xs) (sym c.as_slice-2.ensures.value)
    (left_can t w c.args.rises.now c.in_ok-left.left.items c.args.run.now c.raise_run.new.run c.in_ok-left.ensures c.requires.given c.requires.carried h
    (subst (λ (hs : List Handler). Contains hs h) c.as_slice.ensures.value found))

pub returns : goal.returns
returns c =
    let t = task c.args.method.now in
    let old = walked c.args.walk.now in
    let new = walked c.carry_to_handlers.new.walk in
    ok_weaker (CarriesHandlers t c.as_slice-2.result.now c.as_slice.result.now old new)
    (GivesRun (has_room t c.args.rises.now) t c.args.run.now c.raise_run.new.run old new) (Untypable t) c.carry_to_handlers.result
    (λ carries.
    let Of : List Rise → Type 0 = λ xs. CarriesHandlers t xs c.as_slice.result.now old new in
    let To : List Handler → Type 0 = λ hs. CarriesHandlers t c.in_ok-left.left.items hs old new in
    left_gives t c.args.rises.now c.in_ok-left.left.items c.args.run.now c.raise_run.new.run old new c.requires.sound c.requires.local
    c.in_ok-left.ensures c.requires.given c.requires.carried (subst To c.as_slice.ensures.value (subst Of c.as_slice-2.ensures.value carries)))
    c.carry_to_handlers.ensures
