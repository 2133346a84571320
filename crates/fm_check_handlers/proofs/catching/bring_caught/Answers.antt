use Rattle.std.proofs.Common.{◌∙◌, sym, subst}
use Rattle.fm_types.specs.States.{TypeState}
use Rattle.fm_types.specs.Typings.{type_state}
use Rattle.fm_check_handlers.proofs.HandlerLemmas.{BringsCaught-brings, caught_forced, uncaught}
use Rattle.fm_check_walk.proofs.Outcomes.{ok_weaker}
use Rattle.fm_check_walk.specs.inner.Walks.{Brings, IsForced, Untypable, walked}
use Rattle.fm_check_handlers.specs.inner.Runs.{BringsCaught}
use Rattle.fm_check_walk.specs.inner.Tasks.{task}
use Rattle.fm_check_handlers.proofs.catching.bring_caught.Goals as goal

pub returns-in_default : goal.returns-in_default
returns-in_default c =
    uncaught (task c.args.method.now) c.args.item c.args.handler.now (type_state c.args.state.now) c.requires.forced c.requires.holds.listed
    c.requires.holds.after_start c.requires.holds.before_end (sym c.caught_type.ensures ∙ c.in_default.is)

pub bring-requires-clause-forced : goal.bring-requires-clause-forced
bring-requires-clause-forced c =
    let t = task c.args.method.now in
    let h = c.args.handler.now in
    let At : TypeState → Type 0 = λ x. IsForced t h.handler x in
    subst At (sym c.in_ok-brought.ensures)
    (caught_forced t c.args.item h c.in-Some.caught (type_state c.args.state.now) c.requires.sound c.requires.forced c.requires.holds.listed
    c.requires.holds.after_start c.requires.holds.before_end (sym c.caught_type.ensures ∙ c.in-Some.is))

pub returns : goal.returns
returns c =
    let t = task c.args.method.now in
    let h = c.args.handler.now in
    let s = type_state c.args.state.now in
    let old = walked c.args.walk.now in
    let new = walked c.bring.new.self in
    ok_weaker (Brings t h.handler (type_state c.in_ok-brought.brought) old new) (BringsCaught t c.args.item s h old new) (Untypable t) c.bring.result
    (λ brings.
    let At : TypeState → Type 0 = λ x. Brings t h.handler x old new in
    BringsCaught-brings t c.args.item s h c.in-Some.caught old new (sym c.caught_type.ensures ∙ c.in-Some.is) (subst At c.in_ok-brought.ensures brings))
    c.bring.ensures
